-- The order of rows, and that rows of equal keys are alike.
-- For `sort_rows`, `find_at`, `first_twin`.
use Rattle.std.proofs.Common.{◌≡◌, ℕ, List, refl, sym, ◌∙◌, ap}
use Rattle.std.specs.Ordering.{is_eq, nat_cmp, ordering_then}
use Rattle.std.specs.declared.cmp.Ordering.{Ordering}
use Rattle.std.specs.declared.cmp.Ordering.TheVariants.{Less, Equal, Greater}
use Rattle.std.specs.Cmp.{IsTotalOrder}
use Rattle.std.specs.Cmp.Lexicographic.{slice_cmp}
use Rattle.std.proofs.lemmas.Cmp.{nat_cmp_total, nat_list_cmp_total, on_total, then_total, ranked}
use Rattle.std.proofs.lemmas.Map.Text.{is_eq-slice_cmp}
use Rattle.std.proofs.lemmas.Slice.Eq.{bytes_eq-Decides}
use Rattle.cm_view_index.specs.Order.{RowKey, cmp_keys}

pub keys_total : IsTotalOrder cmp_keys
keys_total =
    then_total
    (then_total (on_total (λ (k : RowKey). k.mark) nat_cmp_total)
    (on_total (λ (k : RowKey). k.loader) nat_cmp_total))
    (on_total (λ (k : RowKey). k.name) nat_list_cmp_total)

then_equal : (o p : Ordering) → ordering_then o p ≡ Equal → (o ≡ Equal) × (p ≡ Equal)
then_equal Less p e = absurd (cc)
then_equal Equal p e = (refl, e)
then_equal Greater p e = absurd (cc)

numbers_same : (a b : ℕ) → nat_cmp a b ≡ Equal → a ≡ b
numbers_same a b e = ranked a b Equal (sym e)

pub names_same : (a b : List ℕ) → slice_cmp nat_cmp a b ≡ Equal → a ≡ b
names_same a b e = (bytes_eq-Decides a b).0 (sym (is_eq-slice_cmp a b) ∙ ap is_eq e)

pub record IsSameKey (a b : RowKey) : Type 0 where
  pub mark : a.mark ≡ b.mark
  pub loader : a.loader ≡ b.loader
  pub name : a.name ≡ b.name

pub same_key : (a b : RowKey) → cmp_keys a b ≡ Equal → IsSameKey a b
same_key a b equal =
    let parts = then_equal (ordering_then (nat_cmp a.mark b.mark) (nat_cmp a.loader b.loader))
    (slice_cmp nat_cmp a.name b.name) equal in
    let numbers = then_equal (nat_cmp a.mark b.mark) (nat_cmp a.loader b.loader) parts.0 in
    record {
      mark = numbers_same a.mark b.mark numbers.0;
      loader = numbers_same a.loader b.loader numbers.1;
      name = names_same a.name b.name parts.1;
    }
