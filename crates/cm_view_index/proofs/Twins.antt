-- Rows in order: two that show one name have neighbours that do.
-- For `find_at`, `first_twin`.
use Rattle.std.proofs.Common.{◌≡◌, ◌<◌, ◌≤◌, ◌+◌, ◌-◌, ℕ, false, List, [], length, get_or, refl}
use Rattle.std.proofs.Common.{sym}
use Rattle.std.proofs.Common.{◌∙◌, ap, subst, arith, inl, inr}
use Rattle.std.specs.Prelude.{unwrap_or}
use Rattle.std.specs.Ordering.{is_lt}
use Rattle.std.proofs.lemmas.Bool.{cases_lt}
use Rattle.std.proofs.lemmas.List.{get_or_default}
use Rattle.cm_view_index.specs.declared.row.ViewRow.{ViewRow}
use Rattle.cm_view_index.specs.Rows.{ShowsName, name_of, mark_of}
use Rattle.cm_view_index.specs.Order.{RowKey, key_of}
use Rattle.cm_view_index.specs.Index.{IsIndexOf, AreAlike, HasTwin, NamesDiffer}
use Rattle.cm_view_index.specs.Order.{cmp_keys}
use Rattle.cm_view_index.proofs.Searching.{rises, equal_keys}
use Rattle.cm_view_index.proofs.Orders.{keys_total, same_key}

-- the name that a record shows is the one that it is sorted by
pub named_so : (bytes : List ℕ) (row : ViewRow) (name : List ℕ) → ShowsName bytes row name
    → name_of bytes row ≡ name
named_so bytes row name shown = ap (λ o. unwrap_or o []) shown

-- a row of an index that shows a name has its key
pub keyed_so : (bytes : List ℕ) (rows : List ViewRow) → IsIndexOf bytes rows → (k : ℕ)
    (d : ViewRow) (loader : ℕ) (name : List ℕ) → k < length rows
    → (get_or rows k d).loader ≡ loader → ShowsName bytes (get_or rows k d) name
    → key_of bytes (get_or rows k d)
    ≡ record { mark = mark_of loader name; loader = loader; name = name }
keyed_so bytes rows index k d loader name lt owner shown =
    let mark : (get_or rows k d).mark ≡ mark_of loader name =
    index.marked k d name lt shown ∙ ap (λ (u : ℕ). mark_of u name) owner in
    let named = named_so bytes (get_or rows k d) name shown in
    λ i. record { mark = mark i; loader = owner i; name = named i }

module _ (bytes : List ℕ) (rows : List ViewRow) (index : IsIndexOf bytes rows) where
  -- rows of equal keys have neighbours of equal keys
  next_to : (i j : ℕ) (d : ViewRow) → i < j → j < length rows
      → key_of bytes (get_or rows i d) ≡ key_of bytes (get_or rows j d)
      → AreAlike bytes (get_or rows i d) (get_or rows (i + 1) d)
  next_to i j d before lt same =
      let one = key_of bytes (get_or rows i d) in
      let next = key_of bytes (get_or rows (i + 1) d) in
      let other = key_of bytes (get_or rows j d) in
      let up : is_lt (cmp_keys next one) ≡ false =
      rises keys_total (key_of bytes) rows index.sorted i (i + 1) d (omega arith) (omega arith) in
      let on : is_lt (cmp_keys other next) ≡ false =
      rises keys_total (key_of bytes) rows index.sorted (i + 1) j d (omega arith) lt in
      let back : is_lt (cmp_keys one next) ≡ false =
      ap (λ (q : RowKey). is_lt (cmp_keys q next)) same ∙ on in
      let keys = same_key one next (equal_keys keys_total (key_of bytes) one next back up) in
      record { mark = keys.mark; owner = keys.loader; named = keys.name }

  pub all_differ : ((k : ℕ) (d : ViewRow) → k + 1 < length rows
      → AreAlike bytes (get_or rows k d) (get_or rows (k + 1) d) → ⊥)
      → NamesDiffer bytes rows
  all_differ none i j d name before lt owner one other =
      let first =
      keyed_so bytes rows index i d (get_or rows j d).loader name (omega arith) owner one in
      let second = keyed_so bytes rows index j d (get_or rows j d).loader name lt refl other in
      none i d (omega arith) (next_to i j d before lt (first ∙ sym second))

-- ---- row by row

module _ (bytes : List ℕ) (rows : List ViewRow) (at : ℕ) (some : 1 ≤ at) (lt : at < length rows)
    (e : ViewRow) where
  abbrev pub NextAlike : Type 0
  NextAlike = AreAlike bytes (get_or rows (at - 1) e) (get_or rows at e)

  pub twin_found : NextAlike → HasTwin bytes rows (get_or rows at e)
  twin_found alike =
      let row = get_or rows at e in
      record {
        before = at - 1;
        at = at;
        apart = omega arith;
        within = lt;
        is = get_or_default rows at row e lt;
        alike = subst (λ (r : ViewRow). AreAlike bytes r row)
            (get_or_default rows (at - 1) e row (omega arith)) alike;
      }

  pub none_on : (NextAlike → ⊥)
      → ((k : ℕ) (d : ViewRow) → k + 1 < at
      → AreAlike bytes (get_or rows k d) (get_or rows (k + 1) d) → ⊥)
      → (k : ℕ) (d : ViewRow) → k + 1 < at + 1
      → AreAlike bytes (get_or rows k d) (get_or rows (k + 1) d) → ⊥
  none_on unlike before k d few alike =
      elim (cases_lt (k + 1) at) [
        | inl less ↦ before k d less alike
        | inr more ↦
            let first : get_or rows k d ≡ get_or rows (at - 1) e =
            let here : k ≡ at - 1 = omega arith in
            ap (λ (n : ℕ). get_or rows n d) here ∙ get_or_default rows (at - 1) d e (omega arith) in
            let second : get_or rows (k + 1) d ≡ get_or rows at e =
            let here : k + 1 ≡ at = omega arith in
            ap (λ (n : ℕ). get_or rows n d) here ∙ get_or_default rows at d e lt in
            unlike (subst (λ (r : ViewRow). AreAlike bytes r (get_or rows at e)) first
            (subst (λ (r : ViewRow). AreAlike bytes (get_or rows k d) r) second alike))
      ]
