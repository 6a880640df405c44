-- Finite maps from names.
-- For `arenas_are_apart`, `entries_are_steps`, `rows_tell_state` and others.
use Rattle.std.proofs.Common.{◌≡◌, ℕ, cond, List}
use Rattle.std.proofs.Common.{Some, None, ap, ◌∙◌}
use Rattle.std.specs.Str.{bytes_eq}
use Rattle.std.specs.Cmp.Lexicographic.{nat_list_cmp_total, nat_list_eq_equiv}
use Rattle.std.specs.FinMap.{get, insert, remove, get-insert, get-remove, same_map}
use Rattle.std.specs.FinMap.{slice_cmp-IsAntisymmetric, nat_cmp-IsAntisymmetric}
use Rattle.std.proofs.lemmas.Map.Text.{is_eq-slice_cmp}
use Rattle.cm_state.specs.State.{ByName}

pub got-insert : {X : Type 0} (m : ByName X) (k : List ℕ) (v : X) (q : List ℕ)
    → get (insert m k v) q ≡ cond (bytes_eq k q) (Some v) (get m q)
got-insert m k v q =
    get-insert nat_list_cmp_total m k v q
    ∙ ap (λ b. cond b (Some v) (get m q)) (is_eq-slice_cmp q k ∙ nat_list_eq_equiv.symm q k)

pub got-remove : {X : Type 0} (m : ByName X) (k q : List ℕ)
    → get (remove m k) q ≡ cond (bytes_eq k q) None (get m q)
got-remove m k q =
    get-remove nat_list_cmp_total m k q
    ∙ ap (λ b. cond b None (get m q)) (is_eq-slice_cmp q k ∙ nat_list_eq_equiv.symm q k)

pub same : {X : Type 0} (m n : ByName X) → ((q : List ℕ) → get m q ≡ get n q) → m ≡ n
same m n is =
    same_map nat_list_cmp_total (slice_cmp-IsAntisymmetric nat_cmp-IsAntisymmetric) m n is
