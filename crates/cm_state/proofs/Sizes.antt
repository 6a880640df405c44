-- What is counted in a state, as the state grows: loaders and classes, or the slots that they take.
-- For `entries_are_steps`, `rows_tell_state`.
use Rattle.std.proofs.Common.{◌≡◌, ℕ, suc, ◌+◌, Bool, true, false, cond, List, [], ◌∷◌, length}
use Rattle.std.proofs.Common.{Option, Some, None, refl, ap, ◌∙◌, arith, is_some}
use Rattle.std.specs.Prelude.{T, ◌&&◌}
use Rattle.std.specs.Ordering.{nat_cmp, is_eq}
use Rattle.std.specs.declared.cmp.Ordering.{Ordering}
use Rattle.std.specs.declared.cmp.Ordering.TheVariants.{Less, Equal, Greater}
use Rattle.std.specs.Cmp.Lexicographic.{slice_cmp, nat_list_cmp_total}
use Rattle.std.specs.FinMap.{get, insert, len, empty, entries, find, put, is_sorted}
use Rattle.std.specs.FinMap.{entries-insert, entries_sorted, get-entries, len-insert, len-empty}
use Rattle.std.specs.FinMap.Entries.{length-put, below_all, by_order}
use Rattle.cm_state.specs.State.{ByName, Loaders, total}

-- a loader that counts for this much, and its classes
weight : {A : Type 0} → ℕ → Option (ByName A) → ℕ
weight n None = 0
weight n (Some classes) = n + len classes

second : (a b : Bool) → T (a && b) → T b
second true b h = h
second false b h = absurd h

not_found : {X : Type 0} (o : Option X) (n : ℕ)
    → suc (suc n) ≡ cond (is_some o) (suc n) (suc n + 1) → o ≡ None
not_found None n e = refl
not_found (Some x) n e = absurd (omega (arith, e))

total_put : {A : Type 0} (counts : List ℕ → ℕ) (k : List ℕ) (v : ByName A)
    (es : List (List ℕ × ByName A)) → T (is_sorted (slice_cmp nat_cmp) es)
    → total counts (put (slice_cmp nat_cmp) k v es)
    + weight (counts k) (find (slice_cmp nat_cmp) k es)
    ≡ total counts es + (counts k + len v)
unfolding weight
total_put counts k v [] sorted = omega arith
total_put {A} counts k v (e ∷ es) sorted =
    by_place (slice_cmp nat_cmp k e.0)
    (length-put (slice_cmp nat_cmp) nat_list_cmp_total k v (e ∷ es) sorted)
    (total_put counts k v es (second (below_all (slice_cmp nat_cmp) e.0 es)
    (is_sorted (slice_cmp nat_cmp) es) sorted))
  where
    by_place : (o : Ordering)
        → length (by_order o ((k, v) ∷ e ∷ es) ((e.0, v) ∷ es) (e ∷ put (slice_cmp nat_cmp) k v es))
        ≡ cond (is_some (cond (is_eq o) (Some e.1) (find (slice_cmp nat_cmp) k es)))
        (suc (length es)) (suc (length es) + 1)
        → total counts (put (slice_cmp nat_cmp) k v es)
        + weight (counts k) (find (slice_cmp nat_cmp) k es)
        ≡ total counts es + (counts k + len v)
        → total counts
        (by_order o ((k, v) ∷ e ∷ es) ((e.0, v) ∷ es) (e ∷ put (slice_cmp nat_cmp) k v es))
        + weight (counts k) (cond (is_eq o) (Some e.1) (find (slice_cmp nat_cmp) k es))
        ≡ total counts (e ∷ es) + (counts k + len v)
    by_place Less long rest =
        let none : find (slice_cmp nat_cmp) k es ≡ None =
        not_found (find (slice_cmp nat_cmp) k es) (length es) long in
        let nothing : weight (counts k) (find (slice_cmp nat_cmp) k es) ≡ 0 =
        ap (weight (counts k)) none in
        omega (arith, nothing)
    by_place Equal long rest = omega arith
    by_place Greater long rest = omega (arith, rest)

-- how much is counted in a state
abbrev pub counted : {A : Type 0} → (List ℕ → ℕ) → Loaders A → ℕ
counted counts m = total counts (entries m)

counted_insert : {A : Type 0} (counts : List ℕ → ℕ) (m : Loaders A) (k : List ℕ) (v : ByName A)
    → counted counts (insert m k v) + weight (counts k) (get m k)
    ≡ counted counts m + (counts k + len v)
unfolding weight
counted_insert {A} counts m k v =
    (λ i. total counts (entries-insert nat_list_cmp_total m k v i)
    + weight (counts k) (get-entries m k i))
    ∙ total_put counts k v (entries m) (entries_sorted m)

pub counted_loader : {A : Type 0} (counts : List ℕ → ℕ) (m : Loaders A) (x : List ℕ)
    → get m x ≡ None → counted counts (insert m x empty) ≡ counted counts m + counts x
unfolding weight
counted_loader {A} counts m x none =
    let grows = counted_insert counts m x empty in
    let nothing : weight (counts x) (get m x) ≡ 0 = ap (weight (counts x)) none in
    let new : len (empty {X = A} {R = slice_cmp nat_cmp}) ≡ 0 = len-empty (slice_cmp nat_cmp) A in
    omega (arith, grows, nothing, new)

pub counted_class : {A : Type 0} (counts : List ℕ → ℕ) (m : Loaders A) (x : List ℕ)
    (classes : ByName A) (name : List ℕ) (c : A) → get m x ≡ Some classes
    → get classes name ≡ None
    → counted counts (insert m x (insert classes name c)) ≡ counted counts m + 1
unfolding weight
counted_class {A} counts m x classes name c there new =
    let grows = counted_insert counts m x (insert classes name c) in
    let before : weight (counts x) (get m x) ≡ counts x + len classes =
    ap (weight (counts x)) there in
    let more : len (insert classes name c) ≡ len classes + 1 =
    len-insert nat_list_cmp_total classes name c
    ∙ ap (λ (o : Option A). cond (is_some o) (len classes) (len classes + 1)) new in
    omega (arith, grows, before, more)
