-- Words are taken from the first run that doesn't begin before a place.
-- For `take_range`.
use Rattle.std.proofs.Common.{◌≡◌, ◌≤◌, ◌<◌, ◌+◌, ◌-◌, ◌∙◌, ℕ, zero, suc, Bool, true, false}
use Rattle.std.proofs.Common.{List, []}
use Rattle.std.proofs.Common.{◌∷◌, length, get_or, slice_set, nat_lt, ap, sym, arith, refl}
use Rattle.std.proofs.Common.{if◌then◌else◌}
use Rattle.std.proofs.lemmas.List.{set-get_or}
use Rattle.std.specs.List.Sorted.{IsPartitionPoint}
use Rattle.cm_device_disk.specs.declared.word_run.WordRun.{WordRun}
use Rattle.cm_device_disk.specs.Runs.{is_run, has_words, emptied, without}

abbrev pub IsFirst : ℕ → List WordRun → ℕ → Type 0
IsFirst at runs k =
    IsPartitionPoint (λ (r : WordRun). nat_lt r.at at ≡ true)
    (λ (r : WordRun). nat_lt r.at at ≡ false) runs k

later : (at k : ℕ) (run : WordRun) (runs : List WordRun) → IsFirst at (run ∷ runs) (suc k)
    → IsFirst at runs k
later at k run runs first = (
  λ i d least lt. first.0 (suc i) d (omega arith) (omega arith),
  λ i d le lt. first.1 (suc i) d (omega arith) (omega arith),
)

-- past the end there is none
pub has_none : (at count k : ℕ) (runs : List WordRun) → IsFirst at runs k → length runs ≤ k
    → has_words at count runs ≡ false
has_none at count k [] first le = refl
has_none at count zero (run ∷ runs) first le = absurd (omega arith)
has_none at count (suc k) (run ∷ runs) first le =
    ap (λ (b : Bool). if b then has_words at count runs else is_run at count run)
    (first.0 0 run (omega arith) (omega arith))
    ∙ has_none at count k runs (later at k run runs first) (omega arith)

pub has_at : (at count k : ℕ) (d : WordRun) (runs : List WordRun) → IsFirst at runs k
    → k < length runs → has_words at count runs ≡ is_run at count (get_or runs k d)
has_at at count k d [] first lt = absurd (omega arith)
has_at at count zero d (run ∷ runs) first lt =
    ap (λ (b : Bool). if b then has_words at count runs else is_run at count run)
    (first.1 0 d (omega arith) lt)
has_at at count (suc k) d (run ∷ runs) first lt =
    ap (λ (b : Bool). if b then has_words at count runs else is_run at count run)
    (first.0 0 d (omega arith) (omega arith))
    ∙ has_at at count k d runs (later at k run runs first) (omega arith)

pub without_at : (at k : ℕ) (d : WordRun) (runs : List WordRun) → IsFirst at runs k
    → k < length runs → without at runs ≡ slice_set runs k (emptied (get_or runs k d))
without_at at k d [] first lt = absurd (omega arith)
without_at at zero d (run ∷ runs) first lt =
    ap (λ (b : Bool). if b then run ∷ without at runs else emptied run ∷ runs)
    (first.1 0 d (omega arith) lt)
without_at at (suc k) d (run ∷ runs) first lt =
    ap (λ (b : Bool). if b then run ∷ without at runs else emptied run ∷ runs)
    (first.0 0 d (omega arith) (omega arith))
    ∙ ap (λ (l : List WordRun). run ∷ l)
    (without_at at k d runs (later at k run runs first) (omega arith))

pub after_at : (taken : Bool) (at k : ℕ) (runs : List WordRun) (found left : WordRun)
    → IsFirst at runs k → k < length runs → found ≡ get_or runs k found
    → left ≡ (if taken then emptied found else found)
    → slice_set runs k left ≡ (if taken then without at runs else runs)
after_at true at k runs found left first lt is left_is =
    ap (λ (r : WordRun). slice_set runs k r) (left_is ∙ ap emptied is)
    ∙ sym (without_at at k found runs first lt)
after_at false at k runs found left first lt is left_is =
    ap (λ (r : WordRun). slice_set runs k r) (left_is ∙ is) ∙ set-get_or runs k found
