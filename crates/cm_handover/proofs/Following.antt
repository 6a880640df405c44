-- Entries one after another: what holds of two runs of them, and of one more.
-- For `ahead_stays_ahead`, `commands_follow_the_machine`, `committed_rows_are_the_machines` and
-- others.
use Rattle.std.proofs.Common.{◌≡◌, ℕ, suc, ◌+◌, ◌^◌, ◌≤◌, true, List, [], ◌∷◌, ◌++◌, length}
use Rattle.std.proofs.Common.{refl, sym, subst, arith}
use Rattle.std.specs.List.{AllByRecursion}
use Rattle.cm_pool.specs.Geometry.{Sizes}
use Rattle.cm_layout.specs.declared.row.Row.{Row}
use Rattle.cm_layout.specs.Rows.{rows_after}
use Rattle.cm_group.specs.Groups.{Carried}
use Rattle.cm_state.specs.State.{words_show}
use Rattle.cm_state.specs.Entries.{AreCacheRows}
use Rattle.cm_state.specs.Laws.{EntriesAreSteps}
use Rattle.cm_commit.specs.Offers.{filled, writes_apart, rows_after_group, MayJoinAll}
use Rattle.cm_handover.specs.Ahead.{AllFollow, AtEach, AllApart}

abbrev pub WordRows : Type 0
WordRows = List (Row (List ℕ))

-- ---- the rows after two runs

pub rows_after_two : (rows : WordRows) (a b : List Carried)
    → rows_after_group rows (a ++ b) ≡ rows_after_group (rows_after_group rows a) b
rows_after_two rows [] b = refl
rows_after_two rows (c ∷ a) b = rows_after_two (rows_after rows (filled c)) a b

pub one_later : (n k : ℕ) → (n + 1) + k ≡ n + suc k
one_later n k = omega arith

-- ---- each may follow

pub follow_two : (sizes : Sizes) (rows : WordRows) (n : ℕ) (a b : List Carried)
    → AllFollow sizes rows n a → AllFollow sizes (rows_after_group rows a) (n + length a) b
    → AllFollow sizes rows n (a ++ b)
follow_two sizes rows n [] b f g =
    subst (λ k. AllFollow sizes rows k b) (omega arith) g
follow_two sizes rows n (c ∷ a) b f g = (
  f.0,
  f.1,
  follow_two sizes (rows_after rows (filled c)) (n + 1) a b f.2
      (subst (λ k. AllFollow sizes (rows_after_group (rows_after rows (filled c)) a) k b)
      (sym (one_later n (length a))) g),
)

pub follow_first : (sizes : Sizes) (rows : WordRows) (n : ℕ) (a b : List Carried)
    → AllFollow sizes rows n (a ++ b) → AllFollow sizes rows n a
follow_first sizes rows n [] b f = tt
follow_first sizes rows n (c ∷ a) b f =
    (f.0, f.1, follow_first sizes (rows_after rows (filled c)) (n + 1) a b f.2)

pub follow_rest : (sizes : Sizes) (rows : WordRows) (n : ℕ) (a b : List Carried)
    → AllFollow sizes rows n (a ++ b)
    → AllFollow sizes (rows_after_group rows a) (n + length a) b
follow_rest sizes rows n [] b f = subst (λ k. AllFollow sizes rows k b) (omega arith) f
follow_rest sizes rows n (c ∷ a) b f =
    subst (λ k. AllFollow sizes (rows_after_group (rows_after rows (filled c)) a) k b)
    (one_later n (length a))
    (follow_rest sizes (rows_after rows (filled c)) (n + 1) a b f.2)

-- ---- the rows at each number

pub at_first : (P : ℕ → WordRows → Type 0) (n : ℕ) (rows : WordRows) (a : List Carried)
    → AtEach P n rows a → P n rows
at_first P n rows [] h = h
at_first P n rows (c ∷ a) h = h.0

pub at_rest : (P : ℕ → WordRows → Type 0) (n : ℕ) (rows : WordRows) (a b : List Carried)
    → AtEach P n rows (a ++ b) → AtEach P (n + length a) (rows_after_group rows a) b
at_rest P n rows [] b h = subst (λ k. AtEach P k rows b) (omega arith) h
at_rest P n rows (c ∷ a) b h =
    subst (λ k. AtEach P k (rows_after_group (rows_after rows (filled c)) a) b)
    (one_later n (length a)) (at_rest P (n + 1) (rows_after rows (filled c)) a b h.1)

pub at_one_more : (P : ℕ → WordRows → Type 0) (n : ℕ) (rows : WordRows) (a : List Carried)
    (c : Carried) → AtEach P n rows a
    → P (n + length a + 1) (rows_after (rows_after_group rows a) (filled c))
    → AtEach P n rows (a ++ c ∷ [])
at_one_more P n rows [] c h last =
    (h, subst (λ k. P k (rows_after rows (filled c))) (omega arith) last)
at_one_more P n rows (d ∷ a) c h last = (
  h.0,
  at_one_more P (n + 1) (rows_after rows (filled d)) a c h.1
      (subst (λ k. P k (rows_after (rows_after_group (rows_after rows (filled d)) a) (filled c)))
      (omega arith) last),
)

pub at_each_also : (P Q : ℕ → WordRows → Type 0) (n : ℕ) (rows : WordRows) (a : List Carried)
    → ((k : ℕ) (at : WordRows) → n ≤ k → k ≤ n + length a → P k at → Q k at)
    → AtEach P n rows a → AtEach Q n rows a
at_each_also P Q n rows [] f h = f n rows (omega arith) (omega arith) h
at_each_also P Q n rows (c ∷ a) f h = (
  f n rows (omega arith) (omega arith) h.0,
  at_each_also P Q (n + 1) (rows_after rows (filled c)) a
      (λ k at from to. f k at (omega (arith, from)) (omega (arith, to))) h.1,
)

-- ---- apart

pub all_first : (P : Carried → Type 0) (a b : List Carried) → AllByRecursion P (a ++ b)
    → AllByRecursion P a
all_first P [] b h = tt
all_first P (c ∷ a) b h = (h.0, all_first P a b h.1)

all_one_more : (P : Carried → Type 0) (a : List Carried) (c : Carried) → AllByRecursion P a → P c
    → AllByRecursion P (a ++ c ∷ [])
all_one_more P [] c h last = (last, tt)
all_one_more P (d ∷ a) c h last = (h.0, all_one_more P a c h.1 last)

pub apart_rest : (rows : WordRows) (a b : List Carried) → AllApart rows (a ++ b)
    → AllApart (rows_after_group rows a) b
apart_rest rows [] b h = h
apart_rest rows (c ∷ a) b h = apart_rest (rows_after rows (filled c)) a b h.1

pub apart_one_more : (n : ℕ) (rows : WordRows) (a : List Carried) (c : Carried) → AllApart rows a
    → AtEach (λ k at. writes_apart at c.entry ≡ true) n rows a → AllApart rows (a ++ c ∷ [])
apart_one_more n rows [] c h each = ((each, tt), tt)
apart_one_more n rows (d ∷ a) c h each = (
  all_one_more (λ (e : Carried). writes_apart rows e.entry ≡ true) (d ∷ a) c h.0 each.0,
  apart_one_more (n + 1) (rows_after rows (filled d)) a c h.1 each.1,
)

-- the first entries are apart from the rows before all of them
pub apart_from_first : (rows : WordRows) (a b : List Carried) → AllApart rows (a ++ b)
    → AllByRecursion (λ (d : Carried). writes_apart rows d.entry ≡ true) a
apart_from_first rows [] b h = tt
apart_from_first rows (c ∷ a) b h =
    all_first (λ (d : Carried). writes_apart rows d.entry ≡ true) (c ∷ a) b h.0

-- ---- joining

-- entries that follow, and are apart from what is committed, may join
pub may_join : (sizes : Sizes) (committed rows : WordRows) (n : ℕ) (a : List Carried)
    → AllFollow sizes rows n a
    → AllByRecursion (λ (d : Carried). writes_apart committed d.entry ≡ true) a
    → MayJoinAll sizes committed rows n a
may_join sizes committed rows n [] f h = tt
may_join sizes committed rows n (c ∷ a) f h = (
  record { follows = f.0; records = f.1; apart = h.0 },
  may_join sizes committed (rows_after rows (filled c)) (n + 1) a f.2 h.1,
)

-- ---- rows of a cache

pub cache_after : EntriesAreSteps (List ℕ) → (sizes : Sizes) (rows : WordRows) (n : ℕ)
    (a : List Carried) → AreCacheRows words_show sizes n rows → AllFollow sizes rows n a
    → n + length a ≤ 2 ^ 63 → AreCacheRows words_show sizes (n + length a) (rows_after_group rows a)
cache_after steps sizes rows n [] are f to =
    subst (λ k. AreCacheRows words_show sizes k rows) (omega arith) are
cache_after steps sizes rows n (c ∷ a) are f to =
    subst (λ k. AreCacheRows words_show sizes k (rows_after_group (rows_after rows (filled c)) a))
    (one_later n (length a))
    (cache_after steps sizes (rows_after rows (filled c)) (n + 1) a
    (steps words_show sizes n rows (filled c) are f.0 (omega (arith, to))).rows_are f.2
    (omega (arith, to)))
