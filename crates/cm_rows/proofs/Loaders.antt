-- The live loaders: how a change of one affects what is kept of each.
-- For `relink`.
use Rattle.std.proofs.Common.{◌≡◌, ◌≢◌, ℕ, zero, suc, ◌<◌, Bool, true, false, cond, eqb}
use Rattle.std.proofs.Common.{List, [], ◌∷◌, ◌++◌, length, get_or, set, Option, None}
use Rattle.std.proofs.Common.{inl, inr, refl, sym, ◌∙◌, ap, subst, arith}
use Rattle.std.specs.List.{remove, AllByRecursion}
use Rattle.std.specs.Prelude.{not, filter}
use Rattle.std.proofs.lemmas.Bool.{eqb-true, eq-eqb}
use Rattle.cm_pool.specs.Lists.{Among, Pairwise}
use Rattle.cm_rows.specs.declared.live_loader.LastChunk.{LastChunk}
use Rattle.cm_rows.specs.declared.live_loader.LiveLoader.{LiveLoader}
use Rattle.cm_rows.specs.Loaders.{numbers_of_loaders, IsAbsent, last_in}

-- ---- lists

-- the default doesn't matter inside a list
inside : (ls : List LiveLoader) (i : ℕ) (d e : LiveLoader) → i < length ls
    → get_or ls i d ≡ get_or ls i e
inside [] i d e h = absurd (omega arith)
inside (l ∷ ls) zero d e h = refl
inside (l ∷ ls) (suc i) d e h = inside ls i d e (omega arith)

-- what holds for each loader holds at each place
each-at : (P : LiveLoader → Type 0) (ls : List LiveLoader) (i : ℕ) (d : LiveLoader)
    → AllByRecursion P ls → i < length ls → P (get_or ls i d)
each-at P [] i d h lt = absurd (omega arith)
each-at P (l ∷ ls) zero d h lt = h.0
each-at P (l ∷ ls) (suc i) d h lt = each-at P ls i d h.1 (omega arith)

abbrev Below : LiveLoader → LiveLoader → Type 0
Below a b = a.number < b.number

pub rises-at : (ls : List LiveLoader) (i j : ℕ) (d : LiveLoader) → Pairwise Below ls → i < j
    → j < length ls → (get_or ls i d).number < (get_or ls j d).number
rises-at [] i j d h lt within = absurd (omega arith)
rises-at (l ∷ ls) i zero d h lt within = absurd (omega arith)
rises-at (l ∷ ls) zero (suc j) d h lt within = each-at (Below l) ls j d h.0 (omega arith)
rises-at (l ∷ ls) (suc i) (suc j) d h lt within = rises-at ls i j d h.1 (omega arith) (omega arith)

-- ---- what is kept of each loader

pub ne-eqb : (a b : ℕ) → a ≢ b → eqb a b ≡ false
ne-eqb a b n = by_test (eqb a b) refl
  where
    by_test : (t : Bool) → eqb a b ≡ t → t ≡ false
    by_test true e = absurd (n (eqb-true a b e))
    by_test false e = refl

-- a number below all of them is the number of none
absent-below : (v : ℕ) (ls : List LiveLoader) → AllByRecursion (λ l. v < l.number) ls
    → last_in v ls ≡ None
absent-below v [] h = refl
absent-below v (l ∷ ls) h = rw (ne-eqb l.number v (λ e. omega (arith, h.0))) (absent-below v ls h.1)

all-below : (ls : List LiveLoader) (l : LiveLoader) (v : ℕ) → l.number ≡ v
    → AllByRecursion (Below l) ls → AllByRecursion (λ m. v < m.number) ls
all-below [] l v e h = tt
all-below (m ∷ ls) l v e h = (omega (arith, h.0), all-below ls l v e h.1)

pub last_in-absent : (v : ℕ) (ls : List LiveLoader) → IsAbsent ls v → last_in v ls ≡ None
last_in-absent v ls h = by_all ls (λ k d lt. h.none k d lt)
  where
    by_all : (ls : List LiveLoader) → ((k : ℕ) (d : LiveLoader) → k < length ls
        → (get_or ls k d).number ≢ v) → last_in v ls ≡ None
    by_all [] h = refl
    by_all (l ∷ ls) h = rw (ne-eqb l.number v (h 0 l (omega arith))) (by_all ls
        (λ k d lt. h (suc k) d (omega arith)))

pub last_in-at : (u : ℕ) (ls : List LiveLoader) (i : ℕ) (d : LiveLoader) → Pairwise Below ls
    → i < length ls → (get_or ls i d).number ≡ u → last_in u ls ≡ (get_or ls i d).last
last_in-at u [] i d h lt e = absurd (omega arith)
last_in-at u (l ∷ ls) zero d h lt e = rw (eq-eqb l.number u e) refl
last_in-at u (l ∷ ls) (suc i) d h lt e =
    let before : l.number < (get_or ls i d).number = each-at (Below l) ls i d h.0 (omega arith) in
    rw (ne-eqb l.number u (λ same. omega arith)) (last_in-at u ls i d h.1 (omega arith) e)

pub last_in-set : (u v : ℕ) (o : Option LastChunk) (ls : List LiveLoader) (i : ℕ) (d : LiveLoader)
    → Pairwise Below ls → i < length ls → (get_or ls i d).number ≡ u
    → last_in v (set ls i (record { number = u; last = o })) ≡ cond (eqb u v) o (last_in v ls)
last_in-set u v o [] i d h lt e = absurd (omega arith)
last_in-set u v o (l ∷ ls) zero d h lt e = by_test (eqb u v) (eqb l.number v) (ap
    (λ (n : ℕ). eqb n v) e)
  where
    by_test : (t s : Bool) → s ≡ t
        → cond t o (last_in v ls) ≡ cond t o (cond s l.last (last_in v ls))
    by_test true s same = refl
    by_test false true same = absurd (cc)
    by_test false false same = refl
last_in-set u v o (l ∷ ls) (suc i) d h lt e =
    by_test (last_in-set u v o ls i d h.1 (omega arith) e) (eqb l.number v) refl
  where
    by_test : last_in v (set ls i (record { number = u; last = o }))
        ≡ cond (eqb u v) o (last_in v ls) → (t : Bool) → eqb l.number v ≡ t
        → cond t l.last (last_in v (set ls i (record { number = u; last = o })))
        ≡ cond (eqb u v) o (cond t l.last (last_in v ls))
    by_test behind true same =
        let is : l.number ≡ v = eqb-true l.number v same in
        let before : l.number < (get_or ls i d).number =
        each-at (Below l) ls i d h.0 (omega arith) in
        rw (ne-eqb u v (λ both. omega arith)) refl
    by_test behind false same = behind

pub last_in-remove : (u v : ℕ) (ls : List LiveLoader) (i : ℕ) (d : LiveLoader)
    → Pairwise Below ls → i < length ls → (get_or ls i d).number ≡ u
    → last_in v (remove ls i) ≡ cond (eqb u v) None (last_in v ls)
last_in-remove u v [] i d h lt e = absurd (omega arith)
last_in-remove u v (l ∷ ls) zero d h lt e = by_test (eqb u v) refl (eqb l.number v) (ap
    (λ (n : ℕ). eqb n v) e)
  where
    by_test : (t : Bool) → eqb u v ≡ t → (s : Bool) → s ≡ eqb u v
        → last_in v ls ≡ cond t None (cond s l.last (last_in v ls))
    by_test true same s e2 = absent-below v ls (all-below ls l v (e ∙ eqb-true u v same) h.0)
    by_test false same true e2 = absurd (cc)
    by_test false same false e2 = refl
last_in-remove u v (l ∷ ls) (suc i) d h lt e =
    by_test (last_in-remove u v ls i d h.1 (omega arith) e) (eqb l.number v) refl
  where
    by_test : last_in v (remove ls i) ≡ cond (eqb u v) None (last_in v ls) → (t : Bool)
        → eqb l.number v ≡ t
        → cond t l.last (last_in v (remove ls i))
        ≡ cond (eqb u v) None (cond t l.last (last_in v ls))
    by_test behind true same =
        let is : l.number ≡ v = eqb-true l.number v same in
        let before : l.number < (get_or ls i d).number =
        each-at (Below l) ls i d h.0 (omega arith) in
        rw (ne-eqb u v (λ both. omega arith)) refl
    by_test behind false same = behind

pub last_in-push : (u v : ℕ) (ls : List LiveLoader) → AllByRecursion (λ l. l.number < u) ls
    → last_in v (ls ++ record { number = u; last = None } ∷ []) ≡ last_in v ls
last_in-push u v [] h = by_test (eqb u v) None
  where
    by_test : (t : Bool) (o : Option LastChunk) → cond t o o ≡ o
    by_test true o = refl
    by_test false o = refl
last_in-push u v (l ∷ ls) h = ap
    (λ (o : Option LastChunk). cond (eqb l.number v) l.last o) (last_in-push u v ls h.1)

-- ---- their numbers, and their order

pub numbers-set : (u : ℕ) (o : Option LastChunk) (ls : List LiveLoader) (i : ℕ) (d : LiveLoader)
    → i < length ls → (get_or ls i d).number ≡ u
    → numbers_of_loaders (set ls i (record { number = u; last = o })) ≡ numbers_of_loaders ls
numbers-set u o [] i d lt e = refl
numbers-set u o (l ∷ ls) zero d lt e = ap (λ n. n ∷ numbers_of_loaders ls) (sym e)
numbers-set u o (l ∷ ls) (suc i) d lt e = ap
    (λ ns. l.number ∷ ns) (numbers-set u o ls i d (omega arith) e)

all-set : (P : ℕ
    → Type 0) (u : ℕ) (o : Option LastChunk) (ls : List LiveLoader) (i : ℕ) (d : LiveLoader)
    → (get_or ls i d).number ≡ u → AllByRecursion (λ l. P l.number) ls → AllByRecursion
    (λ l. P l.number) (set ls i (record { number = u; last = o }))
all-set P u o [] i d e h = h
all-set P u o (l ∷ ls) zero d e h = (subst P e h.0, h.1)
all-set P u o (l ∷ ls) (suc i) d e h = (h.0, all-set P u o ls i d e h.1)

pub rises-set : (u : ℕ) (o : Option LastChunk) (ls : List LiveLoader) (i : ℕ) (d : LiveLoader)
    → (get_or ls i d).number ≡ u → Pairwise Below ls
    → Pairwise Below (set ls i (record { number = u; last = o }))
rises-set u o [] i d e h = h
rises-set u o (l ∷ ls) zero d e h = (all-below ls l u e h.0, h.1)
rises-set u o (l ∷ ls) (suc i) d e h = (
  all-set
      (λ n. l.number < n) u o ls i d e h.0,
  rises-set u o ls i d e h.1,
)

all-remove : (P : LiveLoader → Type 0) (ls : List LiveLoader) (i : ℕ) → AllByRecursion P ls
    → AllByRecursion P (remove ls i)
all-remove P [] zero h = h
all-remove P [] (suc i) h = h
all-remove P (l ∷ ls) zero h = h.1
all-remove P (l ∷ ls) (suc i) h = (h.0, all-remove P ls i h.1)

pub rises-remove : (ls : List LiveLoader) (i : ℕ) → Pairwise Below ls → Pairwise Below (remove ls i)
rises-remove [] zero h = h
rises-remove [] (suc i) h = h
rises-remove (l ∷ ls) zero h = h.1
rises-remove (l ∷ ls) (suc i) h = (all-remove (Below l) ls i h.0, rises-remove ls i h.1)

-- filtering keeps numbers that differ
none-filtered : (u : ℕ) (ls : List LiveLoader) → AllByRecursion (λ l. u < l.number) ls → filter
    (λ n. not (eqb n u)) (numbers_of_loaders ls) ≡ numbers_of_loaders ls
none-filtered u [] h = refl
none-filtered u (l ∷ ls) h = rw (ne-eqb l.number u (λ e. omega (arith, h.0))) (ap
    (λ ns. l.number ∷ ns) (none-filtered u ls h.1))

pub numbers-remove : (u : ℕ) (ls : List LiveLoader) (i : ℕ) (d : LiveLoader) → Pairwise Below ls
    → i < length ls → (get_or ls i d).number ≡ u → numbers_of_loaders (remove ls i) ≡ filter
    (λ n. not (eqb n u)) (numbers_of_loaders ls)
numbers-remove u [] i d h lt e = absurd (omega arith)
numbers-remove u (l ∷ ls) zero d h lt e =
    rw (eq-eqb l.number u e) (sym (none-filtered u ls (all-below ls l u e h.0)))
numbers-remove u (l ∷ ls) (suc i) d h lt e =
    let before : l.number < (get_or ls i d).number = each-at (Below l) ls i d h.0 (omega arith) in
    rw (ne-eqb l.number u (λ same. omega arith)) (ap
    (λ ns. l.number ∷ ns) (numbers-remove u ls i d h.1 (omega arith) e))

all-push : (P : LiveLoader → Type 0) (ls : List LiveLoader) (l : LiveLoader)
    → AllByRecursion P ls → P l → AllByRecursion P (ls ++ l ∷ [])
all-push P [] l h p = (p, tt)
all-push P (m ∷ ls) l h p = (h.0, all-push P ls l h.1 p)

pub rises-push : (ls : List LiveLoader) (l : LiveLoader) → Pairwise Below ls → AllByRecursion
    (λ m. m.number < l.number) ls → Pairwise Below (ls ++ l ∷ [])
rises-push [] l h below = (tt, tt)
rises-push (m ∷ ls) l h below = (all-push (Below m) ls l h.0 below.0, rises-push ls l h.1 below.1)

pub numbers-push : (ls : List LiveLoader) (l : LiveLoader)
    → numbers_of_loaders (ls ++ l ∷ []) ≡ numbers_of_loaders ls ++ l.number ∷ []
numbers-push [] l = refl
numbers-push (m ∷ ls) l = ap (λ ns. m.number ∷ ns) (numbers-push ls l)

-- a fact about each number is one about each loader
pub all-numbers : (P : ℕ → Type 0) (ls : List LiveLoader) → AllByRecursion P (numbers_of_loaders ls)
    → AllByRecursion (λ l. P l.number) ls
all-numbers P [] h = tt
all-numbers P (l ∷ ls) h = (h.0, all-numbers P ls h.1)

-- a loader that is found is one of them, and one that isn't found is none of them
pub at-among : (u : ℕ) (ls : List LiveLoader) (i : ℕ) (d : LiveLoader) → i < length ls
    → (get_or ls i d).number ≡ u → Among u (numbers_of_loaders ls)
at-among u [] i d lt e = absurd (omega arith)
at-among u (l ∷ ls) zero d lt e = inl (sym e)
at-among u (l ∷ ls) (suc i) d lt e = inr (at-among u ls i d (omega arith) e)

pub absent-among : (u : ℕ) (ls : List LiveLoader) → IsAbsent ls u
    → ¬ Among u (numbers_of_loaders ls)
absent-among u ls h m = by_all ls (λ k d lt. h.none k d lt) m
  where
    by_all : (ls : List LiveLoader) → ((k : ℕ) (d : LiveLoader) → k < length ls
        → (get_or ls k d).number ≢ u) → ¬ Among u (numbers_of_loaders ls)
    by_all [] h none = none
    by_all (l ∷ ls) h (inl e) = h 0 l (omega arith) (sym e)
    by_all (l ∷ ls) h (inr m) = by_all ls (λ k d lt. h (suc k) d (omega arith)) m
