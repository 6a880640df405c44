-- Which numbers occur at two places, found in a sorted list.
-- For `find_repeats`, `repeats_in`.
use Rattle.std.proofs.Common.{◌≡◌, ⊎_elim, ℕ, zero, suc, ◌+◌, ◌-◌, ◌<◌, ◌≤◌, Bool, true, false, eqb}
use Rattle.std.proofs.Common.{eq-eqb, List, [], ◌∷◌, ◌++◌, length, get_or, refl, sym, ap, subst}
use Rattle.std.proofs.Common.{◌∙◌, arith}
use Rattle.std.specs.Prelude.{◌&&◌}
use Rattle.std.specs.List.{All, Contains, IsDistinct, list_any}
use Rattle.std.specs.List.Sorted.{IsPermutation, IsNonDecreasing}
use Rattle.std.proofs.lemmas.Bool.{cases_Bool, cases_lt, eqb-true, and_parts, and_from, or_cases}
use Rattle.std.proofs.lemmas.Bool.{or_left, or_right, false_from_ne_true}
use Rattle.std.proofs.lemmas.List.{get_or_default}
use Rattle.std.proofs.lemmas.List.Elements.{All-weaker, All-push, All-nil, All-get_or}
use Rattle.std.proofs.lemmas.List.Elements.{Contains-append_left, Contains-push}
use Rattle.std.proofs.lemmas.List.Sorted.{IsNonDecreasingBy-push, IsNonDecreasingBy-short}
use Rattle.std.proofs.lemmas.List.Sorted.{IsPermutation-sym}
use Rattle.std.proofs.lemmas.Map.Keys.{IsDistinct-from_apart, IsDistinct-IsPermutation}
use Rattle.std.proofs.lemmas.Map.Keys.{apart_from_distinct}
use Rattle.cm_duplicates.specs.Fingerprints.{HasRepeated}

-- ---- the loop over a sorted list

-- the numbers before a place that are the same as the one before them
pub record RepeatsBefore (sorted repeated : List ℕ) (place : ℕ) : Type 0 where
  pub all : (k : ℕ) → k + 1 < place → get_or sorted k 0 ≡ get_or sorted (k + 1) 0
      → Contains repeated (get_or sorted k 0)
  pub order : IsNonDecreasing repeated
  pub below : All (λ n. n ≤ get_or sorted (place - 1) 0) repeated

pub repeats_none : (sorted : List ℕ) → RepeatsBefore sorted [] 1
repeats_none sorted = record {
  all = λ k lt. absurd (omega (arith, lt));
  order = IsNonDecreasingBy-short (λ n. n) [] (omega arith);
  below = All-nil (λ n. n ≤ get_or sorted (1 - 1) 0);
}

module _ (sorted : List ℕ) (up : IsNonDecreasing sorted) (repeated : List ℕ) (place : ℕ)
    (from_one : 1 ≤ place) (within : place < length sorted)
    (so_far : RepeatsBefore sorted repeated place) where
  rises : get_or sorted (place - 1) 0 ≤ get_or sorted place 0
  rises = up (place - 1) place 0 (omega arith) within

  below_more : All (λ n. n ≤ get_or sorted place 0) repeated
  below_more =
      All-weaker (λ n. n ≤ get_or sorted (place - 1) 0) (λ n. n ≤ get_or sorted place 0)
      (λ n le. omega (arith, le, rises)) repeated so_far.below

  at_place : (P : ℕ → Type 0) → P place → P ((place + 1) - 1)
  at_place P h = let e : (place + 1) - 1 ≡ place = omega arith in rw e h

  pub repeats_same : (get_or sorted (place - 1) 0 ≡ get_or sorted place 0 → ⊥)
      → RepeatsBefore sorted repeated (place + 1)
  repeats_same apart = record {
    all = λ k lt e.
        ⊎_elim (λ before. so_far.all k before e)
        (λ last. let is : place ≡ k + 1 =
        omega (arith, lt, last) in
        absurd (apart (let less : place - 1 ≡ k = omega (arith, is) in rw (less, is) e)))
        (cases_lt (k + 1) place);
    order = so_far.order;
    below = at_place (λ p. All (λ n. n ≤ get_or sorted p 0) repeated) below_more;
  }

  pub repeats_more : get_or sorted (place - 1) 0 ≡ get_or sorted place 0
      → RepeatsBefore sorted (repeated ++ get_or sorted place 0 ∷ []) (place + 1)
  repeats_more same = record {
    all = λ k lt e. ⊎_elim
        (λ before. Contains-append_left repeated (get_or sorted place 0 ∷ []) (get_or sorted k 0)
        (so_far.all k before e))
        (λ last. let is : k + 1 ≡ place = omega (arith, lt, last) in
        let one : get_or sorted k 0 ≡ get_or sorted place 0 =
        e ∙ ap (λ (i : ℕ). get_or sorted i 0) is in
        let P : ℕ → Type 0 =
        λ n. Contains (repeated ++ get_or sorted place 0 ∷ []) n in
        subst P (sym one) (Contains-push repeated (get_or sorted place 0)))
        (cases_lt (k + 1) place);
    order = IsNonDecreasingBy-push (λ n. n) repeated (get_or sorted place 0) so_far.order
        (λ d lt. All-get_or (λ n. n ≤ get_or sorted place 0) repeated (length repeated - 1) d
        (omega (arith, lt)) below_more);
    below = at_place
        (λ p. All (λ n. n ≤ get_or sorted p 0) (repeated ++ get_or sorted place 0 ∷ []))
        (All-push (λ n. n ≤ get_or sorted place 0) repeated (get_or sorted place 0) below_more
        (omega arith));
  }

-- ---- from a sorted list to any

any_is : (n : ℕ) (xs : List ℕ) → list_any (λ x. eqb x n) xs ≡ true → Contains xs n
any_is n [] h = absurd cc
any_is n (x ∷ xs) h =
    ⊎_elim (λ t. (0, omega arith, eqb-true x n t))
    (λ t. let on = any_is n xs t in (suc on.0, omega (arith, on.1), on.2))
    (or_cases (eqb x n) (list_any (λ x. eqb x n) xs) h)

is_any : (n : ℕ) (xs : List ℕ) → Contains xs n → list_any (λ x. eqb x n) xs ≡ true
is_any n xs has = at xs has.0 has.1 has.2
  where
    at : (xs : List ℕ) (k : ℕ) → k < length xs → get_or xs k n ≡ n
        → list_any (λ x. eqb x n) xs ≡ true
    at [] k lt e = absurd (omega (arith, lt))
    at (x ∷ xs) zero lt e = or_left (eqb x n) (list_any (λ x. eqb x n) xs) (eq-eqb x n e)
    at (x ∷ xs) (suc k) lt e =
        or_right (eqb x n) (list_any (λ x. eqb x n) xs) (at xs k (omega (arith, lt)) e)

-- both numbers are this one
abbrev both_are : ℕ → ℕ → ℕ → Bool
both_are n x y = eqb x n && eqb y n

flips : (n x y : ℕ) → both_are n x y ≡ both_are n y x
flips n x y = swaps (eqb x n) (eqb y n)
  where
    swaps : (a b : Bool) → (a && b) ≡ (b && a)
    swaps true true = refl
    swaps true false = refl
    swaps false true = refl
    swaps false false = refl

module _ (sorted repeated : List ℕ) (up : IsNonDecreasing sorted)
    (adjacent : (k : ℕ) → k + 1 < length sorted → get_or sorted k 0 ≡ get_or sorted (k + 1) 0
    → Contains repeated (get_or sorted k 0)) where
  -- a number at two places of a sorted list is at two neighbouring ones
  twice : (n i j d : ℕ) → i < j → j < length sorted → get_or sorted i d ≡ n → get_or sorted j d ≡ n
      → Contains repeated n
  twice n i j d lt within ei ej =
      let first : get_or sorted i 0 ≡ n = get_or_default sorted i 0 d (omega arith) ∙ ei in
      let last : get_or sorted j 0 ≡ n = get_or_default sorted j 0 d within ∙ ej in
      let low : get_or sorted i 0 ≤ get_or sorted (j - 1) 0 =
      up i (j - 1) 0 (omega arith) (omega arith) in
      let high : get_or sorted (j - 1) 0 ≤ get_or sorted j 0 =
      up (j - 1) j 0 (omega arith) within in
      let before : get_or sorted (j - 1) 0 ≡ n = omega (arith, first, last, low, high) in
      let behind : (j - 1) + 1 ≡ j = omega arith in
      let here : Contains repeated (get_or sorted (j - 1) 0) =
      adjacent (j - 1) (omega (arith, behind)) (rw behind (before ∙ sym last)) in
      let P : ℕ → Type 0 = λ m. Contains repeated m in subst P before here

  distinct : (n : ℕ) → (Contains repeated n → ⊥) → IsDistinct (both_are n) sorted
  distinct n lacks =
      IsDistinct-from_apart (both_are n) sorted
      (λ i j d lt within.
      false_from_ne_true (both_are n (get_or sorted i d) (get_or sorted j d)) (λ t.
      let both = and_parts (eqb (get_or sorted i d) n) (eqb (get_or sorted j d) n) t in
      lacks (twice n i j d lt within (eqb-true (get_or sorted i d) n both.0)
      (eqb-true (get_or sorted j d) n both.1))))

  pub has_repeated : (numbers : List ℕ) → IsPermutation numbers sorted
      → HasRepeated numbers repeated
  has_repeated numbers permuted i j lt within e =
      ⊎_elim (any_is n repeated) (λ f. absurd (lacking f))
      (cases_Bool (list_any (λ x. eqb x n) repeated))
    where
      n : ℕ
      n = get_or numbers j 0

      lacking : list_any (λ x. eqb x n) repeated ≡ false → ⊥
      lacking f =
          let none : Contains repeated n → ⊥ =
          λ has. let t : list_any (λ x. eqb x n) repeated ≡ true =
          is_any n repeated has in cc in
          let apart = IsDistinct-IsPermutation (both_are n) (flips n) sorted numbers
          (IsPermutation-sym numbers sorted permuted) (distinct n none) in
          let no_two : both_are n (get_or numbers i 0) (get_or numbers j 0) ≡ false =
          apart_from_distinct (both_are n) numbers i j 0 apart lt within in
          let two : both_are n (get_or numbers i 0) (get_or numbers j 0) ≡ true =
          and_from (eqb (get_or numbers i 0) n) (eqb (get_or numbers j 0) n)
          (eq-eqb (get_or numbers i 0) n e) (eq-eqb n n refl) in
          cc
