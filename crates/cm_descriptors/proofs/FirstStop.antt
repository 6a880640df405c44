-- The first stop among some bytes, and the class name before it.
-- For `first_stop_of_few`, `first_stop_of_many`, `run_of_sixteen`.
use Rattle.std.proofs.Common.{◌≡◌, ℕ, zero, suc, ◌+◌, ◌%◌, ◌^◌, ◌<◌, ◌≤◌, cond, Bool, true, false}
use Rattle.std.proofs.Common.{not, List, [], ◌∷◌, map, length, get_or, take, drop, Fits, w8, ◌⊎◌}
use Rattle.std.proofs.Common.{inl, inr, refl, sym, ap, ap₂, ◌∙◌, arith}
use Rattle.std.proofs.lemmas.Bool.{agree_below, agree_below_at, cases_lt}
use Rattle.std.proofs.lemmas.Simd.{map-map, mask_l-mod, length-chunk, chunk-fits, first_set_mask_l}
use Rattle.std.proofs.lemmas.List.{length-map, length-take}
use Rattle.std.proofs.lemmas.List.Sums.{prefix_len-le-length, prefix_len_passes, prefix_len_stops}
use Rattle.std.specs.List.{prefix_len}
use lib.Lanes.{chunk, mask_l, top, Each1}
use Rattle.cm_descriptors.specs.Marks.{first_set}

-- ---- one load

agree_prefix : (s p : ℕ → Bool) (v : List ℕ) → Each1 (Fits w8) v → agree_below s p 256 ≡ true
    → prefix_len s v ≡ prefix_len p v
agree_prefix s p [] e h = refl
agree_prefix s p (x ∷ v) e h =
    ap₂ (λ a b. cond a (1 + b) 0) (agree_below_at s p 256 x h e.0.fits) (agree_prefix s p v e.1 h)

module _ (p : ℕ → Bool) (d : List ℕ) (i n : ℕ) {z : List ℕ} (room : i + n ≤ length d) (few : n ≤ 64)
    (fits : (k : ℕ) → Fits w8 (get_or d k 0)) (f : ℕ → ℕ) (lanes : z ≡ map f (chunk i n d)) where
  abbrev set : ℕ → Bool
  set x = top 7 (f x)

  -- the bytes before the first lane that is set are those that pass p
  pub run_is : agree_below (λ x. not (top 7 (f x))) p 256 ≡ true
      → first_set (mask_l (map (top 7) z) % 2 ^ 64) n ≡ prefix_len p (chunk i n d)
  run_is all =
      let v = chunk i n d in
      let long = length-chunk i n d room in
      let mask = ap (λ l. mask_l l % 2 ^ 64) (ap (map (top 7)) lanes ∙ map-map (top 7) f v) ∙
      mask_l-mod (map set v) 64 (omega (arith, length-map v set, long)) in
      ap (λ m. first_set m n) mask ∙ first_set_mask_l set v n long few ∙ agree_prefix
      (λ x. not (set x)) p v (chunk-fits w8 i n d fits) all

-- ---- load by load

pub by_head : (p : ℕ → Bool) (x : ℕ) (xs : List ℕ)
    → (p x ≡ true) × (prefix_len p (x ∷ xs) ≡ suc (prefix_len p xs))
    ⊎ (p x ≡ false) × (prefix_len p (x ∷ xs) ≡ 0)
by_head p x xs = by_test (p x) refl
  where
    by_test : (t : Bool) → t ≡ p x → (p x ≡ true) × (prefix_len p (x ∷ xs) ≡ suc (prefix_len p xs))
        ⊎ (p x ≡ false) × (prefix_len p (x ∷ xs) ≡ 0)
    by_test true e =
        let one : 1 + prefix_len p xs ≡ suc (prefix_len p xs) =
        omega arith in inl (sym e, ap (λ t. cond t (1 + prefix_len p xs) 0) (sym e) ∙ one)
    by_test false e = inr (sym e, ap (λ t. cond t (1 + prefix_len p xs) 0) (sym e))

-- bytes that are known to pass are left out
pub skipped : (p : ℕ → Bool) (j : ℕ) (xs : List ℕ) → j ≤ prefix_len p xs
    → prefix_len p xs ≡ j + prefix_len p (drop j xs)
skipped p zero xs le = omega arith
skipped p (suc j) [] le = absurd (omega (arith, le))
skipped p (suc j) (x ∷ xs) le =
    elim (by_head p x xs) [
      | inl on ↦ omega (arith, on.1, skipped p j xs (omega (arith, le, on.1)))
      | inr off ↦ absurd (omega (arith, le, off.1))
    ]

-- a run that ends within the first n
pub within : (p : ℕ → Bool) (n : ℕ) (xs : List ℕ) → prefix_len p (take n xs) < n
    → prefix_len p xs ≡ prefix_len p (take n xs)
within p zero xs lt = absurd (omega (arith, lt))
within p (suc n) [] lt = refl
within p (suc n) (x ∷ xs) lt =
    elim (by_head p x xs) [
      | inl on ↦ elim (by_head p x (take n xs)) [
        | inl short ↦ omega (arith, on.1, short.1, within p n xs (omega (arith, lt, short.1)))
        | inr off ↦ absurd (cc (on.0, off.0))
      ]
      | inr off ↦ elim (by_head p x (take n xs)) [
        | inl short ↦ absurd (cc (off.0, short.0))
        | inr both ↦ off.1 ∙ sym both.1
      ]
    ]

pub beyond : (p : ℕ → Bool) (n : ℕ) (xs : List ℕ) → n ≤ prefix_len p (take n xs)
    → n ≤ prefix_len p xs
beyond p zero xs le = omega arith
beyond p (suc n) [] le = absurd (omega (arith, le))
beyond p (suc n) (x ∷ xs) le =
    elim (by_head p x (take n xs)) [
      | inl short ↦ elim (by_head p x xs) [
        | inl on ↦ omega (arith, on.1, beyond p n xs (omega (arith, le, short.1)))
        | inr off ↦ absurd (cc (off.0, short.0))
      ]
      | inr off ↦ absurd (omega (arith, le, off.1))
    ]

-- ---- byte by byte

pub passes_on : (p : ℕ → Bool) (i : ℕ) (xs : List ℕ) → i ≤ prefix_len p xs → i < length xs
    → p (get_or xs i 0) ≡ true → i + 1 ≤ prefix_len p xs
passes_on p i xs le lt h =
    elim (cases_lt i (prefix_len p xs)) [
      | inl before ↦ omega (arith, before)
      | inr after ↦
          let at : prefix_len p xs ≡ i = omega (arith, le, after) in
          let stop : p (get_or xs i 0) ≡ false =
          rw at at (prefix_len_stops p xs 0 (omega (arith, at, lt))) in
          absurd (cc (h, stop))
    ]

pub stops_at : (p : ℕ → Bool) (i : ℕ) (xs : List ℕ) → i ≤ prefix_len p xs
    → p (get_or xs i 0) ≡ false → i ≡ prefix_len p xs
stops_at p i xs le h =
    elim (cases_lt i (prefix_len p xs)) [
      | inl before ↦ absurd (cc (h, prefix_len_passes p xs i 0 before))
      | inr after ↦ omega (arith, le, after)
    ]

pub all_passed : (p : ℕ → Bool) (i : ℕ) (xs : List ℕ) → i ≤ prefix_len p xs → length xs ≤ i
    → length xs ≡ prefix_len p xs
all_passed p i xs le end = omega (arith, le, end, prefix_len-le-length p xs)

pub run_bound : (p : ℕ → Bool) (n : ℕ) (xs : List ℕ) → prefix_len p (take n xs) ≤ n
run_bound p n xs = omega (arith, prefix_len-le-length p (take n xs), length-take n xs)
