-- Lists of bytes compared one by one.
-- For `cmp_run_to`, `cmp_runs`.
use Rattle.std.proofs.Common.{◌≡◌, ◌<◌, ◌≤◌, ◌+◌, ◌⊎◌, inl, inr, ℕ, zero, suc, List, [], ◌∷◌}
use Rattle.std.proofs.Common.{length, drop, get_or, min, refl, sym, ◌∙◌, ap, arith, drop-cons}
use Rattle.std.proofs.Common.{length-drop}
use Rattle.std.specs.Ordering.{nat_cmp}
use Rattle.std.specs.Ordering.{ordering_then}
use Rattle.std.specs.declared.cmp.Ordering.{Ordering}
use Rattle.std.specs.declared.cmp.Ordering.TheVariants.{Less, Equal, Greater}
use Rattle.std.specs.Cmp.{nat_cmp_is}
use Rattle.std.specs.Cmp.Lexicographic.{slice_cmp}

abbrev order : List ℕ → List ℕ → Ordering
order xs ys = slice_cmp nat_cmp xs ys

heads : (xs ys : List ℕ) (i : ℕ) → i < length xs → i < length ys
    → order (drop i xs) (drop i ys)
    ≡ ordering_then (nat_cmp (get_or xs i 0) (get_or ys i 0))
    (order (drop (suc i) xs) (drop (suc i) ys))
heads xs ys i hx hy = λ j. order (drop-cons xs i 0 hx j) (drop-cons ys i 0 hy j)

equal_numbers : (x y : ℕ) → x ≡ y → nat_cmp x y ≡ Equal
equal_numbers x y e = sym (nat_cmp_is x y Equal e)

-- equal bytes don't decide the order
pub same_byte : (xs ys : List ℕ) (i n : ℕ) → n ≡ i + 1 → i < length xs → i < length ys
    → get_or xs i 0 ≡ get_or ys i 0 → order xs ys ≡ order (drop i xs) (drop i ys)
    → order xs ys ≡ order (drop n xs) (drop n ys)
same_byte xs ys i n en hx hy e so_far =
    let more : suc i ≡ n = omega arith in
    so_far ∙ (heads xs ys i hx hy ∙ (ap
    (λ o. ordering_then o (order (drop (suc i) xs) (drop (suc i) ys)))
    (equal_numbers (get_or xs i 0) (get_or ys i 0) e)
    ∙ ap (λ k. order (drop k xs) (drop k ys)) more))

-- nor do the first n bytes, if all of them are equal
pub same_bytes : (n : ℕ) (xs ys : List ℕ) → n ≤ length xs → n ≤ length ys
    → ((i : ℕ) → i < n → get_or xs i 0 ≡ get_or ys i 0)
    → order xs ys ≡ order (drop n xs) (drop n ys)
same_bytes zero xs ys hx hy same = refl
same_bytes (suc n) xs ys hx hy same =
    same_byte xs ys n (suc n) (omega arith) (omega arith) (omega arith) (same n (omega arith))
    (same_bytes n xs ys (omega arith) (omega arith) (λ i lt. same i (omega arith)))

below : (a b : ℕ) → (a ≡ b → ⊥) → (a < b) ⊎ (b < a)
below zero zero ne = absurd (ne refl)
below zero (suc b) ne = inl (omega arith)
below (suc a) zero ne = inr (omega arith)
below (suc a) (suc b) ne = elim (below a b
    (λ e. ne (ap suc e))) [ inl h ↦ inl (omega arith) | inr h ↦ inr (omega arith) ]

decided : (x y : ℕ) (o : Ordering) → (x ≡ y → ⊥) → ordering_then (nat_cmp x y) o ≡ nat_cmp x y
decided x y o ne = elim (below x y ne) [
  | inl h ↦ let less : nat_cmp x y ≡ Less = sym (nat_cmp_is x y Less h) in ap
      (λ c. ordering_then c o) less ∙ sym less
  | inr h ↦ let more : nat_cmp x y ≡ Greater = sym (nat_cmp_is x y Greater h) in ap
      (λ c. ordering_then c o) more ∙ sym more
]

-- the first bytes that differ decide
pub other_byte : (xs ys : List ℕ) (i : ℕ) → i < length xs → i < length ys
    → (get_or xs i 0 ≡ get_or ys i 0 → ⊥) → order xs ys ≡ order (drop i xs) (drop i ys)
    → nat_cmp (get_or xs i 0) (get_or ys i 0) ≡ order xs ys
other_byte xs ys i hx hy ne so_far =
    sym (so_far ∙ (heads xs ys i hx hy
    ∙ decided (get_or xs i 0) (get_or ys i 0) (order (drop (suc i) xs) (drop (suc i) ys)) ne))

below_or : (a b : ℕ) → (a ≤ b) ⊎ (b ≤ a)
below_or zero b = inl (omega arith)
below_or (suc a) zero = inr (omega arith)
below_or (suc a) (suc b) =
    elim (below_or a b) [ inl h ↦ inl (omega arith) | inr h ↦ inr (omega arith) ]

at_end : (us vs : List ℕ) (i lx ly : ℕ) → lx ≡ i + length us → ly ≡ i + length vs
    → (length us ≡ 0) ⊎ (length vs ≡ 0) → order us vs ≡ nat_cmp lx ly
at_end [] [] i lx ly ex ey h = nat_cmp_is lx ly Equal (omega arith)
at_end [] (v ∷ vs) i lx ly ex ey h = nat_cmp_is lx ly Less (omega arith)
at_end (u ∷ us) [] i lx ly ex ey h = nat_cmp_is lx ly Greater (omega arith)
at_end (u ∷ us) (v ∷ vs) i lx ly ex ey h =
    elim h [ inl e ↦ absurd (omega arith) | inr e ↦ absurd (omega arith) ]

-- if one list ends first, the lengths decide
pub one_ends : (xs ys : List ℕ) (i : ℕ) → i ≡ min (length xs) (length ys)
    → order xs ys ≡ order (drop i xs) (drop i ys) → nat_cmp (length xs) (length ys) ≡ order xs ys
one_ends xs ys i ei so_far =
    let dx = length-drop i xs in
    let dy = length-drop i ys in
    let ends : (length (drop i xs) ≡ 0)
    ⊎ (length (drop i ys) ≡ 0) =
    elim (below_or (length xs) (length ys)) [
      | inl h ↦ inl (omega arith)
      | inr h ↦ inr (omega arith)
    ] in
    sym (so_far ∙ at_end (drop i xs) (drop i ys) i (length xs) (length ys) (omega arith)
    (omega arith) ends)
