-- Whether one of the first items passes a test.
-- For `is_first`.
use Rattle.std.proofs.Common.{◌≡◌, ◌<◌, ◌+◌, ◌-◌, ℕ, suc, Bool, true, false, List, ◌∷◌, take}
use Rattle.std.proofs.Common.{sym, ◌∙◌, ap, arith}
use Rattle.std.specs.Prelude.{◌||◌}
use Rattle.std.specs.List.{list_any}

module _ {A : Type 0} (test : A → Bool) where
  first_taken : (n k : ℕ) (x : A) (others : List A) → n ≡ suc k
      → list_any test (take n (x ∷ others)) ≡ (test x || list_any test (take k others))
  first_taken n k x others e = ap (λ m. list_any test (take m (x ∷ others))) e

  pub any_here : (place i : ℕ) (rest others : List A) (x : A) → rest ≡ x ∷ others → i < place
      → test x ≡ true → list_any test (take (place - i) rest) ≡ true
  any_here place i rest others x is lt passes =
      let k = place - (i + 1) in
      let n : place - i ≡ suc k = omega arith in
      ap (λ l. list_any test (take (place - i) l)) is
      ∙ (first_taken (place - i) k x others n
      ∙ ap (λ b. b || list_any test (take k others)) passes)

  pub any_next : (place i : ℕ) (rest others : List A) (x : A) → rest ≡ x ∷ others → i < place
      → test x ≡ false
      → list_any test (take (place - (i + 1)) others) ≡ list_any test (take (place - i) rest)
  any_next place i rest others x is lt fails =
      let k = place - (i + 1) in
      let n : place - i ≡ suc k = omega arith in
      sym (ap (λ l. list_any test (take (place - i) l)) is
      ∙ (first_taken (place - i) k x others n
      ∙ ap (λ b. b || list_any test (take k others)) fails))
