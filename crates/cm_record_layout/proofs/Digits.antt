-- The numbers of a word are read back as they were put there.
-- On `four_numbers`, `first_of`, `second_of`, for crates above.
use Rattle.std.proofs.Common.{◌≡◌, ◌<◌, ◌+◌, ◌*◌, ◌^◌, ℕ, true, arith}
use Rattle.std.specs.Prelude.{◌==◌}
use Rattle.std.proofs.lemmas.Bool.{eq-eqb}
use Rattle.cm_record_layout.specs.Packing.{four_numbers, first_of, second_of, third_of, fourth_of}
use Rattle.cm_record_layout.specs.Packing.{upper_of}

module _ (a b c d : ℕ) (ha : a < 2 ^ 16) (hb : b < 2 ^ 16) (hc : c < 2 ^ 16) (hd : d < 2 ^ 16) where
  pub first-four_numbers : first_of (four_numbers a b c d) ≡ a
  first-four_numbers = omega arith

  pub second-four_numbers : second_of (four_numbers a b c d) ≡ b
  second-four_numbers = omega arith

  pub third-four_numbers : third_of (four_numbers a b c d) ≡ c
  third-four_numbers = omega arith

  pub fourth-four_numbers : fourth_of (four_numbers a b c d) ≡ d
  fourth-four_numbers = omega arith

pub four_numbers_parts : (w : ℕ) → w < 2 ^ 64
    → four_numbers (first_of w) (second_of w) (third_of w) (fourth_of w) ≡ w
four_numbers_parts w h = omega arith

module _ (name count : ℕ) (hn : name < 2 ^ 16) (hc : count < 2 ^ 32) where
  pub first-attribute : first_of (name + 2 ^ 32 * count) ≡ name
  first-attribute = omega arith

  pub upper-attribute : upper_of (name + 2 ^ 32 * count) ≡ count
  upper-attribute = omega arith

pub four_numbers_test : (w : ℕ) → w < 2 ^ 64
    → (four_numbers (first_of w) (second_of w) (third_of w) (fourth_of w) == w) ≡ true
four_numbers_test w h =
    eq-eqb (four_numbers (first_of w) (second_of w) (third_of w) (fourth_of w)) w
    (four_numbers_parts w h)
