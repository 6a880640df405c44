-- Which number a word spells: in decimal digits only, and if the number fits 64 bits.
use Rattle.std.specs.Prelude.{ℕ, ◌+◌, ◌-◌, ◌*◌, ◌^◌, ◌&&◌, nat_le, nat_lt, if◌then◌else◌, List, []}
use Rattle.std.specs.Prelude.{◌∷◌, Option, Some, None}
use Rattle.std.specs.Option.{option_and_then}

-- the number with one more digit after it
abbrev pub digit_behind : ℕ → ℕ → Option ℕ
digit_behind n b =
    if nat_le 48 b && nat_le b 57 && nat_lt (n * 10 + (b - 48)) (2 ^ 64)
    then Some (n * 10 + (b - 48)) else None

-- the number with more digits after it
abbrev pub number_from : ℕ → List ℕ → Option ℕ
number_from n [] = Some n
number_from n (b ∷ text) = option_and_then (λ m. number_from m text) (digit_behind n b)

abbrev pub number_in : List ℕ → Option ℕ
number_in [] = None
number_in (b ∷ text) = number_from 0 (b ∷ text)
