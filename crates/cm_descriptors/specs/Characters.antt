-- The characters of a Utf8 (JVMS SE 8, section 4.4.7), for which the shortest form isn't required.
use Rattle.std.specs.Prelude.{◌≡◌, ℕ, ◌≤◌, List, [], ◌∷◌}
use Rattle.std.specs.List.{flat_map, AllByRecursion}

-- a character by its bytes
pub data Character : Type 0 where
  OneByte : ℕ → Character
  TwoBytes : ℕ → ℕ → Character
  ThreeBytes : ℕ → ℕ → ℕ → Character

abbrev pub IsBetween : ℕ → ℕ → ℕ → Type 0
IsBetween low high byte = (low ≤ byte) × (byte ≤ high)

-- a byte after the first of a character
abbrev pub Continues : ℕ → Type 0
Continues byte = IsBetween 0x80 0xBF byte

-- the three forms of a character
abbrev pub IsCharacter : Character → Type 0
IsCharacter (OneByte a) = IsBetween 0x01 0x7F a
IsCharacter (TwoBytes a b) = IsBetween 0xC0 0xDF a × Continues b
IsCharacter (ThreeBytes a b c) = IsBetween 0xE0 0xEF a × Continues b × Continues c

abbrev pub character_bytes : Character → List ℕ
character_bytes (OneByte a) = a ∷ []
character_bytes (TwoBytes a b) = a ∷ b ∷ []
character_bytes (ThreeBytes a b c) = a ∷ b ∷ c ∷ []

-- some characters, one after another, are these bytes
abbrev pub AreCharacters : List ℕ → Type 0
AreCharacters bytes =
    (characters : List Character) × AllByRecursion IsCharacter characters
    × (flat_map character_bytes characters ≡ bytes)
