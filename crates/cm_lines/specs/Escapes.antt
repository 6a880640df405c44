-- Class names in scripts: a byte 0x21 to 0x7E other than `%` stands for itself; every other byte is
-- `%` and two hexadecimal digits, written in upper case and read in either case. So each name has
-- one spelling, apart from that case.
use Rattle.std.specs.Prelude.{◌<◌, ℕ, zero, suc, ◌+◌, ◌-◌, ◌*◌, ◌/◌, ◌%◌, Bool, not, ◌&&◌, ◌==◌}
use Rattle.std.specs.Prelude.{nat_le, nat_lt, if◌then◌else◌, List, [], ◌∷◌, ◌++◌, Option, Some}
use Rattle.std.specs.Prelude.{None, Result, Ok, Err}
use Rattle.std.specs.Option.{option_map, option_and_then}
use Rattle.std.specs.List.{flat_map}
use Rattle.cm_lines.specs.declared.escape.Awaited.{Awaited}
use Rattle.cm_lines.specs.declared.escape.Awaited.TheVariants.{Any, High, Low}
use Rattle.cm_lines.specs.declared.escape.Read.{Read}
use Rattle.cm_lines.specs.declared.escape.Read.TheVariants.{Awaits, Byte}
use Rattle.cm_lines.specs.declared.escape.NameFault.{NameFault}

abbrev pub is_plain : ℕ → Bool
is_plain b = nat_le 33 b && nat_le b 126 && not (b == 37)

abbrev pub upper_digit : ℕ → ℕ
upper_digit v = if nat_lt v 10 then 48 + v else 65 + (v - 10)

abbrev pub digit_value : ℕ → Option ℕ
digit_value d =
    if nat_le 48 d && nat_le d 57 then Some (d - 48)
    else if nat_le 65 d && nat_le d 70 then Some (d - 65 + 10)
    else if nat_le 97 d && nat_le d 102 then Some (d - 97 + 10)
    else None

abbrev pub escaped_byte : ℕ → List ℕ
escaped_byte b =
    if is_plain b then b ∷ [] else 37 ∷ upper_digit (b / 16) ∷ upper_digit (b % 16) ∷ []

abbrev pub escaped : List ℕ → List ℕ
escaped name = flat_map escaped_byte name

-- the name that a text spells from there on
abbrev pub spelled_from : Awaited → List ℕ → Option (List ℕ)
spelled_from Any [] = Some []
spelled_from Any (b ∷ text) =
    if is_plain b then option_map (λ n. b ∷ n) (spelled_from Any text)
    else (if b == 37 then spelled_from High text else None)
spelled_from High [] = None
spelled_from High (d ∷ text) = option_and_then (λ v. spelled_from (Low v) text) (digit_value d)
spelled_from (Low high) [] = None
spelled_from (Low high) (d ∷ text) =
    option_and_then
    (λ v. if is_plain (16 * high + v) then None
    else option_map (λ n. (16 * high + v) ∷ n) (spelled_from Any text)) (digit_value d)

-- the name that a text spells
abbrev pub unescaped : List ℕ → Option (List ℕ)
unescaped text = spelled_from Any text

-- the name that is spelled by the result of one byte and a text after it
abbrev pub spelled_after : Result Read NameFault → List ℕ → Option (List ℕ)
spelled_after (Ok (Awaits next)) text = spelled_from next text
spelled_after (Ok (Byte b)) text = option_map (λ n. b ∷ n) (spelled_from Any text)
spelled_after (Err fault) text = None

-- what is kept of a first digit is a digit's value
abbrev pub IsDigitAwaited : Awaited → Type 0
IsDigitAwaited Any = Unit {0}
IsDigitAwaited High = Unit {0}
IsDigitAwaited (Low high) = high < 16

abbrev pub IsDigitRead : Read → Type 0
IsDigitRead (Awaits next) = IsDigitAwaited next
IsDigitRead (Byte b) = Unit {0}

-- a name with its front before it
abbrev pub named_by : List ℕ → Option (List ℕ) → Option (List ℕ)
named_by front None = None
named_by front (Some name) = Some (front ++ name)

-- ---- spellings, apart from the case of their digits

-- a hexadecimal digit in upper case
abbrev pub in_upper_case : ℕ → ℕ
in_upper_case d = if nat_le 97 d && nat_le d 102 then d - 32 else d

-- a text of which this many first bytes are digits, with those after each `%` in upper case
unfoldable pub upper_from : ℕ → List ℕ → List ℕ
upper_from n [] = []
upper_from zero (b ∷ text) = b ∷ upper_from (if b == 37 then 2 else 0) text
upper_from (suc n) (d ∷ text) = in_upper_case d ∷ upper_from n text

abbrev pub with_upper_digits : List ℕ → List ℕ
with_upper_digits text = upper_from 0 text
