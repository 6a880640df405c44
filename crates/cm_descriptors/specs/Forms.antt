-- The form of Utf8s, names and descriptors, on their bytes (JVMS SE 8, sections 4.2, 4.3 and
-- 4.4.7).
use Rattle.std.specs.Prelude.{◌-◌, slice_get, ℕ, zero, suc, ◌+◌, Bool, true, false, not, ◌&&◌, ◌||◌}
use Rattle.std.specs.Prelude.{List, [], ◌∷◌, Option, Some, None, option_and_then, nat_le, ◌==◌}
use Rattle.std.specs.Prelude.{if◌then◌else◌, length, bytes_eq, codes}
use Rattle.std.specs.Option.{option_map_or}
use Rattle.std.specs.List.{list_all}

abbrev pub is_within : ℕ → ℕ → ℕ → Bool
is_within low high b = nat_le low b && nat_le b high

-- ---- the form of a Utf8 (JVMS 4.4.7, for which the shortest form isn't required)

-- How many bytes a character lacks after a byte, given how many it lacked before it: a character is
-- one byte from 01 to 7F, or C0 to DF with one byte from 80 to BF, or E0 to EF with two.
abbrev pub owed_after : ℕ → ℕ → Option ℕ
owed_after (suc n) b = if is_within 0x80 0xBF b then Some n else None
owed_after zero b =
    if is_within 0x01 0x7F b then Some 0
    else if is_within 0xC0 0xDF b then Some 1
    else if is_within 0xE0 0xEF b then Some 2
    else None

-- a sequence of characters, of which the first lacks `owed` bytes
unfoldable pub has_utf8_form_after : ℕ → List ℕ → Bool
has_utf8_form_after owed [] = owed == 0
has_utf8_form_after owed (b ∷ bytes) =
    option_map_or (λ n. has_utf8_form_after n bytes) (owed_after owed b) false

unfoldable pub has_utf8_form : List ℕ → Bool
has_utf8_form bytes = has_utf8_form_after 0 bytes

-- ---- names (JVMS 4.2), with the codes of `.` `/` `;` `[` `<` `>`

abbrev pub dot : ℕ
dot = 46

abbrev pub slash : ℕ
slash = 47

abbrev pub semicolon : ℕ
semicolon = 59

abbrev pub bracket : ℕ
bracket = 91

abbrev pub less : ℕ
less = 60

abbrev pub greater : ℕ
greater = 62

-- none of the bytes that can't occur in a name
abbrev pub is_name_byte : ℕ → Bool
is_name_byte b = not (b == dot) && not (b == semicolon) && not (b == bracket) && not (b == slash)

abbrev pub is_empty : List ℕ → Bool
is_empty bytes = length bytes == 0

unfoldable pub is_unqualified_name : List ℕ → Bool
is_unqualified_name bytes = not (is_empty bytes) && list_all is_name_byte bytes

abbrev pub init : List ℕ
init = codes "<init>"

abbrev pub clinit : List ℕ
clinit = codes "<clinit>"

unfoldable pub is_method_name : List ℕ → Bool
is_method_name bytes =
    (is_unqualified_name bytes && list_all (λ b. not (b == less) && not (b == greater)) bytes)
    || bytes_eq bytes init || bytes_eq bytes clinit

-- Whether a name begins after a byte of unqualified names joined by `/`; `begins` says whether one
-- may begin at the byte.
unfoldable pub name_after : Bool → ℕ → Option Bool
name_after begins b =
    if b == slash then (if begins then None else Some true)
    else if is_name_byte b then Some false
    else None

unfoldable pub is_class_name_from : Bool → List ℕ → Bool
is_class_name_from begins [] = not begins
is_class_name_from begins (b ∷ bytes) =
    option_map_or (λ after. is_class_name_from after bytes) (name_after begins b) false

unfoldable pub is_class_name : List ℕ → Bool
is_class_name bytes = is_class_name_from true bytes

-- ---- descriptors (JVMS 4.3)

-- B C D F I J S Z
abbrev pub is_base_type : ℕ → Bool
is_base_type b =
    b == 66 || b == 67 || b == 68 || b == 70 || b == 73 || b == 74 || b == 83 || b == 90

-- the bytes after a class name and its `;`
unfoldable pub after_class : Bool → List ℕ → Option (List ℕ)
after_class begins [] = None
after_class begins (b ∷ bytes) =
    if b == semicolon then (if begins then None else Some bytes)
    else option_and_then (λ after. after_class after bytes) (name_after begins b)

-- the bytes after a field descriptor of at most this many dimensions; `L` is 76
unfoldable pub after_field : ℕ → List ℕ → Option (List ℕ)
after_field dimensions [] = None
after_field zero (b ∷ bytes) =
    if b == 76 then after_class true bytes
    else if is_base_type b then Some bytes
    else None
after_field (suc n) (b ∷ bytes) =
    if b == bracket then after_field n bytes
    else if b == 76 then after_class true bytes
    else if is_base_type b then Some bytes
    else None

unfoldable pub is_field_descriptor : List ℕ → Bool
is_field_descriptor bytes = option_map_or is_empty (after_field 255 bytes) false

abbrev pub begins_with : ℕ → List ℕ → Bool
begins_with b [] = false
begins_with b (c ∷ bytes) = c == b

abbrev pub is_array_descriptor : List ℕ → Bool
is_array_descriptor bytes = begins_with bracket bytes && is_field_descriptor bytes

-- a long or a double takes two units, everything else one: D is 68, J is 74
abbrev pub units_of_first : List ℕ → ℕ
units_of_first bytes = if begins_with 68 bytes || begins_with 74 bytes then 2 else 1

-- The units of the parameters up to `)` (41), of which there are at most as many as the number, and
-- the bytes after it.
unfoldable pub parameters : ℕ → List ℕ → Option (ℕ × List ℕ)
parameters zero bytes = None
parameters (suc n) [] = None
parameters (suc n) (b ∷ bytes) =
    if b == 41 then Some (0, bytes)
    else option_and_then
    (λ rest. option_and_then (λ others. Some (units_of_first (b ∷ bytes) + others.0, others.1))
    (parameters n rest)) (after_field 255 (b ∷ bytes))

-- `V`, which is 86, or a field descriptor, with nothing after it
abbrev pub is_return_descriptor : List ℕ → Bool
is_return_descriptor bytes = bytes_eq bytes (86 ∷ []) || is_field_descriptor bytes

-- the units of a method descriptor's parameters; none if the bytes are none; `(` is 40
unfoldable pub method_units : List ℕ → Option ℕ
method_units [] = None
method_units (b ∷ bytes) =
    if b == 40
    then option_and_then
    (λ p. if is_return_descriptor p.1 && nat_le p.0 255 then Some p.0 else None)
    (parameters (length bytes) bytes)
    else None

abbrev pub is_method_descriptor : List ℕ → Bool
is_method_descriptor bytes = option_map_or (λ _. true) (method_units bytes) false

-- a method descriptor ends with `V` (86) if nothing is returned
abbrev pub ends_in_void : List ℕ → Bool
ends_in_void bytes = option_map_or (λ b. b == 86) (slice_get bytes (length bytes - 1)) false
