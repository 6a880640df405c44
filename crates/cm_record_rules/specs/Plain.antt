-- Bytes that are found in most names and texts.
use Rattle.std.specs.Prelude.{ℕ, ◌+◌, Bool, not, ◌&&◌, ◌==◌, List, [], ◌∷◌, if◌then◌else◌}
use Rattle.std.specs.List.{list_all, flat_map}
use Rattle.cm_class.specs.declared.constant.Constant.TheVariants as constant
use Rattle.cm_class.specs.declared.constant.Slot.{Slot}
use Rattle.cm_class.specs.declared.constant.Slot.TheVariants.{Usable}
use Rattle.cm_descriptors.specs.Forms.{is_name_byte, less, greater, is_empty, is_within}

-- ---- names

-- a byte that may be in the name of a field or a method, except the two special ones
abbrev pub is_plain_byte : ℕ → Bool
is_plain_byte b = is_name_byte b && not (b == less) && not (b == greater)

unfoldable pub is_plain_name : List ℕ → Bool
is_plain_name bytes = not (is_empty bytes) && list_all is_plain_byte bytes

-- ---- the texts of Utf8s

-- a character by itself
abbrev pub is_character : ℕ → Bool
is_character b = is_within 0x01 0x7F b

-- how many of the bytes are characters by themselves
abbrev pub count_characters : List ℕ → ℕ
count_characters [] = 0
count_characters (b ∷ bytes) = (if is_character b then 1 else 0) + count_characters bytes

-- the bytes of a Utf8; of any other slot none
abbrev pub slot_text : Slot → List ℕ
slot_text (Usable (constant.Utf8 bytes)) = bytes
slot_text _ = []

-- those of all Utf8s
abbrev pub texts : List Slot → List ℕ
texts slots = flat_map slot_text slots
