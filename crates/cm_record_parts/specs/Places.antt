-- Where bytes are in the words of a record.
use Rattle.std.specs.Prelude.{◌≡◌, ◌≤◌, ℕ, ◌+◌, ◌*◌, List, length, take, drop, Option, Some, None}
use Rattle.std.specs.Prelude.{unwrap_or}
use Rattle.cm_class.specs.declared.constant.Constant.TheVariants as constant
use Rattle.cm_record_layout.specs.Packing.{word_bytes}
use Rattle.cm_record.specs.Constants.{RecordConstant, constant_at_index}
use Rattle.cm_record.specs.Runs.{class_link}
use Rattle.cm_record_parts.specs.declared.places.Place.{Place}

-- the bytes at a place, in the words as bytes
abbrev pub bytes_at : List ℕ → Place → List ℕ
bytes_at words place = take place.len (drop place.at (word_bytes words))

-- These are the bytes at a place, which is within the words.
pub record LieAt (words : List ℕ) (place : Place) (bytes : List ℕ) : Type 0 where
  pub within : place.at + place.len ≤ 8 * length words
  pub len : place.len ≡ length bytes
  pub are : bytes_at words place ≡ bytes

-- bytes that are there have such a place, and others have none
abbrev pub MayLieAt : List ℕ → Option Place → Option (List ℕ) → Type 0
MayLieAt words None None = Unit {0}
MayLieAt words None (Some bytes) = ⊥
MayLieAt words (Some place) None = ⊥
MayLieAt words (Some place) (Some bytes) = LieAt words place bytes

abbrev pub no_bytes : Place
no_bytes = record { at = 0; len = 0 }

-- the place of a Utf8; none for anything else
abbrev pub text_place : Option RecordConstant → Option Place
text_place (Some (constant.Utf8 place)) = Some (record { at = place.at; len = place.len })
text_place _ = None

-- the place of a Utf8; that of no bytes for anything else
abbrev pub place_of_utf8 : Option RecordConstant → Place
place_of_utf8 constant = unwrap_or (text_place constant) no_bytes

-- the place of the Utf8 at an index
abbrev pub utf8_place : List ℕ → ℕ → Place
utf8_place words index = place_of_utf8 (constant_at_index words index)

-- the place of the name that the Class at an index leads to
abbrev pub name_place : List ℕ → ℕ → Place
name_place words index = utf8_place words (class_link (constant_at_index words index))
