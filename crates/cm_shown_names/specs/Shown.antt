-- The name that the bytes of a record show: three words and the bytes of a name are looked at, and
-- nothing else is.
use Rattle.std.specs.Prelude.{ℕ, ◌+◌, ◌*◌, ◌%◌, ◌^◌, ◌==◌, nat_le, if◌then◌else◌, List, length}
use Rattle.std.specs.Prelude.{take, drop, Option, Some, None}
use Rattle.cm_record_layout.specs.Packing.{word_from, first_of, second_of, third_of, upper_of}

-- the word at a place; bits past the end are 0
abbrev pub word_in : List ℕ → ℕ → ℕ
word_in bytes place = word_from (drop (8 * place) bytes)

-- the bytes at a place, if there are that many
abbrev pub text_at : List ℕ → ℕ → ℕ → Option (List ℕ)
text_at bytes at len =
    if nat_le (at + len) (length bytes) then Some (take len (drop at bytes)) else None

-- the text of the Utf8 that a word of the directory is
abbrev pub text_shown : List ℕ → ℕ → Option (List ℕ)
text_shown bytes word =
    if first_of word == 1 then text_at bytes (upper_of word * 8 % 2 ^ 32) (second_of word) else None

-- the name of the Class that a word of the directory is
abbrev pub class_shown : List ℕ → ℕ → Option (List ℕ)
class_shown bytes word =
    if first_of word == 7 then text_shown bytes (word_in bytes (8 + third_of word)) else None

-- the name of the Class at the index that the record's head gives for the class itself
unfoldable pub name_shown : List ℕ → Option (List ℕ)
name_shown bytes = class_shown bytes (word_in bytes (8 + second_of (word_in bytes 1)))
