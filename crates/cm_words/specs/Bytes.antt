-- Words as bytes.
use Rattle.std.specs.Prelude.{ℕ, zero, suc, List, [], ◌∷◌, drop}
use Rattle.std.specs.List.{flat_map}
use Rattle.std.specs.Int.{w64, to_le_bytes, from_le_bytes}

-- a word's eight bytes, the lowest first
unfoldable pub bytes_of : ℕ → List ℕ
bytes_of word = to_le_bytes w64 word

-- each word as its eight bytes, the lowest first
abbrev pub word_bytes : List ℕ → List ℕ
word_bytes words = flat_map bytes_of words

-- the word of the first eight bytes, the first of them lowest; if there are fewer, the remaining
-- bits are 0
unfoldable pub word_from : List ℕ → ℕ
word_from bytes = from_le_bytes w64 bytes

-- this many words: byte j is bits 8 * (j mod 8) and up of word j div 8, and the unused bits of the
-- last word are 0
abbrev pub packed_into : ℕ → List ℕ → List ℕ
packed_into zero bytes = []
packed_into (suc n) bytes = word_from bytes ∷ packed_into n (drop 8 bytes)
