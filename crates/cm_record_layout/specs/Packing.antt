-- Bytes in words, and small numbers side by side in a word.
use Rattle.std.specs.Prelude.{ℕ, ◌+◌, ◌*◌, ◌/◌, ◌%◌, ◌^◌, List, length}
-- a word's eight bytes, and each word as these
unfoldable pub use Rattle.cm_words.specs.Bytes.{bytes_of}
pub use Rattle.cm_words.specs.Bytes.{word_bytes}
-- the word of the first eight bytes, and a number of words
unfoldable pub use Rattle.cm_words.specs.Bytes.{word_from}
pub use Rattle.cm_words.specs.Bytes.{packed_into}

-- how many words a run of `count` bytes takes
abbrev pub run_words : ℕ → ℕ
run_words count = (count + 7) / 8

-- a run: eight bytes per word, the first of them lowest
abbrev pub packed : List ℕ → List ℕ
packed bytes = packed_into (run_words (length bytes)) bytes

-- four numbers of 16 bits in one word, the first of them lowest
abbrev pub four_numbers : ℕ → ℕ → ℕ → ℕ → ℕ
four_numbers first second third fourth = first + 2 ^ 16 * second + 2 ^ 32 * third + 2 ^ 48 * fourth

-- the numbers of 16 bits in a word
abbrev pub first_of : ℕ → ℕ
first_of word = word % 2 ^ 16

abbrev pub second_of : ℕ → ℕ
second_of word = word / 2 ^ 16 % 2 ^ 16

abbrev pub third_of : ℕ → ℕ
third_of word = word / 2 ^ 32 % 2 ^ 16

abbrev pub fourth_of : ℕ → ℕ
fourth_of word = word / 2 ^ 48 % 2 ^ 16

-- the upper 32 bits of a word
abbrev pub upper_of : ℕ → ℕ
upper_of word = word / 2 ^ 32 % 2 ^ 32
