-- Bits in words of 64, and the summaries that a row keeps above them.
use Rattle.std.specs.Prelude.{◌≡◌, ℕ, ◌*◌, ◌/◌, ◌%◌, ◌^◌, ◌<◌, ◌≤◌, Bool, true, false, not, ◌==◌}
use Rattle.std.specs.Prelude.{List, length, set, slice_index_or, bit_and, bit_or}
use Rattle.std.specs.Int.{bit_at, bit_not, w64}

-- the k-th word; 0 after the last
abbrev pub word : List ℕ → ℕ → ℕ
word words k = slice_index_or words k 0

-- the i-th bit; none is set after the last word
abbrev pub bit : List ℕ → ℕ → Bool
bit words i = bit_at (word words (i / 64)) (i % 64) == 1

-- with the bit i set, and with it cleared
abbrev pub with_bit : List ℕ → ℕ → List ℕ
with_bit words i = set words (i / 64) (bit_or (word words (i / 64)) (2 ^ (i % 64)))

abbrev pub without_bit : List ℕ → ℕ → List ℕ
without_bit words i =
    set words (i / 64) (bit_and (word words (i / 64)) (bit_not w64 (2 ^ (i % 64))))

-- the first bit that is set
pub record IsFirstBit (words : List ℕ) (i : ℕ) : Type 0 where
  pub is_set : bit words i ≡ true
  pub first : (j : ℕ) → j < i → bit words j ≡ false

-- the first word that isn't 0
pub record IsFirstWord (words : List ℕ) (k : ℕ) : Type 0 where
  pub within : k < length words
  pub some : 0 < word words k
  pub first : (j : ℕ) → j < k → word words j ≡ 0

-- `above` has a bit for each word, set if the word isn't 0
pub record IsSummary (words above : List ℕ) : Type 0 where
  pub long : length words ≤ 64 * length above
  pub each : (k : ℕ) → bit above k ≡ not (word words k == 0)

-- the invariant of a row
pub record IsRow (words groups heads : List ℕ) : Type 0 where
  pub grouped : IsSummary words groups
  pub headed : IsSummary groups heads
  pub short : length words ≤ 16384
  pub few_groups : length groups ≤ 16384
  pub few_heads : length heads ≤ 16384
