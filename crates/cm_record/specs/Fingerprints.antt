-- Numbers that distinguish names at a glance: if they differ, the names or the seeds do.
use Rattle.std.specs.Prelude.{ℕ, ◌+◌, ◌*◌, ◌/◌, ◌%◌, ◌^◌, List, [], ◌∷◌, length}
use Rattle.cm_record_layout.specs.Packing.{packed}

-- one more word folded in
unfoldable pub further : ℕ → ℕ → ℕ
further number word = (number * 11400714819323198485 % 2 ^ 64 + word) % 2 ^ 64

-- these words folded in
abbrev pub folded : ℕ → List ℕ → ℕ
folded number [] = number
folded number (word ∷ words) = folded (further number word) words

-- the upper half, after each bit has affected it
unfoldable pub upper_half : ℕ → ℕ
upper_half number = number * 14029467366897019727 % 2 ^ 64 / 2 ^ 32

-- the fingerprint of bytes, taken eight at a time, the first of each lowest, and of their count
unfoldable pub fingerprint : ℕ → List ℕ → ℕ
fingerprint seed bytes = upper_half (folded (further seed (length bytes)) (packed bytes))
