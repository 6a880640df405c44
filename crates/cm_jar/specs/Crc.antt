-- CRC-32, the check value of an entry (APPNOTE 4.4.7): division by a polynomial of degree 32,
-- computed with a shift register that takes the lowest bit of each byte first.
use Rattle.std.specs.Prelude.{ℕ, zero, suc, ◌/◌, ◌%◌, List, [], ◌∷◌, bit_xor, ◌==◌, if◌then◌else◌}
use Rattle.std.specs.Prelude.{Bool, true, ◌&&◌}

-- the polynomial without its highest term, the coefficient of the lowest power in the highest bit
abbrev pub polynomial : ℕ
polynomial = 0xEDB8_8320

-- The register after one shift. The bit that leaves it at the low end says whether the polynomial
-- is subtracted.
abbrev pub shift : ℕ → ℕ
shift r = if r % 2 == 0 then r / 2 else bit_xor (r / 2) polynomial

unfoldable pub shifts : ℕ → ℕ → ℕ
shifts zero r = r
shifts (suc n) r = shifts n (shift r)

-- the register after bytes: each is added at the low end, and eight shifts follow
unfoldable pub register_after : List ℕ → ℕ → ℕ
register_after [] r = r
register_after (b ∷ bs) r = register_after bs (shifts 8 (bit_xor r b))

-- the register begins with ones, and its complement is the check value
abbrev pub crc32 : List ℕ → ℕ
crc32 bytes = bit_xor (register_after bytes 0xFFFF_FFFF) 0xFFFF_FFFF

-- whether a table has, from a byte on, the result of eight shifts for each byte
unfoldable pub are_shifts_from : ℕ → List ℕ → Bool
are_shifts_from byte [] = true
are_shifts_from byte (x ∷ xs) = (x == shifts 8 byte) && are_shifts_from (suc byte) xs
