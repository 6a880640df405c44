-- Numbers that depend on bytes alone: if they differ, the bytes do.
use Rattle.std.specs.Prelude.{◌≡◌, ℕ, ◌+◌, ◌<◌, List, map, length, bit_xor, slice_index}
use Rattle.std.specs.List.{Contains, range_with_len}
use Rattle.std.specs.Int.{w64, rotate_left}
use Rattle.std.specs.List.{slice_index_or}
use Rattle.std.specs.Hash.FoldHasher as folding
use Rattle.std.specs.Hash.DefaultHasher as sip
use Rattle.cm_class.specs.declared.class_file.ClassFile.{ClassFile}
use Rattle.cm_class.specs.declared.class_file.Member.{Member}
use Rattle.cm_class.specs.Names.{utf8}
use Rattle.cm_duplicates.specs.declared.fingerprints.Strength.{Strength}
use Rattle.cm_duplicates.specs.declared.fingerprints.Strength.TheVariants.{Quick, Strong}
use Rattle.cm_duplicates.specs.First.{Agree}

-- what the two hashers of std compute for the bytes
unfoldable pub fingerprint : Strength → List ℕ → ℕ
fingerprint Quick bytes = folding.finish (folding.write folding.initial bytes)
fingerprint Strong bytes = sip.finish (sip.write sip.initial bytes)

-- the fingerprint at each index of the pool, from 0 on
abbrev pub utf8_fingerprints : Strength → ClassFile → List ℕ
utf8_fingerprints strength c =
    map (λ i. fingerprint strength (utf8 c i)) (range_with_len 0 (length c.slots + 1))

-- the fingerprint of a name and a descriptor
unfoldable pub joined_fingerprint : ℕ → ℕ → ℕ
joined_fingerprint name descriptor = bit_xor name (rotate_left w64 descriptor 32)

-- the fingerprint of a member
abbrev pub member_fingerprint : Strength → ClassFile → Member → ℕ
member_fingerprint strength c m =
    joined_fingerprint (fingerprint strength (utf8 c m.name))
    (fingerprint strength (utf8 c m.descriptor))

-- these are numbers of the members, and members that agree have the same number
pub record AreNumbers (c : ClassFile) (members : List Member) (numbers : List ℕ) : Type 0 where
  pub as_many : length numbers ≡ length members
  pub alike : (i j : ℕ) (m : Member) → i < length members → j < length members
      → Agree c (slice_index_or members i m) (slice_index_or members j m)
      → slice_index numbers i ≡ slice_index numbers j

-- each number of a sorted list that is the same as the next is among the repeated ones
abbrev pub HasRepeatedNeighbours : List ℕ → List ℕ → Type 0
HasRepeatedNeighbours sorted repeated =
    (k : ℕ) → k + 1 < length sorted → slice_index sorted k ≡ slice_index sorted (k + 1)
    → Contains repeated (slice_index sorted k)

-- each number that occurs at two places is among the repeated ones
abbrev pub HasRepeated : List ℕ → List ℕ → Type 0
HasRepeated numbers repeated =
    (i j : ℕ) → i < j → j < length numbers → slice_index numbers i ≡ slice_index numbers j
    → Contains repeated (slice_index numbers j)
