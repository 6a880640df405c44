-- What holds for bytes: which class file they spell, or how they relate to the spellings of all
-- class files. Nothing here concerns a reader.
use Rattle.std.specs.Prelude.{◌≡◌, ℕ, ◌<◌, ◌≤◌, List, ◌++◌, length, take, Result, Ok, Err}
use Rattle.cm_class.specs.declared.class_file.ClassFile.{ClassFile}
use Rattle.cm_class.specs.declared.fault.ShapeFault.{ShapeFault}
use Rattle.cm_class.specs.declared.fault.ShapeFault.TheVariants.{Truncated, Trailing, Malformed}
use Rattle.cm_class.specs.declared.fault.ShapeFault.TheVariants.{NoMemory}
use Rattle.cm_class.specs.Spelling.{spell, HasSpelling}

-- the bytes are this class file's spelling
pub record Spells (bytes : List ℕ) (c : ClassFile) : Type 0 where
  pub fits : HasSpelling c
  pub spelled : bytes ≡ spell c

abbrev pub IsSpelling : List ℕ → Type 0
IsSpelling bytes = (c : ClassFile) × Spells bytes c

-- the whole begins with the front, and continues
abbrev pub IsProperBeginning : List ℕ → List ℕ → Type 0
IsProperBeginning front whole = (rest : List ℕ) × (0 < length rest) × (whole ≡ front ++ rest)

-- the bytes are a proper beginning of some spelling
abbrev pub IsTruncated : List ℕ → Type 0
IsTruncated bytes = (c : ClassFile) × HasSpelling c × IsProperBeginning bytes (spell c)

-- some spelling, of this length, is a proper beginning of the bytes
abbrev pub IsTrailing : List ℕ → ℕ → Type 0
IsTrailing bytes at =
    (c : ClassFile) × HasSpelling c × IsProperBeginning (spell c) bytes × (at ≡ length (spell c))

-- some spelling begins with the first n of the bytes
abbrev pub BeginsSpelling : List ℕ → ℕ → Type 0
BeginsSpelling bytes n =
    (c : ClassFile) × HasSpelling c × (rest : List ℕ) × (spell c ≡ take n bytes ++ rest)

-- no spelling, none of the above, and `at` of them is the longest beginning with which a spelling
-- begins
pub record IsMalformed (bytes : List ℕ) (at : ℕ) : Type 0 where
  pub no_spelling : IsSpelling bytes → ⊥
  pub not_truncated : IsTruncated bytes → ⊥
  pub not_trailing : (n : ℕ) → IsTrailing bytes n → ⊥
  pub within : at ≤ length bytes
  pub begins : BeginsSpelling bytes at
  pub longest : (n : ℕ) → n ≤ length bytes → BeginsSpelling bytes n → n ≤ at

-- what each result of a reader says about the bytes; a failed allocation is not an answer
abbrev pub IsAnswer : List ℕ → Result ClassFile ShapeFault → Type 0
IsAnswer bytes (Ok c) = Spells bytes c
IsAnswer bytes (Err Truncated) = IsTruncated bytes
IsAnswer bytes (Err (Trailing at)) = IsTrailing bytes at
IsAnswer bytes (Err (Malformed at)) = IsMalformed bytes at
IsAnswer bytes (Err NoMemory) = ⊥

-- the same for a fault alone; a failed allocation is reported only for bytes that spell a class
-- file
abbrev pub IsShapeFault : List ℕ → ShapeFault → Type 0
IsShapeFault bytes Truncated = IsTruncated bytes
IsShapeFault bytes (Trailing at) = IsTrailing bytes at
IsShapeFault bytes (Malformed at) = IsMalformed bytes at
IsShapeFault bytes NoMemory = IsSpelling bytes
