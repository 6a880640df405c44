-- The class of a row: its record is in the file, and is that of a class that keeps the class rules.
use Rattle.std.specs.Prelude.{◌≡◌, ◌≤◌, ℕ, ◌+◌, ◌*◌, List, length, Option, Some, None}
use Rattle.cm_class.specs.declared.class_file.ClassFile.{ClassFile}
use Rattle.cm_record_layout.specs.Layout.{limit}
use Rattle.cm_record_layout.specs.Packing.{packed_into}
use Rattle.cm_verdict.specs.Verdict.{class_kept}
use Rattle.cm_view_index.specs.declared.row.ViewRow.{ViewRow}
use Rattle.cm_view_index.specs.Rows.{row_bytes}

-- the words of a row's record
abbrev pub row_words : List ℕ → ViewRow → List ℕ
row_words bytes row = packed_into row.words (row_bytes bytes row)

-- the file has all bytes of a row's record, and they are no more than any may have
pub record IsThere (bytes : List ℕ) (row : ViewRow) : Type 0 where
  pub within : row.at + 8 * row.words ≤ length bytes
  pub short : row.words ≤ limit

-- the record of a row is there, and is that of this class, which keeps the class rules
pub record HasClass (bytes : List ℕ) (row : ViewRow) (c : ClassFile) : Type 0 where
  pub there : IsThere bytes row
  pub kept : class_kept (row_words bytes row) ≡ Some c

-- these words are the record of a row, whose class keeps the class rules
pub record IsTakenFrom (bytes : List ℕ) (row : ViewRow) (words : List ℕ) : Type 0 where
  pub class : ClassFile
  pub has : HasClass bytes row class
  pub words_are : words ≡ row_words bytes row

-- what was taken of a row; nothing, if it has no class that keeps the rules
abbrev pub IsTaken : List ℕ → ViewRow → Option (List ℕ) → Type 0
IsTaken bytes row None = (c : ClassFile) → HasClass bytes row c → ⊥
IsTaken bytes row (Some words) = IsTakenFrom bytes row words
