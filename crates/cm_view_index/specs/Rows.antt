-- What a row refers to in the bytes of a file, and the name that its record shows.
use Rattle.std.specs.Prelude.{◌≡◌, ℕ, ◌*◌, List, [], take, drop, Some, unwrap_or}
use Rattle.cm_record.specs.Fingerprints.{fingerprint}
use Rattle.cm_shown_names.specs.Shown.{name_shown}
use Rattle.cm_view_index.specs.declared.row.ViewRow.{ViewRow}

-- the bytes of a row's record, as far as there are
abbrev pub row_bytes : List ℕ → ViewRow → List ℕ
row_bytes bytes row = take (8 * row.words) (drop row.at bytes)

-- the record of a row shows this name
abbrev pub ShowsName : List ℕ → ViewRow → List ℕ → Type 0
ShowsName bytes row name = name_shown (row_bytes bytes row) ≡ Some name

-- the name that it shows; none is the empty name
abbrev pub name_of : List ℕ → ViewRow → List ℕ
name_of bytes row = unwrap_or (name_shown (row_bytes bytes row)) []

-- the mark of a class of this name in this loader
abbrev pub mark_of : ℕ → List ℕ → ℕ
mark_of loader name = fingerprint loader name

-- the same row, with the mark of the name that it shows
pub record IsMarked (bytes : List ℕ) (row marked : ViewRow) : Type 0 where
  pub name : List ℕ
  pub shown : ShowsName bytes row name
  pub is : marked ≡ record row { mark = mark_of row.loader name }
