-- The rows of a view: those of the live classes of a file, each with the mark of its name.
use Rattle.std.specs.Prelude.{◌≡◌, ℕ, ◌+◌, ◌<◌, List, [], ◌∷◌, ◌++◌, length, map, None}
use Rattle.cm_pool.specs.Geometry.{Sizes}
use Rattle.cm_layout.specs.declared.class_row.ClassRow.{ClassRow}
use Rattle.cm_layout.specs.declared.loader_row.LoaderRow.{LoaderRow}
use Rattle.cm_layout.specs.declared.row.Row.{Row}
use Rattle.cm_layout.specs.declared.row.Row.TheVariants.{Loader, Class}
use Rattle.cm_layout.specs.Offsets.{record_at, root_at}
use Rattle.cm_shown_names.specs.Shown.{name_shown}
use Rattle.cm_verdict.specs.declared.defined_at.DefinedAt.{DefinedAt}
use Rattle.cm_view_index.specs.declared.row.ViewRow.{ViewRow}
use Rattle.cm_view_index.specs.Rows.{ShowsName, row_bytes, name_of, mark_of}
use Rattle.cm_view.specs.declared.fault.ViewFault.{ViewFault}
use Rattle.cm_view.specs.declared.fault.ViewFault.TheVariants.{CutOff, NoName, NoMemory}
use Rattle.cm_view.specs.Taking.{IsThere}

-- the row of a class that was found, before its name is known
abbrev pub view_row : Sizes → ClassRow → DefinedAt → ViewRow
view_row sizes r at = record {
  loader = r.loader;
  at = record_at sizes r.place;
  words = r.place.words;
  slot = at.slot;
  mark = 0;
}

abbrev pub view_rows : Sizes → List (Row DefinedAt) → List ViewRow
view_rows sizes [] = []
view_rows sizes (Loader r ∷ rows) = view_rows sizes rows
view_rows sizes (Class r at ∷ rows) = view_row sizes r at ∷ view_rows sizes rows

-- the same row, with the mark of the name that it shows
abbrev pub marked_row : List ℕ → ViewRow → ViewRow
marked_row bytes row = record row { mark = mark_of row.loader (name_of bytes row) }

-- the rows of all classes that were found
abbrev pub marked_rows : List ℕ → Sizes → List (Row DefinedAt) → List ViewRow
marked_rows bytes sizes rows = map (marked_row bytes) (view_rows sizes rows)

-- the loaders that were found
abbrev pub loaders_in : {P : Type 0} → List (Row P) → List LoaderRow
loaders_in [] = []
loaders_in (Loader r ∷ rows) = r ∷ loaders_in rows
loaders_in (Class r p ∷ rows) = loaders_in rows

-- a row's record is in the file, and shows a name, whose mark the row has
pub record IsGoodRow (bytes : List ℕ) (row : ViewRow) : Type 0 where
  pub there : IsThere bytes row
  pub name : List ℕ
  pub shown : ShowsName bytes row name
  pub mark : row.mark ≡ mark_of row.loader name

-- the row of a class that was found, as a view has it
pub record IsListed (bytes : List ℕ) (sizes : Sizes) (r : ClassRow) (at : DefinedAt)
    (row : ViewRow) : Type 0 where
  pub good : IsGoodRow bytes row
  pub is : row ≡ marked_row bytes (view_row sizes r at)

-- why there is none: its record isn't in a whole root, or shows no name
abbrev pub IsRowFault : List ℕ → Sizes → ClassRow → DefinedAt → ViewFault → Type 0
IsRowFault bytes sizes r at (CutOff slot) =
    (slot ≡ at.slot) × (length bytes < root_at sizes (r.place.chunk.root + 1))
IsRowFault bytes sizes r at (NoName slot) =
    (slot ≡ at.slot) × (name_shown (row_bytes bytes (view_row sizes r at)) ≡ None)
IsRowFault bytes sizes r at _ = ⊥

-- a class with this row was found, which the entry in this slot defined
pub record IsClassAt (rows : List (Row DefinedAt)) (r : ClassRow) (at : DefinedAt) : Type 0 where
  pub before : List (Row DefinedAt)
  pub after : List (Row DefinedAt)
  pub rows_are : rows ≡ before ++ Class r at ∷ after

-- one of the classes has no row in the view, for this reason
pub record IsFaultOfRow (bytes : List ℕ) (sizes : Sizes) (rows : List (Row DefinedAt))
    (e : ViewFault) : Type 0 where
  pub row : ClassRow
  pub at : DefinedAt
  pub among : IsClassAt rows row at
  pub fault : IsRowFault bytes sizes row at e

-- what an error of listing the classes says
abbrev pub IsListFault : List ℕ → Sizes → List (Row DefinedAt) → ViewFault → Type 0
IsListFault bytes sizes rows (CutOff slot) = IsFaultOfRow bytes sizes rows (CutOff slot)
IsListFault bytes sizes rows (NoName slot) = IsFaultOfRow bytes sizes rows (NoName slot)
IsListFault bytes sizes rows NoMemory = Unit {0}
IsListFault bytes sizes rows _ = ⊥
