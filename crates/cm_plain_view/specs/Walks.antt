-- The rows of a loader, one after another.
use Rattle.std.specs.Prelude.{◌≡◌, ℕ, ◌≤◌, ◌<◌, List, length, slice_index_or}
use Rattle.cm_view_index.specs.declared.row.ViewRow.{ViewRow}

-- no row is of the loader of this number, from a place on, up to another one
abbrev pub HasNoneBetween : List ViewRow → ℕ → ℕ → ℕ → Type 0
HasNoneBetween rows loader from to =
    (k : ℕ) (d : ViewRow) → from ≤ k → k < to → (slice_index_or rows k d).loader ≡ loader → ⊥

-- the first row of the loader of this number, from a place on
pub record IsNext (rows : List ViewRow) (loader from at : ℕ) : Type 0 where
  pub row : ViewRow
  pub within : at < length rows
  pub is : slice_index_or rows at row ≡ row
  pub owner : row.loader ≡ loader
  pub behind : from ≤ at
  pub first : HasNoneBetween rows loader from at

abbrev pub HasNoMore : List ViewRow → ℕ → ℕ → Type 0
HasNoMore rows loader from = HasNoneBetween rows loader from (length rows)
