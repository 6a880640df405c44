-- Rows as an index of the bytes of a file.
use Rattle.std.specs.Prelude.{◌≡◌, ℕ, ◌<◌, List, length, slice_index_or}
use Rattle.std.specs.Ordering.{is_lt}
use Rattle.std.specs.List.{Contains}
use Rattle.std.specs.List.Sorted.{IsSortedBy}
use Rattle.cm_view_index.specs.declared.row.ViewRow.{ViewRow}
use Rattle.cm_view_index.specs.Rows.{ShowsName, name_of, mark_of}
use Rattle.cm_view_index.specs.Order.{key_of, cmp_keys}

abbrev pub IsInOrder : List ℕ → List ViewRow → Type 0
IsInOrder bytes rows =
    IsSortedBy (λ (a : ViewRow) (b : ViewRow). is_lt (cmp_keys (key_of bytes a) (key_of bytes b)))
    rows

-- the rows are in order, and each has the mark of the name that it shows
pub record IsIndexOf (bytes : List ℕ) (rows : List ViewRow) : Type 0 where
  pub sorted : IsInOrder bytes rows
  pub marked : (k : ℕ) (d : ViewRow) (name : List ℕ) → k < length rows
      → ShowsName bytes (slice_index_or rows k d) name
      → (slice_index_or rows k d).mark ≡ mark_of (slice_index_or rows k d).loader name

-- the row at this place is of this loader and shows this name
pub record IsRowAt (bytes : List ℕ) (rows : List ViewRow) (loader : ℕ) (name : List ℕ) (at : ℕ)
    : Type 0 where
  pub row : ViewRow
  pub within : at < length rows
  pub is : slice_index_or rows at row ≡ row
  pub owner : row.loader ≡ loader
  pub named : name_of bytes row ≡ name

-- one of the rows is this row, which is of this loader and shows this name
pub record IsRowFor (bytes : List ℕ) (rows : List ViewRow) (loader : ℕ) (name : List ℕ)
    (row : ViewRow) : Type 0 where
  pub among : Contains rows row
  pub owner : row.loader ≡ loader
  pub named : name_of bytes row ≡ name

-- no row of this loader shows this name
abbrev pub HasNoRow : List ℕ → List ViewRow → ℕ → List ℕ → Type 0
HasNoRow bytes rows loader name =
    (k : ℕ) (d : ViewRow) → k < length rows → (slice_index_or rows k d).loader ≡ loader
    → ShowsName bytes (slice_index_or rows k d) name → ⊥

-- two rows have one mark and one loader, and show one name
pub record AreAlike (bytes : List ℕ) (one other : ViewRow) : Type 0 where
  pub mark : one.mark ≡ other.mark
  pub owner : one.loader ≡ other.loader
  pub named : name_of bytes one ≡ name_of bytes other

-- a row shows the name of another one of its loader
pub record HasTwin (bytes : List ℕ) (rows : List ViewRow) (row : ViewRow) : Type 0 where
  pub before : ℕ
  pub at : ℕ
  pub apart : before < at
  pub within : at < length rows
  pub is : slice_index_or rows at row ≡ row
  pub alike : AreAlike bytes (slice_index_or rows before row) row

-- no two rows of a loader show one name
abbrev pub NamesDiffer : List ℕ → List ViewRow → Type 0
NamesDiffer bytes rows =
    (i j : ℕ) (d : ViewRow) (name : List ℕ) → i < j → j < length rows
    → (slice_index_or rows i d).loader ≡ (slice_index_or rows j d).loader
    → ShowsName bytes (slice_index_or rows i d) name
    → ShowsName bytes (slice_index_or rows j d) name → ⊥
