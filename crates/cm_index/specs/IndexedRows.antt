-- Rows in places, with their index.
use Rattle.std.specs.Prelude.{◌≡◌, ◌≤◌, ℕ, List, [], vec_capacity}
use Rattle.cm_index.specs.declared.rows.IndexedRows.{IndexedRows}
use Rattle.cm_index.specs.Index.{IsIndex}

-- the index is that of the rows; `name_of` gives the name of the class of which something is kept
abbrev pub IsIndexed : {P : Type 0} → (ℕ → List ℕ → ℕ) → (P → List ℕ) → IndexedRows P → Type 0
IsIndexed mark name_of rows = IsIndex mark name_of rows.slots.items rows.index.items

pub record HasNoRows {P : Type 0} (rows : IndexedRows P) : Type 0 where
  pub slots : rows.slots.items ≡ []
  pub index : rows.index.items ≡ []

-- there is room for this many rows
pub record HasRoom {P : Type 0} (rows : IndexedRows P) (count : ℕ) : Type 0 where
  pub slots : count ≤ vec_capacity rows.slots
  pub index : count ≤ rows.index.room
  pub places : count ≤ vec_capacity rows.places
