-- What is found among rows, whatever the bytes are.
use Rattle.std.specs.Prelude.{◌≡◌, ℕ, ◌<◌, List, length, slice_index_or}
use Rattle.std.specs.List.{Contains}
use Rattle.cm_class.specs.declared.class_file.ClassFile.{ClassFile}
use Rattle.cm_class.specs.Names.{class_name_of}
use Rattle.cm_view_index.specs.declared.row.ViewRow.{ViewRow}
use Rattle.cm_view.specs.declared.fault.FindFault.{FindFault}
use Rattle.cm_view.specs.declared.fault.FindFault.TheVariants.{Damaged, NoMemory}
use Rattle.cm_view.specs.Taking.{HasClass, IsTakenFrom}

-- the words are the record of a row of this loader, whose class keeps the rules and has this name
pub record IsFound (bytes : List ℕ) (rows : List ViewRow) (loader : ℕ) (name words : List ℕ)
    : Type 0 where
  pub row : ViewRow
  pub among : Contains rows row
  pub owner : row.loader ≡ loader
  pub taken : IsTakenFrom bytes row words
  pub named : class_name_of taken.class ≡ name

-- no row of this loader has a class of this name
abbrev pub HasNone : List ℕ → List ViewRow → ℕ → List ℕ → Type 0
HasNone bytes rows loader name =
    (k : ℕ) (d : ViewRow) (c : ClassFile) → k < length rows
    → (slice_index_or rows k d).loader ≡ loader → HasClass bytes (slice_index_or rows k d) c
    → class_name_of c ≡ name → ⊥

-- a row of this loader, defined in this slot, has no class that keeps the rules
pub record IsDamaged (bytes : List ℕ) (rows : List ViewRow) (loader slot : ℕ) : Type 0 where
  pub row : ViewRow
  pub among : Contains rows row
  pub owner : row.loader ≡ loader
  pub slot_is : row.slot ≡ slot
  pub none : (c : ClassFile) → HasClass bytes row c → ⊥

-- what a fault says of the rows
abbrev pub IsFaultAmong : List ℕ → List ViewRow → ℕ → FindFault → Type 0
IsFaultAmong bytes rows loader (Damaged slot) = IsDamaged bytes rows loader slot
IsFaultAmong bytes rows loader NoMemory = Unit {0}
