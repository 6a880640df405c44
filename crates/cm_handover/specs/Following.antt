-- How an accepted cache and committed rows relate to the machine.
use Rattle.std.specs.Prelude.{◌≡◌, ℕ, ◌+◌, List, [], ◌∷◌, ◌++◌, length, map, Some}
use Rattle.cm_class.specs.declared.class_file.ClassFile.{ClassFile}
use Rattle.cm_pool.specs.Geometry.{Sizes}
use Rattle.cm_record.specs.Layout.{lay}
use Rattle.cm_layout.specs.declared.row.Row.{Row}
use Rattle.cm_layout.specs.declared.row.Row.TheVariants.{Loader, Class}
use Rattle.cm_layout.specs.declared.entry.Entry.{Entry}
use Rattle.cm_layout.specs.declared.entry.Entry.TheVariants as entry
use Rattle.cm_layout.specs.Rows.{EachClass, rows_after, rows_with, entry_with}
use Rattle.cm_state.specs.State.{class_shows, state_of}
use Rattle.cm_state.specs.Step.{Change}
use Rattle.cm_state.specs.Entries.{AreCacheRows, MayFollow, change_of}
use Rattle.cm_commands.specs.Machine.{Machine, Holds, IsRightClass}

-- ---- classes by their records

abbrev pub AreRightClasses : List (Row ClassFile) → Type 0
AreRightClasses rows = EachClass IsRightClass rows

abbrev pub IsRightEntry : Entry ClassFile → Type 0
IsRightEntry (entry.Live (Loader r)) = Unit {0}
IsRightEntry (entry.Live (Class r c)) = IsRightClass c
IsRightEntry (entry.Unload e) = Unit {0}
IsRightEntry (entry.Move e) = Unit {0}
IsRightEntry (entry.UnloadAll e) = Unit {0}

-- rows with classes that are right, known by the words of their records
pub record AreClasses (sizes : Sizes) (number : ℕ) (rows : List (Row (List ℕ)))
    (classes : List (Row ClassFile)) : Type 0 where
  pub words : rows_with lay classes ≡ rows
  pub right : AreRightClasses classes
  pub cache : AreCacheRows class_shows sizes number classes

-- ---- commands by their entries

-- entries make these changes, one after another
abbrev pub Make : Sizes → List (Row ClassFile) → ℕ → List (Entry ClassFile)
    → List (Change ClassFile) → Type 0
Make sizes rows n [] [] = Unit {0}
Make sizes rows n (e ∷ entries) (change ∷ changes) =
    MayFollow class_shows sizes n rows e × (change_of rows e ≡ Some change) × IsRightEntry e
    × Make sizes (rows_after rows e) (n + 1) entries changes
Make sizes rows n [] (change ∷ changes) = ⊥
Make sizes rows n (e ∷ entries) [] = ⊥

-- The machine's first commands, as many as this number, lead to the state of these rows, and the
-- others are the changes that these entries make.
pub record Follows (sizes : Sizes) (k : Machine) (rows : List (Row (List ℕ))) (number : ℕ)
    (pending : List (Entry (List ℕ))) : Type 0 where
  pub classes : List (Row ClassFile)
  pub are : AreClasses sizes number rows classes
  pub entries : List (Entry ClassFile)
  pub words : map (entry_with lay) entries ≡ pending
  pub first : List (Change ClassFile)
  pub rest : List (Change ClassFile)
  pub commands : first ++ rest ≡ k.commands
  pub count : k.base.number + length first ≡ number
  pub holds : Holds sizes k.base first (state_of class_shows classes)
  pub make : Make sizes classes number entries rest
