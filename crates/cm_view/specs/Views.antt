-- A view of a file's bytes, and why there is none.
use Rattle.std.specs.Prelude.{◌≡◌, ℕ, ◌↔◌, List, Option, Some, None, Result, Ok, Err, IsSome}
use Rattle.std.specs.FinMap.{get}
use Rattle.std.specs.List.{All}
use Rattle.std.specs.List.Sorted.{IsPermutation}
use Rattle.cm_class.specs.declared.class_file.ClassFile.{ClassFile}
use Rattle.cm_record_layout.specs.Layout.{lay}
use Rattle.cm_pool.specs.Geometry.{Sizes}
use Rattle.cm_state.specs.State.{CacheState, class_in}
use Rattle.cm_state.specs.Stands.{Arenas, Stands}
use Rattle.cm_verdict.specs.Found.{Found, found_in}
use Rattle.cm_view_index.specs.declared.row.ViewRow.{ViewRow}
use Rattle.cm_view_index.specs.Index.{IsIndexOf, HasTwin, NamesDiffer}
use Rattle.cm_view.specs.declared.fault.ViewFault.{ViewFault}
use Rattle.cm_view.specs.declared.fault.ViewFault.TheVariants as view_fault
use Rattle.cm_view.specs.declared.fault.FindFault.{FindFault}
use Rattle.cm_view.specs.declared.fault.FindFault.TheVariants as find_fault
use Rattle.cm_view.specs.declared.view.View.{View}
use Rattle.cm_view.specs.Finding.{IsFound, HasNone, IsFaultAmong}
use Rattle.cm_view.specs.Listing.{IsGoodRow, IsFaultOfRow, loaders_in}
use Rattle.cm_view.specs.Loaders.{AreInOrder, HasLoader}
use Rattle.cm_view.specs.Exactness.{AreRowsOf, IsExact}

-- ---- a view

-- The view is of these contents: its rows are those of the classes that were found, each shows a
-- name, no two of a loader the same, and they are in order; and its loaders are those that were
-- found, in the order of their names.
pub record IsViewOf (contents : List ℕ) (view : View) : Type 0 where
  pub found : Found
  pub rows : AreRowsOf contents found view.rows.items
  pub good : All (IsGoodRow contents) view.rows.items
  pub index : IsIndexOf contents view.rows.items
  pub differ : NamesDiffer contents view.rows.items
  pub loaders : IsPermutation (loaders_in found.rows) view.loaders.items
  pub in_order : AreInOrder view.loaders.items
  pub number_is : view.number ≡ found.number

-- ---- none

-- one of the classes that were found has no row, for this reason
pub record HasFaultyRow (contents : List ℕ) (e : ViewFault) : Type 0 where
  pub found : Found
  pub found_is : found_in contents ≡ Ok found
  pub faulty : IsFaultOfRow contents found.sizes found.rows e

-- two of the rows, one of which was defined in this slot, are of one loader and show one name
pub record HasTwinRows (contents : List ℕ) (slot : ℕ) : Type 0 where
  pub found : Found
  pub rows : List ViewRow
  pub of : AreRowsOf contents found rows
  pub good : All (IsGoodRow contents) rows
  pub row : ViewRow
  pub twin : HasTwin contents rows row
  pub slot_is : slot ≡ row.slot

abbrev pub IsViewFault : List ℕ → ViewFault → Type 0
IsViewFault contents (view_fault.File f) = found_in contents ≡ Err f
IsViewFault contents (view_fault.CutOff slot) = HasFaultyRow contents (view_fault.CutOff slot)
IsViewFault contents (view_fault.NoName slot) = HasFaultyRow contents (view_fault.NoName slot)
IsViewFault contents (view_fault.SameName slot) = HasTwinRows contents slot
IsViewFault contents view_fault.NoMemory = Unit {0}

-- ---- a look-up

-- the words are the record of a class of this name, in the loader of this name
pub record IsFoundIn (contents : List ℕ) (view : View) (loader name words : List ℕ)
    : Type 0 where
  pub number : ℕ
  pub owner : HasLoader view.loaders.items loader number
  pub found : IsFound contents view.rows.items number name words

-- no class of this name is found in the loader of this name
pub record HasNoneIn (contents : List ℕ) (view : View) (loader name : List ℕ) : Type 0 where
  pub none : (number : ℕ) → HasLoader view.loaders.items loader number
      → HasNone contents view.rows.items number name

-- why it isn't known: a row of the loader of this name is damaged, or memory ran out
abbrev pub IsFaultIn : List ℕ → View → List ℕ → FindFault → Type 0
IsFaultIn contents view loader e =
    (number : ℕ) × HasLoader view.loaders.items loader number
    × IsFaultAmong contents view.rows.items number e

-- what a look-up says, if the contents stand for this cache: what the cache says, or memory ran
-- out
abbrev pub IsAnswerOf : CacheState → List ℕ → List ℕ → Result (Option (List ℕ)) FindFault → Type 0
IsAnswerOf m loader name (Ok (Some words)) =
    (c : ClassFile) × (class_in m loader name ≡ Some c) × (words ≡ lay c)
IsAnswerOf m loader name (Ok None) = class_in m loader name ≡ None
IsAnswerOf m loader name (Err e) = e ≡ find_fault.NoMemory

-- ---- a view of a cache

-- the view has the loaders of this cache, and the rows of each have exactly its classes
pub record IsViewOfCache (contents : List ℕ) (m : CacheState) (view : View) : Type 0 where
  pub loaders : (name : List ℕ)
      → IsSome (get m name) ↔ ((u : ℕ) × HasLoader view.loaders.items name u)
  pub classes : (name : List ℕ) (u : ℕ) → HasLoader view.loaders.items name u
      → IsExact contents m name u view.rows.items

abbrev pub ViewsShowCaches : Type 0
ViewsShowCaches =
    (sizes : Sizes) (contents : List ℕ) (m : CacheState) (arenas : Arenas) (n : ℕ) (view : View)
    → Stands sizes contents m arenas n → IsViewOf contents view → IsViewOfCache contents m view
