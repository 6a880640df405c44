-- What C is told of a view.
use Rattle.std.specs.Prelude.{◌≡◌, ◌⊎◌, ℕ, ℤ, pos, List, Option, Some, None}
use Rattle.cm_state.specs.State.{CacheState}
use Rattle.cm_verdict.specs.declared.fault.Damage.{Damage as What}
use Rattle.cm_verdict.specs.declared.fault.Damage.TheVariants as what
use Rattle.cm_verdict.specs.declared.fault.FileFault.TheVariants.{NotACache, Damaged}
use Rattle.cm_verdict.specs.Faults.{damage_number}
use Rattle.cm_view_index.specs.declared.row.ViewRow.{ViewRow}
use Rattle.cm_view.specs.declared.fault.ViewFault.{ViewFault}
use Rattle.cm_view.specs.declared.fault.ViewFault.TheVariants as view_fault
use Rattle.cm_plain_view.specs.Views.{IsPlaceIn}
use Rattle.cm_core.specs.declared.status.Damage.{Damage}

-- ---- opening

abbrev pub damage_of : What → ℕ → Damage
damage_of w slot = record { what = damage_number w; slot = slot }

abbrev pub view_status : ViewFault → ℤ
view_status (view_fault.File NotACache) = pos 21
view_status (view_fault.File (Damaged w slot)) = pos 22
view_status (view_fault.CutOff slot) = pos 22
view_status (view_fault.NoName slot) = pos 22
view_status (view_fault.SameName slot) = pos 22
view_status view_fault.NoMemory = pos 9

-- The damage that is told, by the numbers of a file's damage: what was cut off is a place outside
-- the file's whole roots, a record without a name is no record, and two classes have one name.
abbrev pub view_damage : Damage → ViewFault → Damage
view_damage before (view_fault.File NotACache) = before
view_damage before (view_fault.File (Damaged w slot)) = damage_of w slot
view_damage before (view_fault.CutOff slot) = damage_of what.Chunks slot
view_damage before (view_fault.NoName slot) = damage_of what.Record slot
view_damage before (view_fault.SameName slot) = damage_of what.ClassTwice slot
view_damage before view_fault.NoMemory = before

-- it is done, or memory is short: the system's, or the caller's
abbrev pub IsNotDamaged : ℤ → Type 0
IsNotDamaged status = (status ≡ pos 0) ⊎ (status ≡ pos 9) ⊎ (status ≡ pos 27)

-- ---- places

-- a place is told, and 0; or 24, and what was there stays
abbrev pub Tells : Option ℕ → ℕ → ℕ → ℤ → Type 0
Tells (Some place) before after status = (status ≡ pos 0) × (after ≡ place)
Tells None before after status = (status ≡ pos 24) × (after ≡ before)

-- a place is told, or that there is none, as this cache has it
pub record IsAnswerIn (m : CacheState) (contents : List ℕ) (rows : List ViewRow)
    (loader name : List ℕ) (after : ℕ) (status : ℤ) : Type 0 where
  pub place : Option ℕ
  pub answer : IsPlaceIn m contents rows loader name place
  pub before : ℕ
  pub told : Tells place before after status
