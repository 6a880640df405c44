-- What became of a class, and how it compares with the one that the loader has.
use Rattle.std.specs.Prelude.{◌≡◌, ◌≢◌, ℕ, Bool, true, false, List, Option, Some, Result, Ok, Err}
use Rattle.cm_pool.specs.Geometry.{Sizes}
use Rattle.cm_record.specs.Names.{class_name_in}
use Rattle.cm_state.specs.Step.{Change, Define}
use Rattle.cm_commands.specs.declared.refusal.Refusal.{Refusal}
use Rattle.cm_commands.specs.declared.refusal.Refusal.TheVariants as refusal
use Rattle.cm_commands.specs.Machine.{Machine}
use Rattle.cm_handover.specs.Laws.{Finds}
use Rattle.cm_importing.specs.declared.outcome.Outcome.{Outcome}
use Rattle.cm_importing.specs.declared.outcome.Outcome.TheVariants.{Stored, There, Changed, Refused}

-- what the cache answered
abbrev pub answer_of : Outcome → Result ℕ Refusal
answer_of (Stored number) = Ok number
answer_of There = Err refusal.ClassExists
answer_of Changed = Err refusal.ClassExists
answer_of (Refused r) = Err r

-- of an answer to anything but a class
abbrev pub outcome_alone : Result ℕ Refusal → Outcome
outcome_alone (Ok number) = Stored number
outcome_alone (Err r) = Refused r

-- of a class of which the loader has the very same, or not
abbrev pub outcome_with : Result ℕ Refusal → Bool → Outcome
outcome_with (Ok number) is_there = Stored number
outcome_with (Err refusal.ClassExists) true = There
outcome_with (Err refusal.ClassExists) false = Changed
outcome_with (Err r) is_there = Refused r

-- Whether the record of the class of this name that the loader has is this one.
abbrev pub IsSame : Sizes → Machine → List ℕ → List ℕ → Bool → Type 0
IsSame sizes k loader words true = Finds sizes k loader (class_name_in words) (Some words)
IsSame sizes k loader words false =
    (found : Option (List ℕ)) × Finds sizes k loader (class_name_in words) found
    × (found ≢ Some words)

-- a class is said to be there only if the loader has this record, and to be changed only if it
-- has another
abbrev pub IsCompared : Sizes → Machine → List ℕ → List ℕ → Outcome → Type 0
IsCompared sizes k loader words (Stored number) = Unit {0}
IsCompared sizes k loader words There = IsSame sizes k loader words true
IsCompared sizes k loader words Changed = IsSame sizes k loader words false
IsCompared sizes k loader words (Refused r) = r ≢ refusal.ClassExists

abbrev pub IsRightOutcome : Sizes → Machine → Change (List ℕ) → Outcome → Type 0
IsRightOutcome sizes k (Define loader words) outcome = IsCompared sizes k loader words outcome
IsRightOutcome sizes k _ outcome = Unit {0}
