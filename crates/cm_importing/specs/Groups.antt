-- What it is to import a group: its changes are asked for one after another, and all that were
-- accepted are stored together.
use Rattle.std.specs.Prelude.{◌≡◌, ℕ, List, [], ◌∷◌, map, Result, Ok, Err, true}
use Rattle.std.specs.Global.{Vec}
use Rattle.cm_class.specs.declared.class_file.ClassFile.{ClassFile}
use Rattle.cm_pool.specs.Geometry.{Sizes}
use Rattle.cm_state.specs.Step.{Change, Define}
use Rattle.cm_commands.specs.Machine.{Machine, Asks, accepted_to}
use Rattle.cm_session.specs.Images.{StandsForSome}
use Rattle.cm_session.specs.Moves.{Answers}
use Rattle.cm_session.specs.Committing.{IsCaughtUp, Loses, all_handed, all_stored}
use Rattle.cm_importing.specs.declared.outcome.Outcome.{Outcome}
use Rattle.cm_importing.specs.Outcomes.{answer_of, IsRightOutcome}
use Rattle.cm_importing.specs.declared.fault.ImportFault.{ImportFault}
use Rattle.cm_importing.specs.declared.fault.ImportFault.TheVariants as fault

-- the machine that the cache goes with, and its disk
pub record Pause (D : Type 0) : Type 0 where
  pub machine : Machine
  pub disk : D

abbrev pub pause : {D : Type 0} → Machine → D → Pause D
pause machine disk = record { machine = machine; disk = disk }

-- everything that was accepted is acknowledged, and the device works
pub record IsReady (k : Machine) : Type 0 where
  pub caught : IsCaughtUp k
  pub all : k.sealed ≡ accepted_to k

-- a change is asked for, and its outcome is right of what the machine came to so far
pub record Takes (sizes : Sizes) (k : Machine) (asked : Change (List ℕ)) (outcome : Outcome)
    (next : Machine) : Type 0 where
  pub change : Change ClassFile
  pub asks : Asks asked change
  pub answers : Answers sizes k change (answer_of outcome) next
  pub right : IsRightOutcome sizes k asked outcome

-- one after another
abbrev pub TakesEach : Sizes → Machine → List (Change (List ℕ)) → List Outcome → Machine → Type 0
TakesEach sizes k [] [] next = next ≡ k
TakesEach sizes k [] (outcome ∷ outcomes) next = ⊥
TakesEach sizes k (asked ∷ more) [] next = ⊥
TakesEach sizes k (asked ∷ more) (outcome ∷ outcomes) next =
    (between : Machine) × Takes sizes k asked outcome between
    × TakesEach sizes between more outcomes next

-- classes are to be defined in this loader
abbrev pub defines : List ℕ → List (List ℕ) → List (Change (List ℕ))
defines loader classes = map (λ words. Define loader words) classes

-- All that were accepted are stored. At each moment on the way a crash left what stands for all
-- that was acknowledged before the group, and for a beginning of what it accepted.
pub record StoresGroup {D : Type 0} (Leaves : D → D → (List ℕ → Type 0) → Type 0) (sizes : Sizes)
    (asked : List (Change (List ℕ))) (outcomes : List Outcome) (old new : Pause D) : Type 0 where
  pub accepted : Machine
  pub takes : TakesEach sizes old.machine asked outcomes accepted
  pub stored : new.machine ≡ all_stored accepted
  pub moments : Leaves old.disk new.disk (StandsForSome sizes (all_handed accepted))

-- The device failed before all that were accepted were stored: the file holds a beginning of them,
-- and no command is accepted any more.
pub record LosesGroup {D : Type 0} (Leaves : D → D → (List ℕ → Type 0) → Type 0) (sizes : Sizes)
    (asked : List (Change (List ℕ))) (old new : Pause D) : Type 0 where
  pub outcomes : List Outcome
  pub accepted : Machine
  pub takes : TakesEach sizes old.machine asked outcomes accepted
  pub loses : Loses accepted true new.machine
  pub moments : Leaves old.disk new.disk (StandsForSome sizes (all_handed accepted))

-- the group is stored, with an outcome of each of its changes; or the device failed; or an
-- allocation did, and nothing was done
abbrev pub ImportsGroup : {D : Type 0} → (D → D → (List ℕ → Type 0) → Type 0) → Sizes
    → List (Change (List ℕ)) → Result (Vec Outcome) ImportFault → Pause D → Pause D → Type 0
ImportsGroup Leaves sizes asked (Ok outcomes) old new =
    StoresGroup Leaves sizes asked outcomes.items old new × IsReady new.machine
ImportsGroup Leaves sizes asked (Err fault.Device) old new = LosesGroup Leaves sizes asked old new
ImportsGroup Leaves sizes asked (Err fault.NoMemory) old new = new ≡ old
ImportsGroup Leaves sizes asked (Err (fault.Open f)) old new = ⊥
ImportsGroup Leaves sizes asked (Err (fault.Loader r)) old new = ⊥
