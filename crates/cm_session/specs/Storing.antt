-- What storing a command means for the machine: it is accepted, handed out and acknowledged before
-- the next one.
use Rattle.std.specs.Prelude.{◌≡◌, ◌≤◌, ◌<◌, ℕ, true, false, List, Option, Some, None, Result, Ok}
use Rattle.std.specs.Prelude.{Err}
use Rattle.cm_class.specs.declared.class_file.ClassFile.{ClassFile}
use Rattle.cm_pool.specs.Geometry.{Sizes}
use Rattle.cm_state.specs.Step.{Change}
use Rattle.cm_commands.specs.declared.refusal.Refusal.{Refusal}
use Rattle.cm_commands.specs.declared.refusal.Refusal.TheVariants as refusal
use Rattle.cm_commit.specs.declared.progress.Progress.{Progress}
use Rattle.cm_commit.specs.declared.progress.Progress.TheVariants.{Idle, Working, Done}
use Rattle.cm_commit.specs.declared.progress.Progress.TheVariants.{Trimmed}
use Rattle.cm_commit.specs.declared.progress.AdvanceFault.{AdvanceFault}
use Rattle.cm_commit.specs.States.{Work, Storing as Stored, Trimming}
use Rattle.cm_commands.specs.Machine.{Machine, Asks, accepted_to}
use Rattle.cm_session.specs.declared.session.Session.{Session}
use Rattle.cm_session.specs.declared.storing.NotStored.{NotStored}
use Rattle.cm_session.specs.declared.storing.NotStored.TheVariants.{Refused, Unsure}
use Rattle.cm_session.specs.Images.{StandsForSome}
use Rattle.cm_session.specs.Session.{Past}
use Rattle.cm_session.specs.Moves.{ReachesMachine, Answers, just_learnt}

abbrev pub IsWorking : Result Progress AdvanceFault → Type 0
IsWorking result = result ≡ Ok Working

abbrev pub HasTrimmed : Result Progress AdvanceFault → Type 0
HasTrimmed (Ok Idle) = ⊥
HasTrimmed (Ok Working) = ⊥
HasTrimmed (Ok (Done receipt)) = ⊥
HasTrimmed (Ok (Trimmed roots)) = Unit {0}
HasTrimmed (Err fault) = ⊥

-- the file isn't being truncated
abbrev pub NoTrim : Option Work → Type 0
NoTrim None = Unit {0}
NoTrim (Some Trimming) = ⊥
NoTrim (Some (Stored group)) = Unit {0}

-- Everything that was accepted is acknowledged, unless the device failed, which was noticed.
pub record IsAtRest (k : Machine) : Type 0 where
  pub noticed : k.noticed ≡ k.failed
  pub sealed : k.failed ≡ false → k.sealed ≡ accepted_to k
  pub stored : k.failed ≡ false → k.acknowledged ≡ accepted_to k

-- The command was handed out alone. Whichever call a crash hits, the file stands for what was
-- acknowledged before, or for that and this command.
pub record Hands (sizes : Sizes) (k : Machine) (change : Change ClassFile)
    (Moments : (List ℕ → Type 0) → Type 0) (number : ℕ) (handed : Machine) : Type 0 where
  pub accepted : Machine
  pub answers : Answers sizes k change (Ok number) accepted
  pub handed_is : handed ≡ record accepted { sealed = number }
  pub moments : Moments (StandsForSome sizes handed)

-- The command is stored; or refused, with nothing changed; or the device failed, and the file may
-- or may not hold it.
abbrev pub Stores : Sizes → Machine → Change ClassFile → ((List ℕ → Type 0) → Type 0)
    → Result ℕ NotStored → Machine → Type 0
Stores sizes k change Moments (Ok number) next =
    (handed : Machine) × Hands sizes k change Moments number handed
    × (next ≡ record handed { acknowledged = number }) × IsAtRest next
Stores sizes k change Moments (Err (Refused r)) next =
    Answers sizes k change (Err r) next × IsAtRest next
Stores sizes k change Moments (Err (Unsure number)) next =
    (handed : Machine) × Hands sizes k change Moments number handed
    × (next ≡ record handed { failed = true; noticed = true }) × IsAtRest next

-- the refusal that says why a command isn't known to be durable
abbrev pub refusal_told : NotStored → Refusal
refusal_told (Refused r) = r
refusal_told (Unsure number) = refusal.Unsure number

-- the same for the change of classes that a command requests
pub record Storing (sizes : Sizes) (k : Machine) (asked : Change (List ℕ))
    (Moments : (List ℕ → Type 0) → Type 0) (result : Result ℕ NotStored) (Matching : Machine
    → Type 0)
    : Type 0 where
  pub change : Change ClassFile
  pub asks : Asks asked change
  pub reaches : ReachesMachine (Stores sizes k change Moments result) Matching

abbrev pub IsUnsure : Result ℕ NotStored → Type 0
IsUnsure (Ok number) = ⊥
IsUnsure (Err (Refused r)) = ⊥
IsUnsure (Err (Unsure number)) = Unit {0}

-- A command is unsure only if the device failed in this call.
pub record FailsOnly (before now : ℕ) (result : Result ℕ NotStored) : Type 0 where
  pub later : before ≤ now
  pub unsure : IsUnsure result → before < now

-- Once a command was handed out, the accepted cache learns what is durable; otherwise it learns
-- nothing.
abbrev pub TellsFront : {D : Type 0} → Session D → Result ℕ NotStored → Session D → Type 0
TellsFront old (Ok number) new = new.front.learnt ≡ new.committer.number
TellsFront old (Err (Refused r)) new = new.front ≡ old.front
TellsFront old (Err (Unsure number)) new = new.front.learnt ≡ new.committer.number

-- what was learnt after that, and what was stored since
abbrev pub past_told : {D : Type 0} → Past → Result ℕ NotStored → Session D → Past
past_told p (Ok number) new = just_learnt new
past_told p (Err (Refused r)) new = p
past_told p (Err (Unsure number)) new = just_learnt new

-- no device call is made
abbrev pub MakesNoCall : Result ℕ NotStored → Type 0
MakesNoCall (Ok number) = ⊥
MakesNoCall (Err (Refused r)) = Unit {0}
MakesNoCall (Err (Unsure number)) = ⊥
