-- What it is to store all that was accepted, for the machine.
use Rattle.std.specs.Prelude.{◌≡◌, ◌≤◌, ◌<◌, ℕ, Bool, true, false, IsErr, Result, Ok, Err}
use Rattle.cm_disk.specs.declared.disk.DeviceFault.{DeviceFault}
use Rattle.cm_commands.specs.Machine.{Machine, accepted_to}

-- Everything that was handed out is acknowledged, and the device works.
pub record IsCaughtUp (k : Machine) : Type 0 where
  pub works : k.failed ≡ false
  pub unnoticed : k.noticed ≡ false
  pub stored : k.acknowledged ≡ k.sealed

-- all that was accepted, handed out
abbrev pub all_handed : Machine → Machine
all_handed k = record k { sealed = accepted_to k }

-- all that was accepted, handed out and acknowledged
abbrev pub all_stored : Machine → Machine
all_stored k = record k { sealed = accepted_to k; acknowledged = accepted_to k }

-- All that was handed out is acknowledged, or the device failed before some of it was.
abbrev pub StoresHanded : Machine → Result (Unit {0}) DeviceFault → Machine → Type 0
StoresHanded k (Ok done) next = next ≡ record k { acknowledged = k.sealed }
StoresHanded k (Err fault) next =
    (number : ℕ) × (k.acknowledged ≤ number) × (number ≤ k.sealed)
    × (next ≡ record k { acknowledged = number; failed = true })

-- The device failed before all that was accepted was acknowledged. Whether that was noticed is an
-- argument.
pub record Loses (k : Machine) (noticed : Bool) (next : Machine) : Type 0 where
  pub acknowledged : ℕ
  pub sealed : ℕ
  pub least : k.acknowledged ≤ acknowledged
  pub within : acknowledged ≤ sealed
  pub most : sealed ≤ accepted_to k
  pub next_is : next ≡ record k {
    acknowledged = acknowledged;
    sealed = sealed;
    failed = true;
    noticed = noticed;
  }

-- All that was accepted is handed out and acknowledged, or the device failed.
abbrev pub Commits : Machine → Result (Unit {0}) DeviceFault → Machine → Type 0
Commits k (Ok done) next = next ≡ all_stored k
Commits k (Err fault) next = Loses k true next

-- the same, before the accepted cache learns of it
abbrev pub CommitsUnlearnt : Machine → Result (Unit {0}) DeviceFault → Machine → Type 0
CommitsUnlearnt k (Ok done) next = next ≡ all_stored k
CommitsUnlearnt k (Err fault) next = Loses k false next

-- how often the device had failed before and has by now: more often, if this call says so
pub record TellsFailure (before now : ℕ) (result : Result (Unit {0}) DeviceFault) : Type 0 where
  pub later : before ≤ now
  pub failed : IsErr result → before < now
