-- What comes of unloading: the loaders of a cache are unloaded one after another, and stored
-- together.
use Rattle.std.specs.Prelude.{◌≡◌, ℕ, List, map, Result, Err}
use Rattle.std.specs.Global.{Vec}
use Rattle.cm_disk.specs.Disk.{View}
use Rattle.cm_guards.specs.Calls.{LeavesOnly}
use Rattle.cm_state.specs.Step.{Change, Unload}
use Rattle.cm_verdict.specs.Verdict.{verdict}
use Rattle.cm_verdict.specs.declared.fault.OpenFault.{OpenFault}
use Rattle.cm_verdict.specs.declared.fault.OpenFault.TheVariants as open_fault
use Rattle.cm_verdict.specs.Opening.{IsFaultIn}
use Rattle.cm_recover.specs.Opened.{OpensThrough}
use Rattle.cm_importing.specs.declared.fault.ImportFault.{ImportFault}
use Rattle.cm_importing.specs.declared.fault.ImportFault.TheVariants as fault
use Rattle.cm_importing.specs.declared.outcome.Outcome.{Outcome}
use Rattle.cm_importing.specs.Groups.{ImportsGroup}
use Rattle.cm_importing.specs.Runs.{RunsOnDisk}

-- loaders of these names are to be unloaded
abbrev pub unloads : List (Vec ℕ) → List (Change (List ℕ))
unloads loaders = map (λ l. Unload l.items) loaders

-- it wasn't opened
pub record IsUnopenedHere {D : Type 0} (view : View D) (disk left : D) (f : OpenFault) : Type 0
  where
    pub fault_is : IsFaultIn f (verdict (view.contents disk))
    pub opening : OpensThrough view disk left (f ≡ open_fault.Device)

abbrev pub Unloads : {D : Type 0} → View D → List (Vec ℕ) → D → Result (Vec Outcome) ImportFault
    → D → Type 0
Unloads view loaders disk (Err (fault.Open f)) left = IsUnopenedHere view disk left f
Unloads view loaders disk result left =
    RunsOnDisk view disk left
    (λ sizes. ImportsGroup (LeavesOnly view) sizes (unloads loaders) result)
