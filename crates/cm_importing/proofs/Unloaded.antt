-- What came of unloading, on a disk.
-- For `unload`.
use Rattle.std.proofs.Common.{ℕ, List, Result, Ok, Err}
use Rattle.std.specs.Global.{Vec}
use Rattle.cm_disk.specs.Disk.{View}
use Rattle.cm_guards.specs.Calls.{LeavesOnly}
use Rattle.cm_importing.specs.declared.fault.ImportFault.{ImportFault}
use Rattle.cm_importing.specs.declared.fault.ImportFault.TheVariants as fault
use Rattle.cm_importing.specs.declared.outcome.Outcome.{Outcome}
use Rattle.cm_importing.specs.Groups.{ImportsGroup}
use Rattle.cm_importing.specs.Runs.{RunsOnDisk}
use Rattle.cm_importing.specs.Unloading.{unloads, Unloads}

module _ {D : Type 0} (view : View D) (loaders : List (Vec ℕ)) (disk left : D) where
  pub unloads_from : (result : Result (Vec Outcome) ImportFault)
      → RunsOnDisk view disk left
      (λ sizes. ImportsGroup (LeavesOnly view) sizes (unloads loaders) result)
      → Unloads view loaders disk result left
  unloads_from (Ok outcomes) r = r
  unloads_from (Err fault.Device) r = r
  unloads_from (Err fault.NoMemory) r = r
  unloads_from (Err (fault.Loader refusal)) r = absurd r.came
  unloads_from (Err (fault.Open f)) r = absurd r.came
