-- The status for a file that isn't opened is never `Done`.
-- For `list_to`, `trim_to`.
use Rattle.std.proofs.Common.{◌≡◌, ◌∙◌, ℕ, List, Option, Result, Ok, Err, sym}
use Rattle.cm_verdict.specs.declared.fault.OpenFault.{OpenFault}
use Rattle.cm_verdict.specs.declared.fault.OpenFault.TheVariants as open_fault
use Rattle.cm_lines.specs.declared.fault.LineFault.{LineFault}
use Rattle.cm_maintenance.specs.declared.status.Status.{Status}
use Rattle.cm_maintenance.specs.declared.status.Status.TheVariants.{Done}
use Rattle.cm_maintenance.specs.Reporting.{Writes, fault_status}

not_done : (f : OpenFault) → fault_status f ≡ Done → ⊥
not_done (open_fault.File fault) e = cc
not_done open_fault.Device e = cc
not_done open_fault.NoMemory e = cc

pub never_done : (held holds : Option (List ℕ)) (lines : List ℕ) (f : OpenFault)
    (r : Result Status LineFault) → Writes held holds lines (fault_status f) r
    → r ≡ Ok Done → ⊥
never_done held holds lines f (Ok given) written e =
    let done : given ≡ Done = cc in not_done f (sym written.0 ∙ done)
never_done held holds lines f (Err x) written e = cc
