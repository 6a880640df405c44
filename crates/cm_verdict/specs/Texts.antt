-- The texts of what is wrong with a file, and of why it isn't opened.
use Rattle.std.specs.Prelude.{ℕ, List, ◌++◌, codes}
use Rattle.std.specs.Fmt.{decimal}
use Rattle.cm_verdict.specs.Faults.{damage_number}
use Rattle.cm_verdict.specs.declared.fault.FileFault.{FileFault}
use Rattle.cm_verdict.specs.declared.fault.FileFault.TheVariants.{NotACache, Damaged}
use Rattle.cm_verdict.specs.declared.fault.OpenFault.{OpenFault}
use Rattle.cm_verdict.specs.declared.fault.OpenFault.TheVariants as open_fault

abbrev pub file_fault_text : FileFault → List ℕ
file_fault_text NotACache = codes "not a cache"
file_fault_text (Damaged what slot) =
    codes "damaged " ++ decimal (damage_number what) ++ codes " " ++ decimal slot

abbrev pub open_fault_text : OpenFault → List ℕ
open_fault_text (open_fault.File fault) = file_fault_text fault
open_fault_text open_fault.Device = codes "device"
open_fault_text open_fault.NoMemory = codes "memory"
