-- The damage that C is told.
use Rattle.cm_verdict.specs.declared.fault.FileFault.TheVariants.{NotACache, Damaged}
use Rattle.cm_verdict.specs.declared.fault.OpenFault.{OpenFault}
use Rattle.cm_verdict.specs.declared.fault.OpenFault.TheVariants as fault
use Rattle.cm_verdict.specs.Faults.{damage_number}
use Rattle.cm_stepped.specs.declared.from_bytes.BytesFault.{BytesFault}
use Rattle.cm_stepped.specs.declared.from_bytes.BytesFault.TheVariants as unopened
use Rattle.cm_core.specs.declared.status.Damage.{Damage}

-- the first damage is told; anything else leaves what was there
abbrev pub damage_told : Damage → OpenFault → Damage
damage_told before (fault.File NotACache) = before
damage_told before (fault.File (Damaged what slot)) = record {
  what = damage_number what;
  slot = slot;
}
damage_told before fault.Device = before
damage_told before fault.NoMemory = before

abbrev pub bytes_damage : Damage → BytesFault → Damage
bytes_damage before (unopened.Fault fault) = damage_told before fault
bytes_damage before unopened.Older = before
