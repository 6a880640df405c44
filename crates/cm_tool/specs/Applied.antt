-- The result of a script on the cache of a disk.
use Rattle.std.specs.Prelude.{◌≡◌, ◌<◌, ◌≤◌, ℕ, List}
use Rattle.cm_pool.specs.Geometry.{Sizes}
use Rattle.cm_disk.specs.Disk.{IsWithin}
use Rattle.cm_state.specs.Stands.{Arenas, Stands}
use Rattle.cm_verdict.specs.Verdict.{verdict}
use Rattle.cm_verdict.specs.declared.fault.OpenFault.{OpenFault}
use Rattle.cm_verdict.specs.declared.fault.OpenFault.TheVariants as open_fault
use Rattle.cm_verdict.specs.Opening.{IsFaultIn}
use Rattle.cm_recover.specs.Opened.{IsOlderFile}
use Rattle.cm_commands.specs.Machine.{Base, machine_from}
use Rattle.cm_lines.specs.Streams.{Io}
use Rattle.cm_tool.specs.declared.apply.ApplyFault.{ApplyFault}
use Rattle.cm_tool.specs.declared.apply.ApplyFault.TheVariants as apply
use Rattle.cm_tool.specs.Answers.{Served, served, Pause, pause}
use Rattle.cm_tool.specs.Runs.{EndsEarly}
use Rattle.cm_tool.specs.Serving.{Medium, LeavesDisk, LeavesOpening}

-- A run that begins with the cache that the disk's bytes stand for, and the disk that it leaves.
pub record RunsFromOpened {D : Type 0} (Leaves : D → D → (List ℕ → Type 0) → Type 0)
    (begun ended : D) (disk left : Medium) (Came : Sizes → Pause D → Pause D → Type 0)
    : Type 0 where
  pub sizes : Sizes
  pub base : Base
  pub arenas : Arenas
  pub stands : Stands sizes disk.bytes base.state arenas base.number
  pub opened : D
  pub opening : LeavesOpening Leaves begun opened disk
  -- how often the disk had failed when the cache was opened
  pub failures : ℕ
  pub later : disk.failures ≤ failures
  pub new : Served
  pub came : Came sizes (pause (served (machine_from base) failures) opened) (pause new ended)
  pub leaves : LeavesDisk sizes left new

-- Nothing was run: the disk has its bytes, unless they are of version 1 and were being upgraded;
-- nothing is written, and the fault is that of the bytes, or the device or an allocation failed.
pub record IsUntouched {D : Type 0} (Leaves : D → D → (List ℕ → Type 0) → Type 0)
    (begun ended : D) (io : Io) (disk left : Medium) (f : OpenFault) : Type 0 where
  pub bytes_stay : (IsOlderFile disk.bytes → ⊥) → left.bytes ≡ disk.bytes
  pub no_more : (IsOlderFile disk.bytes → ⊥) → IsWithin disk.unsynced left.unsynced
  pub moments : LeavesOpening Leaves begun ended disk
  pub nothing : io.after ≡ io.before
  pub fault_is : IsFaultIn f (verdict disk.bytes)
  pub device : f ≡ open_fault.Device → disk.failures < left.failures

-- why a run didn't begin, or ended early
abbrev pub ApplyStops : {D : Type 0} → (D → D → (List ℕ → Type 0) → Type 0) → D → D → Io → Medium
    → Medium → ApplyFault → Type 0
ApplyStops Leaves begun ended io disk left (apply.Open f) =
    IsUntouched Leaves begun ended io disk left f
ApplyStops Leaves begun ended io disk left (apply.Script e) =
    RunsFromOpened Leaves begun ended disk left
    (λ sizes old new. EndsEarly Leaves sizes io e old new)
