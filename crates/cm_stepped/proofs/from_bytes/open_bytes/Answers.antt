use Rattle.std.proofs.Common.{ℕ, List, ap, subst}
use Rattle.cm_device_disk.specs.State.{DiskState}
use Rattle.cm_device_disk.specs.DeviceDisk.{disk_contents}
use Rattle.cm_stepped.specs.Opening.{Begins}
use Rattle.cm_stepped.proofs.from_bytes.open_bytes.Goals as goal

pub returns-in-Ok-open : goal.returns-in-Ok-open
returns-in-Ok-open c = (
  disk_contents c.in-Ok.read.disk,
  c.in-Ok.ensures {u = tt},
  c.in_ok-refuse_older.ensures {u = tt},
  subst (λ (bytes : List ℕ). Begins bytes c.in-Ok-open.session)
      (ap (λ (s : DiskState). s.now.bytes) c.with_device.ensures.same.state)
      (c.in-Ok-open.ensures {u = tt}).begins,
)
