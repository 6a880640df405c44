-- The view of a disk one sync of which is held: that of the disk below it.
use Rattle.std.specs.Prelude.{ℕ}
use Rattle.cm_disk.specs.Disk.{View}
use Rattle.cm_disk.specs.Sim.{sim_contents, sim_unsynced, sim_failures, sim_moment, sim_left_since}
use Rattle.cm_cache_tests.specs.declared.held_disk.HeldDisk.{HeldDisk}

abbrev pub held_failures : HeldDisk → ℕ
held_failures d = sim_failures d.disk

abbrev pub held_view : View HeldDisk
held_view = record {
  contents = λ d. sim_contents d.disk;
  unsynced = λ d. sim_unsynced d.disk;
  failures = held_failures;
  moment = λ d. sim_moment d.disk;
  left_since = λ d. sim_left_since d.disk;
}
