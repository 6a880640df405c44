-- What the part of a disk that is held shows, and when its calls fail.
use Rattle.std.specs.Prelude.{◌≡◌, ◌+◌, ◌*◌, ℕ, Bool, false, not, List, if◌then◌else◌}
use Rattle.cm_disk.specs.Disk.{View, Unsynced, IsImage}
use Rattle.cm_disk.specs.Calls.{DiskCall}
use Rattle.cm_disk.specs.Calls.DiskCall.{Len, Read, Take, Write, Cut, Sync}
use Rattle.cm_device_disk.specs.declared.held_disk.HeldDisk.{HeldDisk}
use Rattle.cm_device_disk.specs.DeviceDisk.{disk_contents, disk_unsynced, is_lost, holds}

abbrev pub held_contents : {V F : Type 0} → HeldDisk V F → List ℕ
held_contents held = disk_contents held.disk.now

abbrev pub held_unsynced : {V F : Type 0} → HeldDisk V F → Unsynced
held_unsynced held = disk_unsynced held.disk.now

abbrev pub held_failures : {V F : Type 0} → HeldDisk V F → ℕ
held_failures held = held.history.state.failures

-- nothing is written, so it has one moment
abbrev pub held_left_since : {V F : Type 0} → HeldDisk V F → ℕ → List ℕ → Type 0
held_left_since held t image = IsImage (held_contents held) (held_unsynced held) image

abbrev pub held_view : {V F : Type 0} → View (HeldDisk V F)
held_view = record {
  contents = held_contents;
  unsynced = held_unsynced;
  failures = held_failures;
  moment = λ held. 0;
  left_since = held_left_since;
}

-- A call changes nothing, and counts if it fails.
pub record IsHeldCall {V F : Type 0} (old new : HeldDisk V F) (ok : Bool) : Type 0 where
  pub disk : new.disk.now ≡ old.disk.now
  pub counted : held_failures new ≡ held_failures old + (if ok then 0 else 1)

-- A query fails exactly if its answer isn't held; each other call fails.
abbrev pub IsHeldMade : {V F : Type 0} → DiskCall → HeldDisk V F → HeldDisk V F → Bool → Type 0
IsHeldMade Len old new ok = ok ≡ not (is_lost old.disk.now)
IsHeldMade (Read at n) old new ok = ok ≡ holds old.disk.now (at + n)
IsHeldMade (Take at count) old new ok = ok ≡ holds old.disk.now (at + 8 * count)
IsHeldMade (Write at bytes) old new ok = ok ≡ false
IsHeldMade (Cut len) old new ok = ok ≡ false
IsHeldMade Sync old new ok = ok ≡ false
