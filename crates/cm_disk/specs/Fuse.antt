-- What a disk with a fuse shows, and which of its calls fails.
use Rattle.std.specs.Prelude.{◌≡◌, ◌-◌, ℕ, Bool, List, Option, Some, None, nat_eq, if◌then◌else◌}
use Rattle.cm_disk.specs.declared.fuse.FuseDisk.{FuseDisk}
use Rattle.cm_disk.specs.declared.sim.SimDisk.{SimDisk}
use Rattle.cm_disk.specs.Disk.{View, Unsynced}
use Rattle.cm_disk.specs.Sim.{sim_contents, sim_unsynced, sim_failures, sim_moment, sim_left_since}
use Rattle.cm_disk.specs.Sim.{IsOneCall, Makes}
use Rattle.cm_disk.specs.Calls.{DiskCall}

-- the disk that the fuse protects
abbrev pub fused_disk : FuseDisk → SimDisk
fused_disk fuse = fuse.disk

abbrev pub fuse_contents : FuseDisk → List ℕ
fuse_contents fuse = sim_contents (fused_disk fuse)

abbrev pub fuse_unsynced : FuseDisk → Unsynced
fuse_unsynced fuse = sim_unsynced (fused_disk fuse)

abbrev pub fuse_failures : FuseDisk → ℕ
fuse_failures fuse = sim_failures (fused_disk fuse)

abbrev pub fuse_moment : FuseDisk → ℕ
fuse_moment fuse = sim_moment (fused_disk fuse)

abbrev pub fuse_left_since : FuseDisk → ℕ → List ℕ → Type 0
fuse_left_since fuse = sim_left_since (fused_disk fuse)

abbrev pub fuse_view : View FuseDisk
fuse_view = record {
  contents = fuse_contents;
  unsynced = fuse_unsynced;
  failures = fuse_failures;
  moment = fuse_moment;
  left_since = fuse_left_since;
}

-- how many calls are still let through
abbrev pub fuse_pass : FuseDisk → ℕ
fuse_pass fuse = fuse.pass

-- how many bytes a failing write stores
abbrev pub fuse_stores : FuseDisk → ℕ
fuse_stores fuse = fuse.stores

-- whether the next call is to fail; and if so, how many bytes it stores, if it is a write
abbrev pub fuse_armed : FuseDisk → Option ℕ
fuse_armed fuse = if nat_eq (fuse_pass fuse) 0 then Some (fuse_stores fuse) else None

-- Exactly one call of the disk with the fuse; it fails if no more calls are let through. It uses up
-- one of the calls that are let through.
pub record IsFuseCall (old new : FuseDisk) (ok : Bool) : Type 0 where
  pub call : IsOneCall (fuse_armed old) (fused_disk old) (fused_disk new) ok
  pub pass : fuse_pass new ≡ fuse_pass old - 1
  pub stays : fuse_stores new ≡ fuse_stores old

-- what a certain call does in addition to the disk that the fuse protects
abbrev pub fuse_made : DiskCall → FuseDisk → FuseDisk → Bool → Type 0
fuse_made call old new ok = Makes (fuse_armed old) call (fused_disk old) (fused_disk new) ok
