-- What an in-memory disk shows, and when its calls fail.
use Rattle.std.specs.Prelude.{◌≡◌, ◌≤◌, ◌⊎◌, ◌+◌, ◌-◌, ◌^◌, ◌||◌, ℕ, Bool, true, false, List, take}
use Rattle.std.specs.Prelude.{length, min, Option, Some, None, is_some, not, if◌then◌else◌}
use Rattle.cm_disk.specs.declared.sim.SimDisk.{SimDisk}
use Rattle.cm_disk.specs.Disk.{View, Unsynced, IsDurable, IsWithin, widened, shortened}
use Rattle.cm_disk.specs.Calls.{overwritten, DiskCall}
use Rattle.cm_disk.specs.Calls.DiskCall.{Len, Read, Take, Write, Cut, Sync}
use Rattle.cm_disk.specs.Medium.{medium_unsynced}
use Rattle.cm_disk.specs.Moments.{LeftSince}

abbrev pub sim_contents : SimDisk → List ℕ
sim_contents disk = disk.medium.bytes.items

abbrev pub sim_unsynced : SimDisk → Unsynced
sim_unsynced disk = medium_unsynced disk.medium

abbrev pub sim_failures : SimDisk → ℕ
sim_failures disk = length disk.failures.moments

abbrev pub sim_moment : SimDisk → ℕ
sim_moment disk = length disk.history.moments

-- what a crash may leave now, or might have left at a moment since t
abbrev pub sim_left_since : SimDisk → ℕ → List ℕ → Type 0
sim_left_since disk t image =
    LeftSince (sim_contents disk) (sim_unsynced disk) disk.history.moments t image

abbrev pub sim_view : View SimDisk
sim_view = record {
  contents = sim_contents;
  unsynced = sim_unsynced;
  failures = sim_failures;
  moment = sim_moment;
  left_since = sim_left_since;
}

-- how many calls the disk has had, whatever they returned
abbrev pub sim_calls : SimDisk → ℕ
sim_calls disk = length disk.calls.moments

-- how many syncs have succeeded
abbrev pub sim_syncs : SimDisk → ℕ
sim_syncs disk = disk.syncs

-- whether the next call is to fail; and if so, how many bytes it stores, if it is a write
abbrev pub sim_armed : SimDisk → Option ℕ
sim_armed disk = disk.armed

-- an allocation failed in the last call
abbrev pub sim_refused : SimDisk → Bool
sim_refused disk = disk.refused

-- a new disk: everything is durable, nothing has happened, and no call is to fail
pub record IsFresh (disk : SimDisk) : Type 0 where
  pub durable : IsDurable (sim_contents disk) (sim_unsynced disk)
  pub armed : sim_armed disk ≡ None
  pub refused : sim_refused disk ≡ false
  pub calls : sim_calls disk ≡ 0
  pub syncs : sim_syncs disk ≡ 0
  pub failures : sim_failures disk ≡ 0
  pub moment : sim_moment disk ≡ 0

-- what a write stores of its bytes: if the disk is armed, only the first n
abbrev pub stored_part : Option ℕ → List ℕ → List ℕ
stored_part None bytes = bytes
stored_part (Some n) bytes = take n bytes

-- A write opens its whole range, and stores what it is to store. If an allocation fails, it changes
-- no byte.
pub record SimStores (at : ℕ) (bytes : List ℕ) (armed : Option ℕ) (old new : SimDisk) : Type 0 where
  pub stored : sim_refused new ≡ false
      → sim_contents new ≡ overwritten at (stored_part armed bytes) (sim_contents old)
  pub opened : sim_refused new ≡ false
      → IsWithin (sim_unsynced new) (widened at (length bytes) (sim_unsynced old))
  pub refused : sim_refused new ≡ true → sim_contents new ≡ sim_contents old

-- ---- what one call does to a disk, whatever kind of call it is

-- a length, a read, words that are taken, or a sync that failed
pub record OnlyReads (old new : SimDisk) : Type 0 where
  pub contents_stay : sim_contents new ≡ sim_contents old
  pub unsynced_stay : sim_unsynced new ≡ sim_unsynced old

-- a write
pub record HasWritten (armed : Option ℕ) (old new : SimDisk) : Type 0 where
  pub at : ℕ
  pub bytes : List ℕ
  pub starts_within : at ≤ length (sim_contents old)
  pub stores : SimStores at bytes armed old new
  pub within : IsWithin (widened at (length bytes) (sim_unsynced old)) (sim_unsynced new)

-- a cut: if it fails, it cuts nothing, but a crash may
pub record HasCut (old new : SimDisk) (ok : Bool) : Type 0 where
  pub len : ℕ
  pub contents_are : sim_contents new
      ≡ (if ok then take len (sim_contents old) else sim_contents old)
  pub unsynced_is : sim_unsynced new ≡ shortened len (sim_unsynced old)

-- a sync that succeeded
pub record HasSynced (old new : SimDisk) (ok : Bool) : Type 0 where
  pub succeeded : ok ≡ true
  pub contents_stay : sim_contents new ≡ sim_contents old
  pub durable : IsDurable (sim_contents new) (sim_unsynced new)

abbrev pub DoesOne : Option ℕ → SimDisk → SimDisk → Bool → Type 0
DoesOne armed old new ok =
    OnlyReads old new ⊎ (HasWritten armed old new ⊎ (HasCut old new ok ⊎ HasSynced old new ok))

-- Exactly one call leads from old to new. It fails exactly if the disk was armed or an allocation
-- failed, and then counts as a failure. Afterwards nothing is armed.
pub record IsOneCall (armed : Option ℕ) (old new : SimDisk) (ok : Bool) : Type 0 where
  pub once : sim_calls new ≡ sim_calls old + 1
  pub exactly : ok ≡ not (is_some armed || sim_refused new)
  pub disarmed : sim_armed new ≡ None
  pub counted : sim_failures new ≡ sim_failures old + (if ok then 0 else 1)
  pub does : DoesOne armed old new ok

-- one call, for which the disk was armed or not
abbrev pub sim_called : SimDisk → SimDisk → Bool → Type 0
sim_called old new ok = IsOneCall (sim_armed old) old new ok

-- ---- what a certain call does in addition

-- a length, a read, or words that are taken
pub record IsAsked (old new : SimDisk) : Type 0 where
  pub no_memory : sim_refused new ≡ false
  pub syncs_stay : sim_syncs new ≡ sim_syncs old

pub record IsWritten (at : ℕ) (bytes : List ℕ) (armed : Option ℕ) (old new : SimDisk) : Type 0 where
  pub stores : SimStores at bytes armed old new
  pub syncs_stay : sim_syncs new ≡ sim_syncs old

-- a cut: if it fails, it cuts nothing, but a crash may
pub record IsShortened (len : ℕ) (old new : SimDisk) (ok : Bool) : Type 0 where
  pub no_memory : sim_refused new ≡ false
  pub uncut : ok ≡ false → sim_contents new ≡ sim_contents old
  pub unsynced_is : sim_unsynced new ≡ shortened len (sim_unsynced old)
  pub syncs_stay : sim_syncs new ≡ sim_syncs old

pub record IsSynced (old new : SimDisk) (ok : Bool) : Type 0 where
  pub no_memory : sim_refused new ≡ false
  pub counted : ok ≡ true → sim_syncs new ≡ min (sim_syncs old + 1) (2 ^ 64 - 1)
  pub not_counted : ok ≡ false → sim_syncs new ≡ sim_syncs old

abbrev pub Makes : Option ℕ → DiskCall → SimDisk → SimDisk → Bool → Type 0
Makes armed Len old new ok = IsAsked old new
Makes armed (Read at n) old new ok = IsAsked old new
Makes armed (Take at count) old new ok = IsAsked old new
Makes armed (Write at bytes) old new ok = IsWritten at bytes armed old new
Makes armed (Cut len) old new ok = IsShortened len old new ok
Makes armed Sync old new ok = IsSynced old new ok

abbrev pub sim_made : DiskCall → SimDisk → SimDisk → Bool → Type 0
sim_made call old new ok = Makes (sim_armed old) call old new ok
