-- What a disk over a device shows, when its calls fail, and what they do to the device.
use Rattle.std.specs.Prelude.{◌≡◌, ◌<◌, ◌+◌, ◌^◌, ℕ, Bool, true, false, List, [], length}
use Rattle.std.specs.Prelude.{nat_le, map}
use Rattle.std.specs.List.{All}
use Rattle.std.specs.Prelude.{Option, is_some, not, ◌&&◌, ◌||◌, ◌*◌, take, if◌then◌else◌}
use Rattle.cm_disk.specs.declared.disk.WordRange.{WordRange}
use Rattle.cm_disk.specs.Calls.{DiskCall}
use Rattle.cm_disk.specs.Calls.DiskCall.{Len, Read, Take, Write, Cut, Sync}
use Rattle.cm_disk.specs.Disk.{View, Unsynced, IsDurable}
use Rattle.cm_disk.specs.Moments.{LeftSince}
use Rattle.cm_device_disk.specs.declared.disk.DeviceDisk.{DeviceDisk}
use Rattle.cm_device_disk.specs.declared.opening.OpenedDevice.{OpenedDevice}
use Rattle.cm_device_disk.specs.declared.history.Call.TheVariants as noted
use Rattle.cm_device_disk.specs.State.{DiskState, moment_unsynced, refused}
use Rattle.cm_device_disk.specs.Calls.{CallFollows}
use Rattle.cm_device_disk.specs.Runs.{IsOf, range_of, has_words, without}
use Rattle.cm_device_disk.specs.Image.{image_held, image_runs, image_holds, image_cause}

abbrev pub disk_state : {V F : Type 0} → DeviceDisk V F → DiskState
disk_state disk = disk.history.state

abbrev pub disk_contents : {V F : Type 0} → DeviceDisk V F → List ℕ
disk_contents disk = (disk_state disk).now.bytes

abbrev pub disk_unsynced : {V F : Type 0} → DeviceDisk V F → Unsynced
disk_unsynced disk = moment_unsynced (disk_state disk).now

abbrev pub disk_failures : {V F : Type 0} → DeviceDisk V F → ℕ
disk_failures disk = (disk_state disk).failures

abbrev pub disk_moment : {V F : Type 0} → DeviceDisk V F → ℕ
disk_moment disk = length (disk_state disk).moments

-- what a crash may leave now, or might have left at a moment since t
abbrev pub disk_left_since : {V F : Type 0} → DeviceDisk V F → ℕ → List ℕ → Type 0
disk_left_since disk t image =
    LeftSince (disk_contents disk) (disk_unsynced disk) (disk_state disk).moments t image

abbrev pub disk_view : {V F : Type 0} → View (DeviceDisk V F)
disk_view = record {
  contents = disk_contents;
  unsynced = disk_unsynced;
  failures = disk_failures;
  moment = disk_moment;
  left_since = disk_left_since;
}

-- the first n bytes of the disk are still held, as they were read: nothing was written or cut since
abbrev pub holds : {V F : Type 0} → DeviceDisk V F → ℕ → Bool
holds disk n = image_holds disk.image n

-- how many of its first bytes are held, and of which ranges the words are
abbrev pub held_bytes : {V F : Type 0} → DeviceDisk V F → ℕ
held_bytes disk = image_held disk.image

abbrev pub held_ranges : {V F : Type 0} → DeviceDisk V F → List WordRange
held_ranges disk = map range_of (image_runs disk.image)

-- the words of this range are there, as they were read, and not yet taken
abbrev pub has_range : {V F : Type 0} → DeviceDisk V F → ℕ → ℕ → Bool
has_range disk at count = has_words at count (image_runs disk.image)

-- why the first write, cut or sync that failed did so
abbrev pub disk_cause : {V F : Type 0} → DeviceDisk V F → Option F
disk_cause disk = image_cause disk.image

-- a write, cut or sync has failed
abbrev pub is_lost : {V F : Type 0} → DeviceDisk V F → Bool
is_lost disk = is_some (disk_cause disk)

-- The disk was just made over an empty device: it has no bytes, and that is durable.
pub record IsEmptyDisk {V F : Type 0} (device : V) (disk : DeviceDisk V F) : Type 0 where
  pub device_is : disk.device ≡ device
  pub contents : disk_contents disk ≡ []
  pub durable : IsDurable [] (disk_unsynced disk)
  pub held : holds disk 0 ≡ true
  pub failures : disk_failures disk ≡ 0
  pub moment : disk_moment disk ≡ 0

-- The disk was just made of an opened device, and begins as the device did. The bytes and words
-- that were read from it are held, and no more; none of its bytes is known to be durable.
pub record IsOpenedDisk {V F : Type 0} (opened : OpenedDevice V)
    (disk : DeviceDisk V F) : Type 0 where
  pub device_is : disk.device ≡ opened.device
  pub length_is : length (disk_contents disk) ≡ opened.len
  pub begins : take (length opened.beginning.items) (disk_contents disk) ≡ opened.beginning.items
  pub held : (n : ℕ) → holds disk n ≡ nat_le n (length opened.beginning.items)
  pub bytes : held_bytes disk ≡ length opened.beginning.items
  pub runs : image_runs disk.image ≡ opened.runs.items
  pub ranges : held_ranges disk ≡ map range_of opened.runs.items
  pub words : All (IsOf (disk_contents disk)) opened.runs.items
  pub none_stored : (i : ℕ) → i < 2 ^ 40 → (disk_unsynced disk).is_open i ≡ true
  pub least : (disk_unsynced disk).least ≡ 0
  pub greatest : (disk_unsynced disk).greatest ≡ 2 ^ 40
  pub failures : disk_failures disk ≡ 0
  pub moment : disk_moment disk ≡ 0

-- the same disk over another device
pub record IsSameDisk {V W F : Type 0} (old : DeviceDisk V F) (new : DeviceDisk W F) : Type 0 where
  pub state : disk_state new ≡ disk_state old
  pub image : new.image ≡ old.image

-- ---- calls

-- what a call does to a device, given what a kind of device says of those that change it: a query
-- leaves it as it was
abbrev pub Applies : {V : Type 0} → (DiskCall → V → V → Bool → Type 0) → DiskCall
    → V → V → Bool → Type 0
Applies does Len old new ok = new ≡ old
Applies does (Read at n) old new ok = new ≡ old
Applies does (Take at count) old new ok = new ≡ old
Applies does (Write at bytes) old new ok = does (Write at bytes) old new ok
Applies does (Cut len) old new ok = does (Cut len) old new ok
Applies does Sync old new ok = does Sync old new ok

-- A call is made on the device, unless an earlier one has failed.
pub record Reaches {V F : Type 0} (does : DiskCall → V → V → Bool → Type 0) (call : DiskCall)
    (old new : DeviceDisk V F) (ok : Bool) : Type 0 where
  pub made : is_lost old ≡ false → Applies does call old.device new.device ok
  pub refused : is_lost old ≡ true → new.device ≡ old.device

-- A call that only queries something: it fails exactly if that is no longer known, and changes
-- nothing.
pub record OnlyAsks {V F : Type 0} (is_known : Bool) (old new : DeviceDisk V F)
    (ok : Bool) : Type 0 where
  pub exactly : ok ≡ is_known
  pub image : new.image ≡ old.image
  pub held : (n : ℕ) → holds new n ≡ holds old n
  pub cause : disk_cause new ≡ disk_cause old

-- Words are taken: that fails exactly if they are neither among the bytes that are held nor a range
-- that is there. Bytes are copied; such a range is handed over, and no other.
pub record Takes {V F : Type 0} (at count : ℕ) (old new : DeviceDisk V F)
    (ok : Bool) : Type 0 where
  pub exactly : ok ≡ (holds old (at + 8 * count) || has_range old at count)
  pub ranges : image_runs new.image
      ≡ (if ok && not (holds old (at + 8 * count)) then without at (image_runs old.image)
      else image_runs old.image)
  pub held : (n : ℕ) → holds new n ≡ holds old n
  pub cause : disk_cause new ≡ disk_cause old

-- A call that changes the device or makes it durable. Once such a call has failed, each further one
-- fails and changes nothing, and the first cause is kept.
pub record Changes {V F : Type 0} (old new : DeviceDisk V F) (ok : Bool) : Type 0 where
  pub fails : is_lost old ≡ true → ok ≡ false
  pub contents : is_lost old ≡ true → disk_contents new ≡ disk_contents old
  pub unsynced : is_lost old ≡ true → disk_unsynced new ≡ disk_unsynced old
  pub cause : is_lost old ≡ true → disk_cause new ≡ disk_cause old
  pub lost : is_lost new ≡ not ok

-- A write or a cut: none of the bytes is held any longer.
pub record GivesUp {V F : Type 0} (old new : DeviceDisk V F) (ok : Bool) : Type 0 where
  pub changes : Changes old new ok
  pub given_up : (n : ℕ) → holds new n ≡ false

-- A sync: the bytes and words are still there, unless it fails.
pub record Syncs {V F : Type 0} (old new : DeviceDisk V F) (ok : Bool) : Type 0 where
  pub changes : Changes old new ok
  pub image : ok ≡ true → new.image ≡ old.image
  pub held : (n : ℕ) → holds new n ≡ (holds old n && ok)

-- what a certain call does to the disk
abbrev pub MadeOn : {V F : Type 0} → DiskCall → DeviceDisk V F → DeviceDisk V F → Bool → Type 0
MadeOn Len old new ok = OnlyAsks (not (is_lost old)) old new ok
MadeOn (Read at n) old new ok = OnlyAsks (holds old (at + n)) old new ok
MadeOn (Take at count) old new ok = Takes at count old new ok
MadeOn (Write at bytes) old new ok = GivesUp old new ok
MadeOn (Cut len) old new ok = GivesUp old new ok
MadeOn Sync old new ok = Syncs old new ok

-- The state that a call leads to, exactly. A query changes nothing; a write, a cut or a sync is
-- noted as it went. A call that fails since an earlier one did changes nothing.
abbrev pub Follows : DiskCall → Bool → DiskState → DiskState → Bool → Type 0
Follows Len lost old new ok = new ≡ (if ok then old else refused old)
Follows (Read at n) lost old new ok = new ≡ (if ok then old else refused old)
Follows (Take at count) lost old new ok = new ≡ (if ok then old else refused old)
Follows (Write at bytes) lost old new ok =
    CallFollows (if ok then noted.Wrote at else if lost then noted.Failed else noted.NotWritten at)
    bytes old new
Follows (Cut len) lost old new ok =
    CallFollows (if ok then noted.Cut len else if lost then noted.Failed else noted.NotCut len) []
    old new
Follows Sync lost old new ok =
    CallFollows (if ok then noted.Synced else noted.Failed) [] old new

-- what a certain call does in addition, to the disk and to its device
pub record IsMade {V F : Type 0} (does : DiskCall → V → V → Bool → Type 0) (call : DiskCall)
    (old new : DeviceDisk V F) (ok : Bool) : Type 0 where
  pub on_disk : MadeOn call old new ok
  pub on_state : Follows call (is_lost old) (disk_state old) (disk_state new) ok
  pub on_device : Reaches does call old new ok

-- One call, whichever it is. If it fails, that counts as one failure. Once a write, a cut or a sync
-- has failed, each call fails, and the first cause is kept.
pub record IsDeviceCall {V F : Type 0} (does : DiskCall → V → V → Bool → Type 0)
    (old new : DeviceDisk V F) (ok : Bool) : Type 0 where
  pub counted : disk_failures new ≡ disk_failures old + (if ok then 0 else 1)
  pub fails : is_lost old ≡ true → ok ≡ false
  pub cause : is_lost old ≡ true → disk_cause new ≡ disk_cause old
  pub call : DiskCall
  pub made : IsMade does call old new ok
