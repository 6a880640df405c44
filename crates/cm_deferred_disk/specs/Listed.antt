-- All calls that were made.
use Rattle.std.specs.Prelude.{◌≡◌, ℕ, Bool, List, [], ◌∷◌, ◌++◌, map, take, if◌then◌else◌}
use Rattle.cm_disk.specs.Calls.{DiskCall, overwritten}
use Rattle.cm_disk.specs.Calls.DiskCall.{Len, Read, Take, Write, Cut, Sync}
use Rattle.cm_disk.specs.declared.disk.DeviceFault.{DeviceFault}
use Rattle.cm_device_disk.specs.declared.disk.DeviceDisk.{DeviceDisk}
use Rattle.cm_device_disk.specs.DeviceDisk.{disk_contents}
use Rattle.cm_deferred_disk.specs.declared.listed.OwnedCall.{OwnedCall}
use Rattle.cm_deferred_disk.specs.declared.listed.OwnedCall.TheVariants as owned
use Rattle.cm_deferred_disk.specs.declared.listed.ListedCalls.{ListedCalls}

abbrev pub owned_call : OwnedCall → DiskCall
owned_call (owned.Write at bytes) = Write at bytes.items
owned_call (owned.Cut len) = Cut len
owned_call owned.Sync = Sync

-- the calls that are noted, in their order
abbrev pub listed : ListedCalls → List DiskCall
listed device = map owned_call device.calls.items

-- A call is noted after the others, unless it fails.
abbrev pub Lists : DiskCall → ListedCalls → ListedCalls → Bool → Type 0
Lists call old new ok = listed new ≡ (if ok then listed old ++ call ∷ [] else listed old)

-- ---- what listed calls make of a file

-- the bytes after a call that was made
abbrev pub applied : DiskCall → List ℕ → List ℕ
applied Len old = old
applied (Read at n) old = old
applied (Take at count) old = old
applied (Write at bytes) old = overwritten at bytes old
applied (Cut len) old = take len old
applied Sync old = old

-- the bytes after calls that were made one after another
abbrev pub all_applied : List DiskCall → List ℕ → List ℕ
all_applied [] old = old
all_applied (call ∷ calls) old = all_applied calls (applied call old)

-- The listed calls, made on a file of these bytes, give it the disk's contents.
abbrev pub ListsFrom : List ℕ → DeviceDisk ListedCalls DeviceFault → Type 0
ListsFrom start disk = all_applied (listed disk.device) start ≡ disk_contents disk
