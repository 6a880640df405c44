-- A disk that makes the calls which another notes.
use Rattle.std.specs.Prelude.{◌≤◌, ℕ, List, length}
use Rattle.cm_disk.specs.Calls.{DiskCall}
use Rattle.cm_disk.specs.Calls.DiskCall.{Len, Read, Take, Write, Cut, Sync}
use Rattle.cm_disk.specs.Moments.{LeftSince}
use Rattle.cm_device_disk.specs.State.{DiskState, moment_unsynced}

-- what a crash of a disk in this state may leave now, or might have left at a moment since t
abbrev pub LeavesSince : DiskState → ℕ → List ℕ → Type 0
LeavesSince state t image =
    LeftSince state.now.bytes (moment_unsynced state.now) state.moments t image

-- a disk may be asked for the call: a cut makes it no longer
abbrev pub MayAsk : DiskCall → List ℕ → Type 0
MayAsk Len bytes = Unit {0}
MayAsk (Read at n) bytes = Unit {0}
MayAsk (Take at count) bytes = Unit {0}
MayAsk (Write at written) bytes = Unit {0}
MayAsk (Cut len) bytes = len ≤ length bytes
MayAsk Sync bytes = Unit {0}
