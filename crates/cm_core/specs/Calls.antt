-- The device call that C is shown.
use Rattle.std.specs.Prelude.{◌≡◌, ℕ, ℤ, pos, Bool, true, false, List, length, Option, Some, None}
use Rattle.std.specs.Prelude.{is_some, if◌then◌else◌, Result, Ok, Err}
use Rattle.cm_disk.specs.Calls.{DiskCall}
use Rattle.cm_disk.specs.Calls.DiskCall.{Len, Read, Take, Write, Cut, Sync}
use Rattle.cm_disk.specs.declared.disk.DeviceFault.{DeviceFault}
use Rattle.cm_device_disk.specs.declared.disk.DeviceDisk.{DeviceDisk}
use Rattle.cm_deferred_disk.specs.declared.last.LastCall.{LastCall}
use Rattle.cm_deferred_disk.specs.Last.{noted}
use Rattle.cm_stepped.specs.declared.stepped.SteppedSession.{SteppedSession}
use Rattle.cm_stepped.specs.declared.call_list.CallList.{CallList}
use Rattle.cm_stepped.specs.declared.step.Broken.{Broken}
use Rattle.cm_stepped.specs.CallList.{next_call}
use Rattle.cm_core.specs.declared.calls.NextCall.{NextCall}
use Rattle.cm_core.specs.declared.inner.Inner.{Inner}
use Rattle.cm_core.specs.declared.inner.Inner.TheVariants.{Cache, Calls, Prepared, Record, Names}

abbrev pub DeferredDisk : Type 0
DeferredDisk = DeviceDisk LastCall DeviceFault

-- ---- how a call is shown

abbrev pub kind_of : Option DiskCall → ℕ
kind_of None = 0
kind_of (Some Len) = 0
kind_of (Some (Read at n)) = 0
kind_of (Some (Take at count)) = 0
kind_of (Some (Write at bytes)) = 1
kind_of (Some (Cut len)) = 2
kind_of (Some Sync) = 3

-- where a write begins, or the length of a cut
abbrev pub place_of : Option DiskCall → ℕ
place_of None = 0
place_of (Some Len) = 0
place_of (Some (Read at n)) = 0
place_of (Some (Take at count)) = 0
place_of (Some (Write at bytes)) = at
place_of (Some (Cut len)) = len
place_of (Some Sync) = 0

-- how many bytes a write has
abbrev pub size_of : Option DiskCall → ℕ
size_of None = 0
size_of (Some Len) = 0
size_of (Some (Read at n)) = 0
size_of (Some (Take at count)) = 0
size_of (Some (Write at bytes)) = length bytes
size_of (Some (Cut len)) = 0
size_of (Some Sync) = 0

-- What C sees is this call. That the pointer is where its bytes are is not said.
pub record Shows (call : Option DiskCall) (shown : NextCall) : Type 0 where
  pub kind : shown.kind ≡ kind_of call
  pub at : shown.at ≡ place_of call
  pub len : shown.len ≡ size_of call

-- ---- which call is to be made

-- the call that a cache noted, while it asks for one
abbrev pub asked_by : SteppedSession DeferredDisk → Option DiskCall
asked_by cache =
    if cache.is_broken then None
    else if is_some cache.asked then noted cache.session.committer.disk.device else None

-- what is asked for is shown, by a cache or by calls; anything else shows nothing
abbrev pub ShowsNext : Inner → ℤ → NextCall → NextCall → Type 0
ShowsNext (Cache cache) status old new = (status ≡ pos 0) × Shows (asked_by cache) new
ShowsNext (Calls calls) status old new = (status ≡ pos 0) × Shows (next_call calls) new
ShowsNext (Prepared ready) status old new = (status ≡ pos 25) × (new ≡ old)
ShowsNext (Record share) status old new = (status ≡ pos 25) × (new ≡ old)
ShowsNext (Names names) status old new = (status ≡ pos 25) × (new ≡ old)
