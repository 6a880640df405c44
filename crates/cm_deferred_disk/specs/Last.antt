-- The call that was made last.
use Rattle.std.specs.Prelude.{◌≡◌, ◌≤◌, ℕ, Bool, true, List, length, Option, Some, None}
use Rattle.std.specs.Prelude.{if◌then◌else◌, vec_capacity}
use Rattle.cm_disk.specs.Calls.{DiskCall}
use Rattle.cm_disk.specs.Calls.DiskCall.{Len, Read, Take, Write, Cut, Sync}
use Rattle.cm_deferred_disk.specs.declared.last.Kind.{Kind}
use Rattle.cm_deferred_disk.specs.declared.last.Kind.TheVariants as kind
use Rattle.cm_deferred_disk.specs.declared.last.LastCall.{LastCall}

-- a call of this kind; a write is one of these bytes
abbrev pub call_with : Kind → List ℕ → DiskCall
call_with (kind.Write at) bytes = Write at bytes
call_with (kind.Cut len) bytes = Cut len
call_with kind.Sync bytes = Sync

abbrev pub call_if : Option Kind → List ℕ → Option DiskCall
call_if None bytes = None
call_if (Some which) bytes = Some (call_with which bytes)

-- the call that is noted
abbrev pub noted : LastCall → Option DiskCall
noted device = call_if device.kind device.bytes.items

-- how many bytes may be noted without more memory
abbrev pub room_of : LastCall → ℕ
room_of device = vec_capacity device.bytes

-- the call has no more bytes than this
abbrev pub Fits : DiskCall → ℕ → Type 0
Fits Len room = Unit {0}
Fits (Read at n) room = Unit {0}
Fits (Take at count) room = Unit {0}
Fits (Write at bytes) room = length bytes ≤ room
Fits (Cut len) room = Unit {0}
Fits Sync room = Unit {0}

-- A call is noted in place of the one before, unless it fails; it doesn't fail if its bytes fit.
pub record Notes (call : DiskCall) (old new : LastCall) (ok : Bool) : Type 0 where
  pub noted_is : noted new ≡ (if ok then Some call else noted old)
  pub room : room_of old ≤ room_of new
  pub fits : Fits call (room_of old) → ok ≡ true
