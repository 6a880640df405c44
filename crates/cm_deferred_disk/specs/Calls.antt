-- Calls that were noted.
use Rattle.cm_disk.specs.Calls.{DiskCall}
use Rattle.cm_disk.specs.Calls.DiskCall.{Write, Cut, Sync}
use Rattle.cm_deferred_disk.specs.declared.call.Call.{Call}
use Rattle.cm_deferred_disk.specs.declared.call.Call.TheVariants as noted

-- the call of a disk that it is
abbrev pub call_of : Call → DiskCall
call_of (noted.Write at bytes) = Write at bytes.now
call_of (noted.Cut len) = Cut len
call_of noted.Sync = Sync
