-- Why a file isn't opened or created, by what failed.
use Rattle.std.specs.declared.io.Error.{Error}
use Rattle.std.specs.declared.fs.locks.TryLockError.{TryLockError}
use Rattle.std.specs.declared.fs.locks.TryLockError.TheVariants.{WouldBlock}
use Rattle.std.specs.declared.fs.locks.TryLockError.TheVariants.{Error as LockFailed}
use Rattle.cm_device_disk.specs.declared.fault.ReadError.{ReadError}
use Rattle.cm_device_disk.specs.declared.fault.ReadError.TheVariants.{Device as Failed, NoMemory}
use Rattle.cm_file_disk.specs.declared.fault.OpenError.{OpenError}
use Rattle.cm_file_disk.specs.declared.fault.OpenError.TheVariants as open_error
use Rattle.cm_file_disk.specs.declared.fault.CreateError.{CreateError}
use Rattle.cm_file_disk.specs.declared.fault.CreateError.TheVariants as create_error

abbrev pub open_error_of : ReadError Error → OpenError
open_error_of (Failed cause) = open_error.Device cause
open_error_of NoMemory = open_error.NoMemory

abbrev pub not_opened_of : TryLockError → OpenError
not_opened_of WouldBlock = open_error.InUse
not_opened_of (LockFailed cause) = open_error.NotLocked cause

abbrev pub not_created_of : TryLockError → CreateError
not_created_of WouldBlock = create_error.InUse
not_created_of (LockFailed cause) = create_error.NotLocked cause
