-- What is read of a device that holds a cache, before it is opened.
use Rattle.std.specs.Prelude.{◌≡◌, ◌≢◌, ◌⊎◌, ℕ, List, [], length, take, min, max, true}
use Rattle.std.specs.Prelude.{nat_le}
use Rattle.cm_disk.specs.declared.disk.WordRange.{WordRange}
use Rattle.cm_guards.specs.Calls.{Reads}
use Rattle.cm_pool.specs.Geometry.{Sizes, IsGeometry}
use Rattle.cm_layout.specs.Offsets.{roots_at}
use Rattle.cm_layout.specs.Superblock.{superblock_bytes}
use Rattle.cm_device_disk.specs.declared.disk.DeviceDisk.{DeviceDisk}
use Rattle.cm_device_disk.specs.declared.held_disk.HeldDisk.{HeldDisk}
use Rattle.cm_device_disk.specs.declared.opening.OpenedDevice.{OpenedDevice}
use Rattle.cm_device_disk.specs.DeviceDisk.{disk_contents, holds, held_bytes}
use Rattle.cm_device_disk.specs.DeviceDisk.{held_ranges}
use Rattle.cm_device_disk.specs.HeldDisk.{held_view}
use Rattle.cm_device_disk.specs.Runs.{are_ranges}
use Rattle.cm_verdict.specs.declared.fault.OpenFault.{OpenFault}
use Rattle.cm_verdict.specs.declared.fault.OpenFault.TheVariants as open_fault
use Rattle.cm_verdict.specs.Opening.{IsFaultIn}
use Rattle.cm_verdict.specs.Ranges.{AreRecordRanges}
use Rattle.cm_verdict.specs.Verdict.{verdict}

-- A file that begins with a superblock is read up to its first root; any other, no further.
pub record IsReach (beginning : List ℕ) (reach : ℕ) : Type 0 where
  pub sizes : (sizes : Sizes) → IsGeometry sizes → beginning ≡ superblock_bytes sizes
      → reach ≡ roots_at sizes
  pub none : ((sizes : Sizes) → IsGeometry sizes → beginning ≡ superblock_bytes sizes → ⊥)
      → reach ≡ 0

-- something is read that the disk doesn't hold
pub record ReadFails {V F : Type 0} (disk : DeviceDisk V F) : Type 0 where
  pub old : HeldDisk V F
  pub new : HeldDisk V F
  pub disk_is : old.disk.now ≡ disk
  pub reads : Reads held_view old new (Unit {0})

-- Its records aren't found: the contents have a fault, or what the disk holds isn't enough.
pub record HasNone {V F : Type 0} (disk : DeviceDisk V F) (ranges : List WordRange) : Type 0 where
  pub none : ranges ≡ []
  pub fault : OpenFault
  pub has_memory : fault ≢ open_fault.NoMemory
  pub in_contents : IsFaultIn fault (verdict (disk_contents disk))
  pub fails : fault ≡ open_fault.Device → ReadFails disk

-- The disk of a device before its records are read: it holds what the device has before its roots,
-- and these are the ranges of its records.
pub record IsWithoutRecords {V F : Type 0} (opened : OpenedDevice V) (disk : DeviceDisk V F)
    (ranges : List WordRange) : Type 0 where
  pub device_is : disk.device ≡ opened.device
  pub length_is : length (disk_contents disk) ≡ opened.len
  pub begins : take (length opened.beginning.items) (disk_contents disk) ≡ opened.beginning.items
  pub reach : ℕ
  pub reach_is : IsReach opened.beginning.items reach
  pub held : held_bytes disk ≡ max (length opened.beginning.items) (min reach opened.len)
  pub reads : (n : ℕ) → holds disk n ≡ nat_le n (held_bytes disk)
  pub found : AreRecordRanges (disk_contents disk) ranges ⊎ HasNone disk ranges

-- The same with the words of its records, whose ranges were found in what it held before.
pub record HasRecords {V F : Type 0} (opened : OpenedDevice V)
    (disk : DeviceDisk V F) : Type 0 where
  pub before : DeviceDisk V F
  pub ranges : List WordRange
  pub found : IsWithoutRecords opened before ranges
  pub device_is : disk.device ≡ opened.device
  pub length_is : length (disk_contents disk) ≡ opened.len
  pub held : held_bytes disk ≡ held_bytes before
  pub same : take (held_bytes disk) (disk_contents disk)
      ≡ take (held_bytes disk) (disk_contents before)
  pub records : are_ranges (held_bytes disk) opened.len ranges ≡ true → held_ranges disk ≡ ranges
