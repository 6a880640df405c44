-- What was read of a device before its disk was made, as its disk has it.
-- For `disk_without_records`, `disk_of`.
use Rattle.std.proofs.Common.{◌≡◌, ◌≤◌, ◌∙◌, ℕ, List, length, take, sym, ap, true, Result, Ok, Err}
use Rattle.std.proofs.Common.{IfOk, subst, arith, nat_le}
use Rattle.std.proofs.lemmas.Bool.{le-leb}
use Rattle.std.proofs.lemmas.List.{take-take}
use Rattle.cm_disk.specs.declared.disk.WordRange.{WordRange}
use Rattle.cm_device_disk.specs.declared.disk.DeviceDisk.{DeviceDisk}
use Rattle.cm_device_disk.specs.declared.opening.OpenedDevice.{OpenedDevice}
use Rattle.cm_device_disk.specs.DeviceDisk.{disk_contents, holds, held_bytes, held_ranges}
use Rattle.cm_device_disk.specs.Runs.{are_ranges}
use Rattle.cm_region_disk.specs.Opening.{IsWithoutRecords, HasRecords}

-- what begins with bytes that begin with these begins with these
pub begins_still : (first more all : List ℕ) → length first ≤ length more
    → take (length first) more ≡ first → take (length more) all ≡ more
    → take (length first) all ≡ first
begins_still first more all le begins all_begins =
    sym (take-take (length first) (length more) all le)
    ∙ ap (λ (l : List ℕ). take (length first) l) all_begins ∙ begins

-- the words of the records are read
pub records_read : {V F E : Type 0} (opened : OpenedDevice V) (before : DeviceDisk V F)
    (ranges : List WordRange) (read : Result (DeviceDisk V F) E)
    → IsWithoutRecords opened before ranges
    → IfOk read (λ d. d.device ≡ before.device)
    → IfOk read (λ d. length (disk_contents d) ≡ length (disk_contents before))
    → IfOk read (λ d. (n : ℕ) → holds before n ≡ true
    → take n (disk_contents d) ≡ take n (disk_contents before))
    → IfOk read (λ d. held_bytes d ≡ held_bytes before)
    → IfOk read (λ d. holds before 0 ≡ true
    → are_ranges (held_bytes before) (length (disk_contents before)) ranges ≡ true
    → held_ranges d ≡ ranges)
    → IfOk read (HasRecords opened)
records_read opened before ranges (Ok d) found device size begins held words = record {
  before = before;
  ranges = ranges;
  found = found;
  device_is = device ∙ found.device_is;
  length_is = size ∙ found.length_is;
  held = held;
  same = begins (held_bytes d) (found.reads (held_bytes d)
      ∙ subst (λ (n : ℕ). nat_le n (held_bytes before) ≡ true) (sym held)
      (le-leb (held_bytes before) (held_bytes before) (omega arith)));
  records = λ are. words (found.reads 0 ∙ le-leb 0 (held_bytes before) (omega arith)) (subst
      (λ (n : ℕ). are_ranges (held_bytes before) n ranges ≡ true) (sym found.length_is)
      (subst (λ (n : ℕ). are_ranges n opened.len ranges ≡ true) held are));
}
records_read opened before ranges (Err e) found device size begins held words = tt
