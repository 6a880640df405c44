use Rattle.std.proofs.Common.{◌≡◌, ◌≤◌, length, drop}
use Rattle.cm_device_disk.specs.Runs.{are_ranges}
use Rattle.cm_device_disk.proofs.opening.OpenedDevice.are_in_order.Given as goal

abbrev pub invariant-loop-range : goal.invariant-loop-range
invariant-loop-range g l = record {
  same : are_ranges l.from l.self.len (drop l.range-index l.ranges)
      ≡ are_ranges (length l.self.beginning.items) l.self.len l.ranges;
  within : l.from ≤ l.self.len;
}
