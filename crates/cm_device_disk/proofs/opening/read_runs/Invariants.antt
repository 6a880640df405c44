use Rattle.std.proofs.Common.{◌≡◌, take, map}
use Rattle.std.specs.List.{All}
use Rattle.cm_device_disk.specs.Runs.{range_of, IsFull}
use Rattle.cm_device_disk.proofs.opening.read_runs.Given as goal

abbrev pub invariant-loop-range : goal.invariant-loop-range
invariant-loop-range g l = record {
  ranges : map range_of l.runs.items ≡ take l.range-index l.ranges;
  full : All IsFull l.runs.items;
}
