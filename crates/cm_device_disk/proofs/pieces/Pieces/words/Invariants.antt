use Rattle.std.proofs.Common.{◌≡◌, ◌≤◌, ◌-◌, length}
use Rattle.cm_device_disk.proofs.pieces.Pieces.words.Given as goal

abbrev pub invariant-loop-range : goal.invariant-loop-range
invariant-loop-range g l = record {
  capacity : l.words.capacity ≡ l.range.count;
  few : length l.words.words ≤ l.range.count;
}

abbrev pub decreases-loop-range : goal.decreases-loop-range
decreases-loop-range g l = l.words.capacity - length l.words.words
