use Rattle.std.proofs.Common.{◌≡◌, ◌≤◌, ◌-◌, length, take, max}
use Rattle.cm_device_disk.proofs.pieces.Pieces.read_up_to.Given as goal

abbrev pub invariant-loop-bytes : goal.invariant-loop-bytes
invariant-loop-bytes g l = record {
  begins : take (length l.initial.bytes.items) l.bytes.items ≡ l.initial.bytes.items;
  more : length l.initial.bytes.items ≤ length l.bytes.items;
  few : length l.bytes.items ≤ max (length l.initial.bytes.items) l.wanted;
}

abbrev pub decreases-loop-bytes : goal.decreases-loop-bytes
decreases-loop-bytes g l = l.wanted - length l.bytes.items
