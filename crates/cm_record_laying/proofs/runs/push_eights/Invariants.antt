use Rattle.std.proofs.Common.{◌≡◌, ◌++◌, length}
use Rattle.cm_record_layout.specs.Packing.{packed}
use Rattle.cm_record_laying.proofs.runs.push_eights.Given as goal

abbrev pub invariant-loop-eight : goal.invariant-loop-eight
invariant-loop-eight l = record {
  added : l.words.words ++ packed l.rest ≡ l.fn.words.words ++ packed l.bytes;
  capacity : l.words.capacity ≡ l.fn.words.capacity;
}

abbrev pub decreases-loop-eight : goal.decreases-loop-eight
decreases-loop-eight l = length l.rest
