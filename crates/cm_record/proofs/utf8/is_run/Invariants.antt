use Rattle.std.proofs.Common.{◌≡◌, length}
use Rattle.cm_record_layout.specs.Packing.{packed}
use Rattle.cm_record.proofs.utf8.is_run.Given as goal

abbrev pub invariant-loop-left : goal.invariant-loop-left
invariant-loop-left l = record {
  onward : l.words ≡ packed l.bytes → l.rest ≡ packed l.left;
  back : l.rest ≡ packed l.left → l.words ≡ packed l.bytes;
}

abbrev pub decreases-loop-left : goal.decreases-loop-left
decreases-loop-left l = length l.left
