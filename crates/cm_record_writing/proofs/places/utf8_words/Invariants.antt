use Rattle.std.proofs.Common.{◌≡◌, ◌<◌, ◌+◌, ◌-◌, ◌^◌, length, drop, min}
use Rattle.cm_record_layout.specs.Layout.{utf8_runs}
use Rattle.cm_record_writing.proofs.places.utf8_words.Given as goal

abbrev pub invariant-loop-slot : goal.invariant-loop-slot
invariant-loop-slot l =
    record {
      small : l.total < 2 ^ 64;
      total : min (l.total + length (utf8_runs (drop l.slot-index l.slots))) (2 ^ 64 - 1)
          ≡ min (length (utf8_runs l.slots)) (2 ^ 64 - 1);
    }
