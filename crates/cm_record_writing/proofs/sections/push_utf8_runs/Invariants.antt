use Rattle.std.proofs.Common.{◌≡◌, ◌++◌, drop}
use Rattle.cm_record_layout.specs.Layout.{utf8_runs}
use Rattle.cm_record_writing.proofs.sections.push_utf8_runs.Given as goal

abbrev pub invariant-loop-slot : goal.invariant-loop-slot
invariant-loop-slot l = record {
  added : l.words.words ++ utf8_runs (drop l.slot-index l.slots) ≡ l.fn.words.words
      ++ utf8_runs l.slots;
  capacity : l.words.capacity ≡ l.fn.words.capacity;
}
