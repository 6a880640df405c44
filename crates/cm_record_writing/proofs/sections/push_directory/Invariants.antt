use Rattle.std.proofs.Common.{◌≡◌, ◌≤◌, ◌+◌, ◌++◌, length, drop}
use Rattle.cm_record_layout.specs.Layout.{directory, utf8_runs, limit}
use Rattle.cm_record_writing.proofs.sections.push_directory.Given as goal

abbrev pub invariant-loop-slot : goal.invariant-loop-slot
invariant-loop-slot l = record {
  capacity : l.words.capacity ≡ l.fn.words.capacity;
  added : l.words.words ++ directory l.at (drop l.slot-index l.slots) ≡ l.fn.words.words
      ++ directory l.fn.at l.slots;
  room : l.at + length (utf8_runs (drop l.slot-index l.slots)) ≤ limit;
}
