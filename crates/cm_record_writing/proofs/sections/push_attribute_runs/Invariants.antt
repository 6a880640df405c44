use Rattle.std.proofs.Common.{◌≡◌, ◌++◌, length}
use Rattle.cm_record_layout.specs.Layout.{attribute_runs}
use Rattle.cm_record_writing.proofs.sections.push_attribute_runs.Given as goal

abbrev pub invariant-loop-attribute : goal.invariant-loop-attribute
invariant-loop-attribute l = record {
  added : l.words.words ++ attribute_runs l.rest ≡ l.fn.words.words
      ++ attribute_runs l.these;
  capacity : l.words.capacity ≡ l.fn.words.capacity;
}

abbrev pub decreases-loop-attribute : goal.decreases-loop-attribute
decreases-loop-attribute l = length l.rest
