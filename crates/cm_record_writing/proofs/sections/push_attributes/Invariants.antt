use Rattle.std.proofs.Common.{◌≡◌, ◌+◌, ◌++◌, length}
use Rattle.cm_record_layout.specs.Layout.{attributes, attribute_runs}
use Rattle.cm_record_writing.proofs.sections.push_attributes.Given as goal

abbrev pub invariant-loop-attribute : goal.invariant-loop-attribute
invariant-loop-attribute l = record {
  capacity : l.words.capacity ≡ l.fn.words.capacity;
  added : l.words.words ++ attributes l.at l.rest ≡ l.fn.words.words
      ++ attributes l.fn.at l.these;
  next : l.at + length (attribute_runs l.rest)
      ≡ l.fn.at + length (attribute_runs l.these);
}

abbrev pub decreases-loop-attribute : goal.decreases-loop-attribute
decreases-loop-attribute l = length l.rest
