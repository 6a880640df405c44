use Rattle.std.proofs.Common.{◌≡◌, ◌++◌, drop}
use Rattle.cm_record_layout.specs.Layout.{member_attributes, attribute_runs}
use Rattle.cm_record_writing.proofs.parts.push_member_runs.Given as goal

abbrev pub invariant-loop-member : goal.invariant-loop-member
invariant-loop-member l = record {
  added : l.words.words ++ attribute_runs (member_attributes (drop l.member-index l.these))
      ≡ l.fn.words.words ++ attribute_runs (member_attributes l.these);
  capacity : l.words.capacity ≡ l.fn.words.capacity;
}
