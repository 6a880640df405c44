use Rattle.std.proofs.Common.{◌≡◌, ◌+◌, ◌++◌, length, drop}
use Rattle.cm_record_layout.specs.Layout.{attributes, member_attributes, attribute_runs}
use Rattle.cm_record_writing.proofs.parts.push_member_attributes.Given as goal

abbrev pub invariant-loop-member : goal.invariant-loop-member
invariant-loop-member l =
    let rest = member_attributes (drop l.member-index l.these) in
    record {
      capacity : l.words.capacity ≡ l.fn.words.capacity;
      added : l.words.words ++ attributes l.at rest ≡ l.fn.words.words
          ++ attributes l.fn.at (member_attributes l.these);
      next : l.at + length (attribute_runs rest)
          ≡ l.fn.at + length (attribute_runs (member_attributes l.these));
    }
