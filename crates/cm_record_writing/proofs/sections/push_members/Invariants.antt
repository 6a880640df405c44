use Rattle.std.proofs.Common.{◌≡◌, ◌+◌, ◌*◌, ◌++◌, length, drop}
use Rattle.std.specs.List.{AllByRecursion}
use Rattle.cm_class.specs.Spelling.{MemberFits}
use Rattle.cm_record_layout.specs.Layout.{members, member_attributes}
use Rattle.cm_record_writing.proofs.sections.push_members.Given as goal

abbrev pub invariant-loop-member : goal.invariant-loop-member
invariant-loop-member l = record {
  capacity : l.words.capacity ≡ l.fn.words.capacity;
  added : l.words.words ++ members l.at (drop l.member-index l.these) ≡ l.fn.words.words
      ++ members l.fn.at l.these;
  next : l.at + 2 * length (member_attributes (drop l.member-index l.these))
      ≡ l.fn.at + 2 * length (member_attributes l.these);
  fit : AllByRecursion MemberFits (drop l.member-index l.these);
}
