use Rattle.std.proofs.Common.{◌≡◌, ◌+◌, length, drop}
use Rattle.cm_record_layout.specs.Layout.{member_attributes}
use Rattle.cm_record_writing.proofs.places.attribute_count.Given as goal

abbrev pub invariant-loop-member : goal.invariant-loop-member
invariant-loop-member l = l.total + length (member_attributes (drop l.member-index l.these))
    ≡ length (member_attributes l.these)
