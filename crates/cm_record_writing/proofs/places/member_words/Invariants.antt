use Rattle.std.proofs.Common.{◌≡◌, ◌<◌, ◌+◌, ◌-◌, ◌*◌, ◌^◌, length, drop, min}
use Rattle.cm_record_layout.specs.Layout.{member_attributes, attribute_runs}
use Rattle.cm_record_writing.proofs.places.member_words.Given as goal

abbrev pub invariant-loop-member : goal.invariant-loop-member
invariant-loop-member l =
    let rest = drop l.member-index l.these in
    record {
      small : l.total < 2 ^ 64;
      total : min (l.total + 2 * length rest + 2 * length (member_attributes rest)
          + length (attribute_runs (member_attributes rest))) (2 ^ 64 - 1)
          ≡ min (2 * length l.these + 2 * length (member_attributes l.these)
          + length (attribute_runs (member_attributes l.these))) (2 ^ 64 - 1);
    }
