use Rattle.std.proofs.Common.{◌≡◌, ◌∙◌, ◌+◌, ◌++◌, length, drop, length-append, ap, arith}
use Rattle.std.proofs.lemmas.Grind.{common_steps}
use Rattle.cm_record_layout.specs.Layout.{attribute_runs, member_attributes}
use Rattle.cm_record_layout.proofs.{attribute_runs_append}
use Rattle.cm_record_writing.proofs.Room.{room_left}
use Rattle.cm_record_writing.proofs.parts.push_member_runs.Goals as goal

pub push_attribute_runs-requires : goal.push_attribute_runs-requires
push_attribute_runs-requires c =
    let l = c.loop-member in
    let these = c.args.these.now in
    let own = c.member-item.result.attributes in
    let rest = member_attributes (drop (l.member-index + 1) these) in
    let split : member_attributes (drop l.member-index these) ≡ own ++ rest =
    grind (arith, common_steps) in
    let parts = ap attribute_runs split ∙ attribute_runs_append own rest in
    omega (
      arith,
      room_left l.words.words (attribute_runs (member_attributes (drop l.member-index these)))
          c.args.words.now.words (attribute_runs (member_attributes these)) l.words.capacity
          c.args.words.now.capacity l.invariant.added l.invariant.capacity c.requires,
      ap length parts,
      length-append (attribute_runs own) (attribute_runs rest),
      ap (λ xs. length (attribute_runs xs)) c.attributes.ensures.same,
    )
