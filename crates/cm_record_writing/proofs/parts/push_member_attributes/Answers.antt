use Rattle.std.proofs.Common.{◌≡◌, ◌∙◌, ◌+◌, ◌++◌, ap, length, drop, arith, length-append}
use Rattle.std.proofs.lemmas.Grind.{common_steps}
use Rattle.cm_record_layout.specs.Layout.{attributes, member_attributes, attribute_runs}
use Rattle.cm_record_layout.proofs.{attribute_runs_append, attributes_len}
use Rattle.cm_record_writing.proofs.Room.{room_left}
use Rattle.cm_record_writing.proofs.Steps.{attributes_step}
use Rattle.cm_record_writing.proofs.parts.push_member_attributes.Goals as goal

pub push_attributes-at-requires-clause-room : goal.push_attributes-at-requires-clause-room
push_attributes-at-requires-clause-room c =
    let l = c.loop-member in
    let these = c.args.these.now in
    let all = member_attributes (drop l.member-index these) in
    let own = c.member-item.result.attributes in
    let rest = member_attributes (drop (l.member-index + 1) these) in
    let split : all ≡ own ++ rest = grind (arith, common_steps) in
    omega (
      arith,
      room_left l.words.words (attributes l.at all) c.args.words.now.words
          (attributes c.args.at (member_attributes these)) l.words.capacity
          c.args.words.now.capacity
          l.invariant.added l.invariant.capacity c.requires.room,
      attributes_len l.at all,
      ap length split,
      length-append own rest,
      attributes_len l.at c.attributes.result,
      ap length c.attributes.ensures.same,
    )

pub loop-member-preserved : goal.loop-member-preserved
loop-member-preserved c =
    let l = c.loop-member in
    let these = c.args.these.now in
    let at = l.at in
    let all = member_attributes (drop l.member-index these) in
    let own = c.member-item.result.attributes in
    let rest = member_attributes (drop (l.member-index + 1) these) in
    let split : all ≡ own ++ rest = grind (arith, common_steps) in
    let runs : length (attribute_runs all)
    ≡ length (attribute_runs own) + length (attribute_runs rest) =
    ap (λ xs. length (attribute_runs xs)) split
    ∙ (ap length (attribute_runs_append own rest)
    ∙ length-append (attribute_runs own) (attribute_runs rest)) in
    let slice = c.attributes.ensures.same in
    let pushed = c.push_attributes-at in
    let added : pushed.new.words.words ≡ l.words.words ++ attributes at own =
    pushed.ensures.words ∙ ap (λ xs. l.words.words ++ attributes at xs) slice in
    let next : pushed.result ≡ at + length (attribute_runs own) = pushed.ensures.next ∙ ap
    (λ xs. at + length (attribute_runs xs)) slice in
    record {
      capacity = pushed.ensures.capacity ∙ l.invariant.capacity;
      added = attributes_step l.words.words pushed.new.words.words _ at pushed.result all own rest
          split l.invariant.added added next;
      next = omega (arith, runs, next, l.invariant.next);
    }
