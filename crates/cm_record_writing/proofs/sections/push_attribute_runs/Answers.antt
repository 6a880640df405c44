use Rattle.std.proofs.Common.{◌≡◌, ◌∷◌, length, length-append, ap, arith}
use Rattle.cm_record_layout.specs.Packing.{packed}
use Rattle.cm_record_layout.specs.Layout.{attribute_runs, attribute_run}
use Rattle.cm_record_writing.proofs.Room.{room_left}
use Rattle.cm_record_writing.proofs.sections.push_attribute_runs.Goals as goal

pub push_run-requires : goal.push_run-requires
push_run-requires c =
    let l = c.loop-attribute in
    let these = c.args.these.now in
    let a = c.in-Some.attribute in
    let behind = c.next.new.self in
    let split : l.rest ≡ a ∷ behind = c.in-Some.ensures.steps in
    omega (
      arith,
      room_left l.words.words (attribute_runs l.rest) c.args.words.now.words
          (attribute_runs these) l.words.capacity c.args.words.now.capacity l.invariant.added
          l.invariant.capacity c.requires,
      ap (λ xs. length (attribute_runs xs)) split,
      length-append (attribute_run a) (attribute_runs behind),
      ap (λ xs. length (packed xs)) c.content.ensures,
    )
