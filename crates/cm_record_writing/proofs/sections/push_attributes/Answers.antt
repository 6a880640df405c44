use Rattle.std.proofs.Common.{[], ◌∷◌, length, length-append, ap, arith}
use Rattle.cm_words.specs.Words.{Words}
use Rattle.cm_record_layout.specs.Layout.{attributes}
use Rattle.cm_record_layout.proofs.{attributes_len}
use Rattle.cm_record_writing.proofs.Room.{room_left}
use Rattle.cm_record_writing.proofs.sections.push_attributes.Goals as goal

pub push-requires : goal.push-requires
push-requires c =
    let l = c.loop-attribute in
    let these = c.args.these.now in
    let rest = attributes l.at l.rest in
    omega (
      arith,
      room_left l.words.words rest c.args.words.now.words (attributes c.args.at these)
          l.words.capacity c.args.words.now.capacity l.invariant.added l.invariant.capacity
          c.requires.room,
      attributes_len l.at l.rest,
      ap length c.in-Some.ensures.steps,
    )

pub push-requires-in-Some : goal.push-requires-in-Some
push-requires-in-Some c =
    let l = c.loop-attribute in
    let these = c.args.these.now in
    let rest = attributes l.at l.rest in
    omega (
      arith,
      room_left l.words.words rest c.args.words.now.words (attributes c.args.at these)
          l.words.capacity c.args.words.now.capacity l.invariant.added l.invariant.capacity
          c.requires.room,
      attributes_len l.at l.rest,
      ap length c.in-Some.ensures.steps,
      ap (λ (w : Words). length w.words) c.push.ensures,
      ap (λ (w : Words). w.capacity) c.push.ensures,
      length-append l.words.words (c.attribute_word.result ∷ []),
    )
