use Rattle.std.proofs.Common.{[], ◌∷◌, length, drop, length-drop, length-append, ap, arith}
use Rattle.cm_words.specs.Words.{Words}
use Rattle.cm_record_layout.specs.Layout.{members}
use Rattle.cm_record_layout.proofs.{members_len}
use Rattle.cm_record_writing.proofs.Room.{room_left}
use Rattle.cm_record_writing.proofs.sections.push_members.Goals as goal

pub push-requires : goal.push-requires
push-requires c =
    let l = c.loop-member in
    let these = c.args.these.now in
    let rest = members l.at (drop l.member-index these) in
    omega (
      arith,
      room_left l.words.words rest c.args.words.now.words (members c.args.at these) l.words.capacity
          c.args.words.now.capacity l.invariant.added l.invariant.capacity c.requires.room,
      members_len l.at (drop l.member-index these),
      length-drop l.member-index these,
    )

pub push-requires-in-loop-member : goal.push-requires-in-loop-member
push-requires-in-loop-member c =
    let l = c.loop-member in
    let these = c.args.these.now in
    let rest = members l.at (drop l.member-index these) in
    omega (
      arith,
      room_left l.words.words rest c.args.words.now.words (members c.args.at these) l.words.capacity
          c.args.words.now.capacity l.invariant.added l.invariant.capacity c.requires.room,
      members_len l.at (drop l.member-index these),
      length-drop l.member-index these,
      ap (λ (w : Words). length w.words) c.push.ensures,
      ap (λ (w : Words). w.capacity) c.push.ensures,
      length-append l.words.words (c.four_numbers.result ∷ []),
    )
