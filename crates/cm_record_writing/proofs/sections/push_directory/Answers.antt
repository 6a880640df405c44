use Rattle.std.proofs.Common.{◌≡◌, ◌+◌, ◌∷◌, length, drop, length-append, ap, arith}
use Rattle.std.proofs.lemmas.Grind.{common_steps}
use Rattle.cm_class.specs.declared.constant.Slot.TheVariants.{Usable}
use Rattle.cm_record_layout.specs.Layout.{directory, constant_words, constant_run}
use Rattle.cm_record_writing.proofs.Room.{room_left}
use Rattle.cm_record_writing.proofs.sections.push_directory.Goals as goal

pub push_constant-requires-clause-room : goal.push_constant-requires-clause-room
push_constant-requires-clause-room c =
    let l = c.loop-slot in
    let slots = c.args.slots.now in
    let k = c.in-Usable.constant in
    let behind = drop (l.slot-index + 1) slots in
    let split : drop l.slot-index slots ≡ Usable k ∷ behind =
    grind (arith, common_steps, c.slot-item.is, c.in-Usable.is) in
    let rest = directory l.at (drop l.slot-index slots) in
    omega (
      arith,
      room_left l.words.words rest c.args.words.now.words (directory c.args.at slots)
          l.words.capacity c.args.words.now.capacity l.invariant.added l.invariant.capacity
          c.requires.room,
      ap (λ xs. length (directory l.at xs)) split,
      length-append (constant_words l.at k) (directory (l.at + length (constant_run k)) behind),
    )
