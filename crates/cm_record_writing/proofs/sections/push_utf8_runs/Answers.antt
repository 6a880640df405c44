use Rattle.std.proofs.Common.{◌≡◌, ◌+◌, ◌∷◌, length, drop, length-append, ap, arith}
use Rattle.std.proofs.lemmas.Grind.{common_steps}
use Rattle.cm_class.specs.declared.constant.Constant.TheVariants as constant
use Rattle.cm_class.specs.declared.constant.Slot.TheVariants.{Usable}
use Rattle.cm_record_layout.specs.Packing.{packed}
use Rattle.cm_record_layout.specs.Layout.{utf8_runs}
use Rattle.cm_record_writing.proofs.Room.{room_left}
use Rattle.cm_record_writing.proofs.sections.push_utf8_runs.Goals as goal

pub push_run-requires : goal.push_run-requires
push_run-requires c =
    let l = c.loop-slot in
    let slots = c.args.slots.now in
    let bytes = c.in-Usable-Utf8.bytes in
    let behind = drop (l.slot-index + 1) slots in
    let split : drop l.slot-index slots ≡ Usable (constant.Utf8 bytes) ∷ behind =
    grind (
      arith,
      common_steps,
      c.slot-item.is,
      c.in-Usable-Utf8.is,
      c.in-Usable-Utf8.field-0-is,
    ) in
    omega (
      arith,
      room_left l.words.words (utf8_runs (drop l.slot-index slots)) c.args.words.now.words
          (utf8_runs slots) l.words.capacity c.args.words.now.capacity l.invariant.added
          l.invariant.capacity c.requires,
      ap (λ xs. length (utf8_runs xs)) split,
      length-append (packed bytes) (utf8_runs behind),
      ap (λ xs. length (packed xs)) c.as_slice.ensures,
    )
