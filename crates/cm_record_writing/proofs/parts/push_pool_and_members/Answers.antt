use Rattle.std.proofs.Common.{◌∙◌, [], ◌∷◌, ap, ◌++◌, ◌+◌, ◌*◌, length, arith, length-append}
use Rattle.cm_words.specs.Words.{Words}
use Rattle.cm_record_layout.specs.Layout.{directory, members, member_attributes, runs_at}
use Rattle.cm_record_layout.specs.Layout.{attributes_at}
use Rattle.cm_record_layout.proofs.{members_len}
use Rattle.cm_record_writing.proofs.Room.{grown, grown_members, pool_and_members_len}
use Rattle.cm_record_writing.proofs.Steps.{pool_and_members}
use Rattle.cm_record_writing.proofs.parts.push_pool_and_members.Goals as goal

pub push_members-next-requires-clause-room : goal.push_members-next-requires-clause-room
push_members-next-requires-clause-room c =
    let k = c.args.class.now in
    omega (
      arith,
      c.requires.room,
      pool_and_members_len k (runs_at k) (attributes_at k),
      ap (λ (w : Words). length w.words) c.push.ensures,
      ap (λ (w : Words). w.capacity) c.push.ensures,
      length-append c.args.words.now.words (0 ∷ []),
      grown c.push.new.self.words c.push_directory.new.words.words
          (directory c.args.places.now.runs c.slots.result.now) (directory (runs_at k) k.slots)
          c.push_directory.ensures.words
          ((λ i. length (directory (c.requires.places.runs i) (c.slots.ensures i)))),
      c.push_directory.ensures.capacity,
      grown c.push_directory.new.words.words c.push_interfaces.new.words.words
          c.interfaces.result.now k.interfaces c.push_interfaces.ensures.words
          (ap length c.interfaces.ensures),
      c.push_interfaces.ensures.capacity,
      members_len c.args.places.now.attributes c.fields.result.now,
      ap length c.fields.ensures,
    )

pub push_members-requires-clause-room : goal.push_members-requires-clause-room
push_members-requires-clause-room c =
    let k = c.args.class.now in
    omega (
      arith,
      c.requires.room,
      pool_and_members_len k (runs_at k) (attributes_at k),
      ap (λ (w : Words). length w.words) c.push.ensures,
      ap (λ (w : Words). w.capacity) c.push.ensures,
      length-append c.args.words.now.words (0 ∷ []),
      grown c.push.new.self.words c.push_directory.new.words.words
          (directory c.args.places.now.runs c.slots.result.now) (directory (runs_at k) k.slots)
          c.push_directory.ensures.words
          ((λ i. length (directory (c.requires.places.runs i) (c.slots.ensures i)))),
      c.push_directory.ensures.capacity,
      grown c.push_directory.new.words.words c.push_interfaces.new.words.words
          c.interfaces.result.now k.interfaces c.push_interfaces.ensures.words
          (ap length c.interfaces.ensures),
      c.push_interfaces.ensures.capacity,
      grown_members c.push_interfaces.new.words.words c.push_members-next.new.words.words
          c.args.places.now.attributes c.fields.result.now k.fields
          c.push_members-next.ensures.words
          c.fields.ensures,
      c.push_members-next.ensures.capacity,
      members_len c.push_members-next.result c.methods.result.now,
      ap length c.methods.ensures,
    )

pub returns-clause-words : goal.returns-clause-words
returns-clause-words c =
    let at = c.args.places.now.attributes in
    let next = c.push_members-next.result in
    pool_and_members c.args.words.now.words c.push.new.self.words c.push_directory.new.words.words
    c.push_interfaces.new.words.words c.push_members-next.new.words.words
    c.push_members.new.words.words
    c.args.class.now c.args.places.now.runs at next c.requires.places.runs
    c.requires.places.attributes
    (ap (λ (w : Words). w.words) c.push.ensures) (c.push_directory.ensures.words ∙ ap
    (λ xs. c.push.new.self.words ++ directory c.args.places.now.runs xs) c.slots.ensures)
    (c.push_interfaces.ensures.words ∙ ap
    (λ xs. c.push_directory.new.words.words ++ xs) c.interfaces.ensures)
    (c.push_members-next.ensures.words ∙ ap
    (λ xs. c.push_interfaces.new.words.words ++ members at xs) c.fields.ensures)
    (c.push_members-next.ensures.next ∙ ap
    (λ xs. at + 2 * length (member_attributes xs)) c.fields.ensures)
    (c.push_members.ensures.words ∙ ap
    (λ xs. c.push_members-next.new.words.words ++ members next xs) c.methods.ensures)
