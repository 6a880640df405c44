use Rattle.std.proofs.Common.{◌∙◌, ap, ◌++◌, ◌+◌, length, arith}
use Rattle.cm_record_layout.specs.Layout.{attributes, utf8_runs, member_attributes, attribute_runs}
use Rattle.cm_record_layout.specs.Layout.{attribute_runs_at}
use Rattle.cm_record_layout.proofs.{attributes_len}
use Rattle.cm_record_writing.proofs.Room.{grown, grown_attributes, attributes_and_runs_len}
use Rattle.cm_record_writing.proofs.Steps.{attributes_and_runs}
use Rattle.cm_record_writing.proofs.parts.push_attributes_and_runs.Goals as goal

pub push_member_attributes-next-requires-clause-room :
    goal.push_member_attributes-next-requires-clause-room
push_member_attributes-next-requires-clause-room c =
    let k = c.args.class.now in
    omega (
      arith,
      c.requires.room,
      attributes_and_runs_len k (attribute_runs_at k),
      attributes_len c.args.places.now.attribute_runs (member_attributes c.fields.result.now),
      ap (λ xs. length (member_attributes xs)) c.fields.ensures,
    )

pub push_member_attributes-next-requires-2-clause-room :
    goal.push_member_attributes-next-requires-2-clause-room
push_member_attributes-next-requires-2-clause-room c =
    let k = c.args.class.now in
    omega (
      arith,
      c.requires.room,
      attributes_and_runs_len k (attribute_runs_at k),
      grown_attributes c.args.words.now.words c.push_member_attributes-next.new.words.words
          c.args.places.now.attribute_runs (member_attributes c.fields.result.now)
          (member_attributes k.fields) c.push_member_attributes-next.ensures.words
          (ap member_attributes c.fields.ensures),
      c.push_member_attributes-next.ensures.capacity,
      attributes_len c.push_member_attributes-next.result (member_attributes c.methods.result.now),
      ap (λ xs. length (member_attributes xs)) c.methods.ensures,
    )

pub push_attributes-requires-clause-room : goal.push_attributes-requires-clause-room
push_attributes-requires-clause-room c =
    let k = c.args.class.now in
    omega (
      arith,
      c.requires.room,
      attributes_and_runs_len k (attribute_runs_at k),
      grown_attributes c.args.words.now.words c.push_member_attributes-next.new.words.words
          c.args.places.now.attribute_runs (member_attributes c.fields.result.now)
          (member_attributes k.fields) c.push_member_attributes-next.ensures.words
          (ap member_attributes c.fields.ensures),
      c.push_member_attributes-next.ensures.capacity,
      grown_attributes c.push_member_attributes-next.new.words.words
          c.push_member_attributes-next-2.new.words.words c.push_member_attributes-next.result
          (member_attributes c.methods.result.now) (member_attributes k.methods)
          c.push_member_attributes-next-2.ensures.words (ap member_attributes c.methods.ensures),
      c.push_member_attributes-next-2.ensures.capacity,
      attributes_len c.push_member_attributes-next-2.result c.attributes.result,
      ap length c.attributes.ensures.same,
    )

pub push_utf8_runs-requires : goal.push_utf8_runs-requires
push_utf8_runs-requires c =
    let k = c.args.class.now in
    omega (
      arith,
      c.requires.room,
      attributes_and_runs_len k (attribute_runs_at k),
      grown_attributes c.args.words.now.words c.push_member_attributes-next.new.words.words
          c.args.places.now.attribute_runs (member_attributes c.fields.result.now)
          (member_attributes k.fields) c.push_member_attributes-next.ensures.words
          (ap member_attributes c.fields.ensures),
      c.push_member_attributes-next.ensures.capacity,
      grown_attributes c.push_member_attributes-next.new.words.words
          c.push_member_attributes-next-2.new.words.words c.push_member_attributes-next.result
          (member_attributes c.methods.result.now) (member_attributes k.methods)
          c.push_member_attributes-next-2.ensures.words (ap member_attributes c.methods.ensures),
      c.push_member_attributes-next-2.ensures.capacity,
      grown_attributes c.push_member_attributes-next-2.new.words.words
          c.push_attributes.new.words.words c.push_member_attributes-next-2.result
          c.attributes.result k.attributes c.push_attributes.ensures.words
          c.attributes.ensures.same,
      c.push_attributes.ensures.capacity,
      ap (λ xs. length (utf8_runs xs)) c.slots.ensures,
    )

pub push_member_runs-requires : goal.push_member_runs-requires
push_member_runs-requires c =
    let k = c.args.class.now in
    omega (
      arith,
      c.requires.room,
      attributes_and_runs_len k (attribute_runs_at k),
      grown_attributes c.args.words.now.words c.push_member_attributes-next.new.words.words
          c.args.places.now.attribute_runs (member_attributes c.fields.result.now)
          (member_attributes k.fields) c.push_member_attributes-next.ensures.words
          (ap member_attributes c.fields.ensures),
      c.push_member_attributes-next.ensures.capacity,
      grown_attributes c.push_member_attributes-next.new.words.words
          c.push_member_attributes-next-2.new.words.words c.push_member_attributes-next.result
          (member_attributes c.methods.result.now) (member_attributes k.methods)
          c.push_member_attributes-next-2.ensures.words (ap member_attributes c.methods.ensures),
      c.push_member_attributes-next-2.ensures.capacity,
      grown_attributes c.push_member_attributes-next-2.new.words.words
          c.push_attributes.new.words.words c.push_member_attributes-next-2.result
          c.attributes.result k.attributes c.push_attributes.ensures.words
          c.attributes.ensures.same,
      c.push_attributes.ensures.capacity,
      grown c.push_attributes.new.words.words c.push_utf8_runs.new.words.words
          (utf8_runs c.slots.result.now) (utf8_runs k.slots) c.push_utf8_runs.ensures.words
          (ap (λ xs. length (utf8_runs xs)) c.slots.ensures),
      c.push_utf8_runs.ensures.capacity,
      ap (λ xs. length (attribute_runs (member_attributes xs))) c.fields-2.ensures,
    )

pub push_member_runs-requires-2 : goal.push_member_runs-requires-2
push_member_runs-requires-2 c =
    let k = c.args.class.now in
    omega (
      arith,
      c.requires.room,
      attributes_and_runs_len k (attribute_runs_at k),
      grown_attributes c.args.words.now.words c.push_member_attributes-next.new.words.words
          c.args.places.now.attribute_runs (member_attributes c.fields.result.now)
          (member_attributes k.fields) c.push_member_attributes-next.ensures.words
          (ap member_attributes c.fields.ensures),
      c.push_member_attributes-next.ensures.capacity,
      grown_attributes c.push_member_attributes-next.new.words.words
          c.push_member_attributes-next-2.new.words.words c.push_member_attributes-next.result
          (member_attributes c.methods.result.now) (member_attributes k.methods)
          c.push_member_attributes-next-2.ensures.words (ap member_attributes c.methods.ensures),
      c.push_member_attributes-next-2.ensures.capacity,
      grown_attributes c.push_member_attributes-next-2.new.words.words
          c.push_attributes.new.words.words c.push_member_attributes-next-2.result
          c.attributes.result k.attributes c.push_attributes.ensures.words
          c.attributes.ensures.same,
      c.push_attributes.ensures.capacity,
      grown c.push_attributes.new.words.words c.push_utf8_runs.new.words.words
          (utf8_runs c.slots.result.now) (utf8_runs k.slots) c.push_utf8_runs.ensures.words
          (ap (λ xs. length (utf8_runs xs)) c.slots.ensures),
      c.push_utf8_runs.ensures.capacity,
      grown c.push_utf8_runs.new.words.words c.push_member_runs.new.words.words
          (attribute_runs (member_attributes c.fields-2.result.now))
          (attribute_runs (member_attributes k.fields)) c.push_member_runs.ensures.words
          (ap (λ xs. length (attribute_runs (member_attributes xs))) c.fields-2.ensures),
      c.push_member_runs.ensures.capacity,
      ap (λ xs. length (attribute_runs (member_attributes xs))) c.methods-2.ensures,
    )

pub push_attribute_runs-requires : goal.push_attribute_runs-requires
push_attribute_runs-requires c =
    let k = c.args.class.now in
    omega (
      arith,
      c.requires.room,
      attributes_and_runs_len k (attribute_runs_at k),
      grown_attributes c.args.words.now.words c.push_member_attributes-next.new.words.words
          c.args.places.now.attribute_runs (member_attributes c.fields.result.now)
          (member_attributes k.fields) c.push_member_attributes-next.ensures.words
          (ap member_attributes c.fields.ensures),
      c.push_member_attributes-next.ensures.capacity,
      grown_attributes c.push_member_attributes-next.new.words.words
          c.push_member_attributes-next-2.new.words.words c.push_member_attributes-next.result
          (member_attributes c.methods.result.now) (member_attributes k.methods)
          c.push_member_attributes-next-2.ensures.words (ap member_attributes c.methods.ensures),
      c.push_member_attributes-next-2.ensures.capacity,
      grown_attributes c.push_member_attributes-next-2.new.words.words
          c.push_attributes.new.words.words c.push_member_attributes-next-2.result
          c.attributes.result k.attributes c.push_attributes.ensures.words
          c.attributes.ensures.same,
      c.push_attributes.ensures.capacity,
      grown c.push_attributes.new.words.words c.push_utf8_runs.new.words.words
          (utf8_runs c.slots.result.now) (utf8_runs k.slots) c.push_utf8_runs.ensures.words
          (ap (λ xs. length (utf8_runs xs)) c.slots.ensures),
      c.push_utf8_runs.ensures.capacity,
      grown c.push_utf8_runs.new.words.words c.push_member_runs.new.words.words
          (attribute_runs (member_attributes c.fields-2.result.now))
          (attribute_runs (member_attributes k.fields)) c.push_member_runs.ensures.words
          (ap (λ xs. length (attribute_runs (member_attributes xs))) c.fields-2.ensures),
      c.push_member_runs.ensures.capacity,
      grown c.push_member_runs.new.words.words c.push_member_runs-2.new.words.words
          (attribute_runs (member_attributes c.methods-2.result.now))
          (attribute_runs (member_attributes k.methods)) c.push_member_runs-2.ensures.words
          (ap (λ xs. length (attribute_runs (member_attributes xs))) c.methods-2.ensures),
      c.push_member_runs-2.ensures.capacity,
      ap (λ xs. length (attribute_runs xs)) c.attributes-2.ensures.same,
    )

pub returns-clause-words : goal.returns-clause-words
returns-clause-words c =
    let w1 = c.push_member_attributes-next.new.words.words in
    let w2 = c.push_member_attributes-next-2.new.words.words in
    let w3 = c.push_attributes.new.words.words in
    let w4 = c.push_utf8_runs.new.words.words in
    let w5 = c.push_member_runs.new.words.words in
    let w6 = c.push_member_runs-2.new.words.words in
    let at = c.args.places.now.attribute_runs in
    let n1 = c.push_member_attributes-next.result in
    let n2 = c.push_member_attributes-next-2.result in
    attributes_and_runs c.args.words.now.words w1 w2 w3 w4 w5 w6
    c.push_attribute_runs.new.words.words c.args.class.now at n1 n2
    c.requires.places.attribute_runs
    (c.push_member_attributes-next.ensures.words ∙ ap
    (λ xs. c.args.words.now.words ++ attributes at (member_attributes xs)) c.fields.ensures)
    (c.push_member_attributes-next.ensures.next ∙ ap
    (λ xs. at + length (attribute_runs (member_attributes xs))) c.fields.ensures)
    (c.push_member_attributes-next-2.ensures.words ∙ ap
    (λ xs. w1 ++ attributes n1 (member_attributes xs)) c.methods.ensures)
    (c.push_member_attributes-next-2.ensures.next ∙ ap
    (λ xs. n1 + length (attribute_runs (member_attributes xs))) c.methods.ensures)
    (c.push_attributes.ensures.words ∙ ap (λ xs. w2 ++ attributes n2 xs) c.attributes.ensures.same)
    (c.push_utf8_runs.ensures.words ∙ ap (λ xs. w3 ++ utf8_runs xs) c.slots.ensures)
    (c.push_member_runs.ensures.words ∙ ap
    (λ xs. w4 ++ attribute_runs (member_attributes xs)) c.fields-2.ensures)
    (c.push_member_runs-2.ensures.words ∙ ap
    (λ xs. w5 ++ attribute_runs (member_attributes xs)) c.methods-2.ensures)
    (c.push_attribute_runs.ensures.words ∙ ap
    (λ xs. w6 ++ attribute_runs xs) c.attributes-2.ensures.same)
