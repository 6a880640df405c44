use Rattle.std.proofs.Common.{ap, drop, ◌∙◌}
use Rattle.cm_record_layout.specs.Packing.{second_of}
use Rattle.cm_record_rules.specs.Laid.{members_in}
use Rattle.cm_record_rules.proofs.Whole.{its_fields}
use Rattle.cm_record_rules.proofs.laid.LaidClass.fields.Goals as goal

pub returns : goal.returns
returns c =
    let count = c.second-count.ensures ∙ ap second_of c.word_at.ensures in
    c.new.ensures
    ∙ ((λ i. members_in c.self.inside.words.now c.self.inside.bytes.now (count i)
    (drop (c.word_at-at.ensures i) c.self.inside.words.now))
    ∙ its_fields c.args.self.now c.self.inside.words.now c.self.inside.bytes.now
    c.self.inside.tags.now c.self.invariant c.self.view_is)
