use Rattle.std.proofs.Common.{ap, drop, ◌∙◌, ◌-◌, ◌*◌}
use Rattle.cm_record_layout.specs.Packing.{fourth_of}
use Rattle.cm_record_rules.specs.Laid.{attributes_in}
use Rattle.cm_record_rules.proofs.Whole.{its_attributes}
use Rattle.cm_record_rules.proofs.laid.LaidClass.attributes.Goals as goal

pub returns-clause-same : goal.returns-clause-same
returns-clause-same c =
    let count = c.fourth-count.ensures ∙ ap fourth_of c.word_at.ensures in
    let number = c.from.ensures ∙ count in
    let place = c.saturating_sub-at.ensures ∙ (λ i. c.word_at-behind.ensures i - 2 * number i) in
    c.new.ensures.same
    ∙ ((λ i. attributes_in c.self.inside.bytes.now (count i) (drop (place i)
    c.self.inside.words.now))
    ∙ its_attributes c.args.self.now c.self.inside.words.now c.self.inside.bytes.now
    c.self.inside.tags.now c.self.invariant c.self.view_is)
