use Rattle.std.proofs.Common.{ap, take, drop, ◌∙◌}
use Rattle.cm_record_layout.specs.Packing.{fourth_of}
use Rattle.cm_record_rules.proofs.Whole.{its_interfaces}
use Rattle.cm_record_rules.proofs.laid.LaidClass.interfaces.Goals as goal

pub returns : goal.returns
returns c =
    let count = c.from.ensures ∙ (c.fourth-count.ensures ∙ ap fourth_of c.word_at.ensures) in
    let rest = c.words_from.ensures
    ∙ (λ i. drop (c.word_at-at.ensures i) c.self.inside.words.now) in
    c.first_words.ensures
    ∙ ((λ i. take (count i) (rest i))
    ∙ its_interfaces c.args.self.now c.self.inside.words.now c.self.inside.bytes.now
    c.self.inside.tags.now c.self.invariant c.self.view_is)
