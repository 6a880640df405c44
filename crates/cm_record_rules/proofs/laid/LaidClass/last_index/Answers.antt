use Rattle.std.proofs.Common.{◌-◌, ◌∙◌, ap}
use Rattle.cm_record_layout.specs.Packing.{first_of}
use Rattle.cm_record_rules.proofs.Whole.{its_count}
use Rattle.cm_record_rules.proofs.laid.LaidClass.last_index.Goals as goal

pub returns : goal.returns
returns c =
    c.saturating_sub.ensures
    ∙ (ap (λ n. n - 1) (c.first.ensures ∙ ap first_of c.word_at.ensures)
    ∙ its_count c.args.self.now c.self.inside.words.now c.self.inside.bytes.now
    c.self.inside.tags.now c.self.invariant c.self.view_is)
