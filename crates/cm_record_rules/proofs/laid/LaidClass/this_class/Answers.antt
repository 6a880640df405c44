use Rattle.std.proofs.Common.{ap, ◌∙◌}
use Rattle.cm_record_layout.specs.Packing.{second_of}
use Rattle.cm_record_rules.proofs.Whole.{its_this}
use Rattle.cm_record_rules.proofs.laid.LaidClass.this_class.Goals as goal

pub returns : goal.returns
returns c =
    c.second.ensures ∙ (ap second_of c.word_at.ensures
    ∙ its_this c.args.self.now c.self.inside.words.now c.self.inside.bytes.now
    c.self.inside.tags.now c.self.invariant c.self.view_is)
