use Rattle.std.proofs.Common.{ap, ◌∙◌}
use Rattle.cm_record_layout.specs.Packing.{third_of}
use Rattle.cm_record_rules.proofs.Whole.{its_super}
use Rattle.cm_record_rules.proofs.laid.LaidClass.super_class.Goals as goal

pub returns : goal.returns
returns c =
    c.third.ensures ∙ (ap third_of c.word_at.ensures
    ∙ its_super c.args.self.now c.self.inside.words.now c.self.inside.bytes.now
    c.self.inside.tags.now c.self.invariant c.self.view_is)
