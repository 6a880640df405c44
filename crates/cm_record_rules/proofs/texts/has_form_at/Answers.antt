use Rattle.std.proofs.Common.{◌∙◌}
use Rattle.cm_class.specs.Names.{constant_named}
use Rattle.cm_record_rules.proofs.TextRuns.{form_of}
use Rattle.cm_record_rules.proofs.texts.has_form_at.Goals as goal

pub returns : goal.returns
returns c =
    c.has_utf8_form.ensures ∙ form_of (constant_named c.args.class.now c.args.index)
