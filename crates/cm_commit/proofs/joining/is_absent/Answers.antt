use Rattle.std.proofs.Common.{ap, ◌∙◌, is_none}
use Rattle.std.specs.Arc.{arc_value}
use Rattle.cm_record.specs.Names.{class_name_in}
use Rattle.cm_commit.proofs.Testing.{none-with, copied_none}
use Rattle.cm_commit.proofs.joining.is_absent.Goals as goal

pub returns : goal.returns
returns c =
    copied_none c.class_like.result c.is_none.result c.is_none.ensures
    ∙ (ap is_none c.class_like.ensures
    ∙ none-with arc_value c.args.loader (class_name_in (arc_value c.args.class.now))
    c.args.rows.now.rows)
