use Rattle.std.proofs.Common.{sym, ◌∙◌}
use Rattle.cm_class.proofs.Shapes.{one_class}
use Rattle.cm_class.proofs.shape.class_of_spelling.Goals as goal

pub returns-in-Ok : goal.returns-in-Ok
returns-in-Ok c = λ other spells.
    one_class _ other c.in-Ok.ensures.ok.fits spells.fits
    (sym c.in-Ok.ensures.ok.spelled ∙ spells.spelled)
