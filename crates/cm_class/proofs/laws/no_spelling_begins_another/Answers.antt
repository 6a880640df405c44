use Rattle.cm_class.proofs.Shapes.{none_begins}
use Rattle.cm_class.proofs.laws.no_spelling_begins_another.Goals as goal

pub returns : goal.returns
returns c = none_begins
