use Rattle.cm_class.proofs.Shapes.{one_class}
use Rattle.cm_class.proofs.laws.one_class_for_one_spelling.Goals as goal

pub returns : goal.returns
returns c = one_class
