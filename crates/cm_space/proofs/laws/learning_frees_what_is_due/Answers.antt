use Rattle.cm_space.proofs.Learning as learning
use Rattle.cm_space.proofs.laws.learning_frees_what_is_due.Goals as goal

pub returns : goal.returns
returns c = learning.frees_due
