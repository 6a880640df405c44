use Rattle.cm_commit.proofs.Counting.{plans_have_steps}
use Rattle.cm_commit.proofs.laws.plans_have_steps.Goals as goal

pub returns : goal.returns
returns c = plans_have_steps
