use Rattle.cm_space.proofs.Rooted.{roots_reach}
use Rattle.cm_space.proofs.laws.roots_reach_what_is_adopted.Goals as goal

pub returns : goal.returns
returns c = roots_reach
