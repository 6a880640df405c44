use Rattle.cm_commit.proofs.Through.{groups_go_through}
use Rattle.cm_commit.proofs.laws.groups_go_through.Goals as goal

pub returns : goal.returns
returns c = groups_go_through
