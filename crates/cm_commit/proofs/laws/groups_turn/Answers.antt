use Rattle.cm_commit.proofs.Turning.{groups_turn}
use Rattle.cm_commit.proofs.laws.groups_turn.Goals as goal

pub returns : goal.returns
returns c = groups_turn
