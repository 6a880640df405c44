use Rattle.cm_commit.proofs.Renewing.{checkpoints_renew}
use Rattle.cm_commit.proofs.laws.checkpoints_renew.Goals as goal

pub returns : goal.returns
returns c = checkpoints_renew
