use Rattle.cm_commit.proofs.Trims.{trims_stand}
use Rattle.cm_commit.proofs.laws.trims_stand.Goals as goal

pub returns : goal.returns
returns c = trims_stand
