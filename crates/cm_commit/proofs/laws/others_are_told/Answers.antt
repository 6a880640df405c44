use Rattle.cm_commit.proofs.Shutting.{other_is_told}
use Rattle.cm_commit.proofs.laws.others_are_told.Goals as goal

pub returns : goal.returns
returns c = other_is_told
