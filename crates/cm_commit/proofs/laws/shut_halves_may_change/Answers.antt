use Rattle.cm_commit.proofs.Shutting.{shut_halves_may_change}
use Rattle.cm_commit.proofs.laws.shut_halves_may_change.Goals as goal

pub returns : goal.returns
returns c = shut_halves_may_change
