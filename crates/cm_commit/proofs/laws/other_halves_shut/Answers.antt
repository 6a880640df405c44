use Rattle.cm_commit.proofs.Shutting.{other_halves_shut}
use Rattle.cm_commit.proofs.laws.other_halves_shut.Goals as goal

pub returns : goal.returns
returns c = other_halves_shut
