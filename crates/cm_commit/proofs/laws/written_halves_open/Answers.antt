use Rattle.cm_commit.proofs.Reopened.{written_halves_open}
use Rattle.cm_commit.proofs.laws.written_halves_open.Goals as goal

pub returns : goal.returns
returns c = written_halves_open
