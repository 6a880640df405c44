use Rattle.cm_layout.proofs.KeptOn.{moves-stand}
use Rattle.cm_layout.proofs.laws.moves_stand.Goals as goal

pub returns : goal.returns
returns c = moves-stand
