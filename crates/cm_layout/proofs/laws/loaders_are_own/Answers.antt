use Rattle.cm_layout.proofs.OwnLoaders.{own_loaders}
use Rattle.cm_layout.proofs.laws.loaders_are_own.Goals as goal

pub returns : goal.returns
returns c = own_loaders
