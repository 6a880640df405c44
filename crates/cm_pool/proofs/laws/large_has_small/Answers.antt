use Rattle.cm_pool.proofs.SpaceLaws as laws
use Rattle.cm_pool.proofs.laws.large_has_small.Goals as goal

pub returns : goal.returns
returns c = laws.large_has_small
