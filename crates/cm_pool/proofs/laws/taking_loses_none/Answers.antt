use Rattle.cm_pool.proofs.SpaceLaws as laws
use Rattle.cm_pool.proofs.laws.taking_loses_none.Goals as goal

pub returns : goal.returns
returns c = laws.taking_loses_none
