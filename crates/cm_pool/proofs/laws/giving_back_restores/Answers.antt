use Rattle.cm_pool.proofs.ChunkLaws as laws
use Rattle.cm_pool.proofs.laws.giving_back_restores.Goals as goal

pub returns : goal.returns
returns c = laws.giving_back_restores
