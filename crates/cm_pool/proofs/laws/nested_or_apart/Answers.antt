use Rattle.cm_pool.proofs.ChunkLaws as laws
use Rattle.cm_pool.proofs.laws.nested_or_apart.Goals as goal

pub returns : goal.returns
returns c = laws.nested_or_apart
