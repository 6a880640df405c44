use Rattle.cm_pool.proofs.ChunkLaws as laws
use Rattle.cm_pool.proofs.laws.halves_make_whole.Goals as goal

pub returns : goal.returns
returns c = laws.halves_make_whole
