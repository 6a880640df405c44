use Rattle.cm_pool.proofs.Largest as laws
use Rattle.cm_pool.proofs.laws.one_list_of_largest.Goals as goal

pub returns : goal.returns
returns c = laws.one_list_of_largest
