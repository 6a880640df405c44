use Rattle.cm_layout.proofs.Apart as laws
use Rattle.cm_layout.proofs.laws.rows_are_apart.Goals as goal

pub returns : goal.returns
returns c = laws.are_apart
