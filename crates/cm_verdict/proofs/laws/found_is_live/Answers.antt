use Rattle.cm_verdict.proofs.Contents.{found_is_live}
use Rattle.cm_verdict.proofs.laws.found_is_live.Goals as goal

pub returns : goal.returns
returns c = found_is_live c.rows_are_apart.ensures c.rows_stay_live.ensures
