use Rattle.cm_recover.proofs.Shut.{shut_is_no_cache}
use Rattle.cm_recover.proofs.Empty.{new_is_empty, new_is_newest, gate_turns}
use Rattle.cm_recover.proofs.laws.new_file_is_empty.Goals as goal

pub returns-clause-shut : goal.returns-clause-shut
returns-clause-shut c = shut_is_no_cache

pub returns-clause-empty : goal.returns-clause-empty
returns-clause-empty c = new_is_empty

pub returns-clause-newest : goal.returns-clause-newest
returns-clause-newest c = new_is_newest

pub returns-clause-gate : goal.returns-clause-gate
returns-clause-gate c = gate_turns
