use Rattle.cm_pool.proofs.SpaceLaws as laws
use Rattle.cm_pool.proofs.laws.held_chunks_come_and_go.Goals as goal

pub returns-clause-used : goal.returns-clause-used
returns-clause-used c = laws.taken_is_used

pub returns-clause-held : goal.returns-clause-held
returns-clause-held c = laws.taken_is_held

pub returns-clause-given : goal.returns-clause-given
returns-clause-given c = laws.held_is_given
