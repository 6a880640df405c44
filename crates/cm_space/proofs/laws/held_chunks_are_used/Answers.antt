use Rattle.cm_space.proofs.Owners as owners
use Rattle.cm_space.proofs.laws.held_chunks_are_used.Goals as goal

pub returns-clause-owned : goal.returns-clause-owned
returns-clause-owned c = owners.owned_is_used

pub returns-clause-waiting : goal.returns-clause-waiting
returns-clause-waiting c = owners.waiting_is_used
