use Rattle.cm_space.proofs.Owners as owners
use Rattle.cm_space.proofs.laws.chunks_are_apart.Goals as goal

pub returns-clause-owned : goal.returns-clause-owned
returns-clause-owned c = owners.one_owner

pub returns-clause-waiting : goal.returns-clause-waiting
returns-clause-waiting c = owners.one_number

pub returns-clause-either : goal.returns-clause-either
returns-clause-either c = owners.owned_or_waiting
