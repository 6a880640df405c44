use Rattle.cm_guards.proofs.Held.{plans_go_on, plans_keep}
use Rattle.cm_guards.proofs.laws.plans_keep_a_claim.Goals as goal

pub returns-clause-goes_on : goal.returns-clause-goes_on
returns-clause-goes_on g c = plans_go_on

pub returns-clause-holds : goal.returns-clause-holds
returns-clause-holds g c = plans_keep g.P.Claim.holds
