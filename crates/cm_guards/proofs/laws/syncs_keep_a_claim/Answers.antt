use Rattle.cm_guards.proofs.Held.{durable_holds, durable_keeps}
use Rattle.cm_guards.proofs.laws.syncs_keep_a_claim.Goals as goal

pub returns-clause-holds : goal.returns-clause-holds
returns-clause-holds g c = durable_holds g.P.Claim.holds

pub returns-clause-keeps : goal.returns-clause-keeps
returns-clause-keeps g c = durable_keeps
