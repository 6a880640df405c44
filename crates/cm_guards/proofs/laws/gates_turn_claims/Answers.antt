use Rattle.cm_guards.proofs.Held.{turns_during, turns_after, turns_contents}
use Rattle.cm_guards.proofs.laws.gates_turn_claims.Goals as goal

pub returns-clause-during : goal.returns-clause-during
returns-clause-during g c = turns_during g.P.Claim.holds g.Q.Claim.holds

pub returns-clause-after : goal.returns-clause-after
returns-clause-after g c = turns_after g.P.Claim.holds g.Q.Claim.holds

pub returns-clause-contents : goal.returns-clause-contents
returns-clause-contents g c = turns_contents g.P.Claim.holds g.Q.Claim.holds
