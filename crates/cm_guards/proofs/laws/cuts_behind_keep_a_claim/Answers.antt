use Rattle.cm_guards.proofs.Held.{holds_during_cuts, holds_after_cuts}
use Rattle.cm_guards.proofs.laws.cuts_behind_keep_a_claim.Goals as goal

pub returns-clause-during : goal.returns-clause-during
returns-clause-during g c = holds_during_cuts g.P.Claim.holds

pub returns-clause-after : goal.returns-clause-after
returns-clause-after g c = holds_after_cuts g.P.Claim.holds
