use Rattle.cm_guards.proofs.Held.{holds_during_writes, holds_after_writes}
use Rattle.cm_guards.proofs.laws.writes_apart_keep_a_claim.Goals as goal

pub returns-clause-during : goal.returns-clause-during
returns-clause-during g c = holds_during_writes g.P.Claim.holds

pub returns-clause-after : goal.returns-clause-after
returns-clause-after g c = holds_after_writes g.P.Claim.holds
