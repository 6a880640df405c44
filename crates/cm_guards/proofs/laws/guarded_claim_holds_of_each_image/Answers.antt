use Rattle.cm_guards.proofs.Held.{guarded_holds}
use Rattle.cm_guards.proofs.laws.guarded_claim_holds_of_each_image.Goals as goal

pub returns : goal.returns
returns g c = guarded_holds g.P.Claim.holds
