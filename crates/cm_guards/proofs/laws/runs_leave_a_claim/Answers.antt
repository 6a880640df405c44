use Rattle.cm_guards.proofs.Left.{leaves_on, one_call}
use Rattle.cm_guards.proofs.laws.runs_leave_a_claim.Goals as goal

pub returns-clause-join : goal.returns-clause-join
returns-clause-join g c = λ a b d first second.
    leaves_on g.D.Disk.view a b d g.P.Claim.holds first second

pub returns-clause-call : goal.returns-clause-call
returns-clause-call g c = λ old new during time at_entry inside.
    one_call g.D.Disk.view
    g.met.D.Disk.only_now old new during g.P.Claim.holds time at_entry inside
