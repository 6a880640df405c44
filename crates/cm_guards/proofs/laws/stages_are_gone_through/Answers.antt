use Rattle.cm_guards.proofs.Going.{ready_stands, takes_call, stages_leave, call_done, call_failed}
use Rattle.cm_guards.proofs.Going.{call_moments}
use Rattle.cm_guards.proofs.laws.stages_are_gone_through.Goals as goal

pub returns-clause-ready : goal.returns-clause-ready
returns-clause-ready g c = ready_stands g.P.Claim.holds g.Q.Claim.holds

pub returns-clause-takes : goal.returns-clause-takes
returns-clause-takes g c = takes_call g.P.Claim.holds g.Q.Claim.holds

pub returns-clause-images : goal.returns-clause-images
returns-clause-images g c = stages_leave g.P.Claim.holds g.Q.Claim.holds

pub returns-clause-call : goal.returns-clause-call
returns-clause-call g c =
    let d = g.D.Disk in
    λ long left old new result stands call. record {
      done = call_done d.view g.met.D.Disk.only_now g.P.Claim.holds g.Q.Claim.holds long old new
          result left stands
          call;
      failed = call_failed d.view g.met.D.Disk.only_now g.P.Claim.holds g.Q.Claim.holds long old new
          result left stands
          call;
      moments = call_moments d.view g.met.D.Disk.only_now g.P.Claim.holds g.Q.Claim.holds long old
          new result left stands
          call;
    }
