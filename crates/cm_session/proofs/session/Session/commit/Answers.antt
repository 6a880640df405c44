use Rattle.std.proofs.Common.{sym, subst}
use Rattle.cm_guards.specs.Calls.{LeavesOnly}
use Rattle.cm_commit.specs.States.{CommitterState}
use Rattle.cm_session.specs.Images.{StandsForSome}
use Rattle.cm_session.specs.Committing.{all_handed, TellsFailure}
use Rattle.cm_session.proofs.Committed.{learns_all}
use Rattle.cm_session.proofs.session.Session.commit.Goals as goal

pub returns-clause-machine : goal.returns-clause-machine
returns-clause-machine g c =
    λ k i caught.
    learns_all k _ _ c.store_groups-stored.result c.learn.result caught
    (c.store_groups-stored.ensures.machine k i caught) c.learn.ensures.machine

pub returns-clause-any_moment : goal.returns-clause-any_moment
returns-clause-any_moment g c =
    let view = g.D.Disk.view in
    let fn = c.args.self.now.committer in
    λ k i caught.
    subst (λ (b : CommitterState _). LeavesOnly view fn.disk b.disk
    (StandsForSome fn.sizes (all_handed k))) (sym c.learn.ensures.disk)
    (c.store_groups-stored.ensures.any_moment k i caught)

pub returns-clause-cause : goal.returns-clause-cause
returns-clause-cause g c =
    let failures = g.D.Disk.view.failures in
    let fn = c.args.self.now.committer in
    λ k i caught.
    subst (λ (b : CommitterState _). TellsFailure (failures fn.disk) (failures b.disk)
    c.store_groups-stored.result) (sym c.learn.ensures.disk)
    (c.store_groups-stored.ensures.cause k i caught)

pub returns-clause-past : goal.returns-clause-past
returns-clause-past g c =
    λ k i caught.
    let all = c.store_groups-stored.ensures.machine k i caught in
    c.learn.ensures.past all.next all.matches
