use Rattle.std.proofs.Common.{refl, sym, ◌∙◌, arith, subst}
use Rattle.cm_guards.specs.Calls.{LeavesOnly}
use Rattle.cm_guards.proofs.{leaves_none}
use Rattle.cm_pool.specs.Geometry.{Sizes}
use Rattle.cm_session.specs.Images.{StandsForSome}
use Rattle.cm_session.proofs.Committed.{within, told, storing_starts, storing_ok, on}
use Rattle.cm_session.proofs.Committed.{storing_err, storing_ends, risen_later, tells_failed}
use Rattle.cm_session.proofs.session.Session.store_handed.Goals as goal

pub groups-init : goal.groups-init
groups-init g c =
    let s = c.args.self.now in
    let view = g.D.Disk.view in (
      refl,
      omega arith,
      λ k i sound. (
        storing_starts k c.number-counter.result _
            (within k s.front s.committer s.queue.groups.items s.sealed s.has_failed i)
            (c.number-counter.ensures ∙ sym i.told.acknowledged_is) i,
        leaves_none view g.met.D.Disk.only_now s.committer.disk
            (StandsForSome s.committer.sizes k) (c.images.ensures k i),
      ),
    )

pub groups-preserved : goal.groups-preserved
groups-preserved g c =
    let view = g.D.Disk.view in
    let fn = c.args.self.now.committer in
    let old = c.groups.self.committer in
    let call = c.advance_group in
    let new = call.new.self.committer in
    let kept = c.groups.invariant in (
      call.ensures.sizes ∙ kept.0,
      risen_later _ _ _ call.result kept.1 call.ensures.cause,
      λ k i sound.
          let so = kept.2 k i sound in (
            storing_ok k c.groups.counter _ _ so.0 sound call.result c.is_err.result
                c.is_err.ensures.value c.if-is_err.false call.ensures.ends call.ensures.past_trims
                (call.ensures.machine (record k { acknowledged = so.0.number }) so.0.matches),
            on view fn.disk old.disk new.disk fn.sizes k k.acknowledged k.sealed so.0.number
                k.sealed so.0.least (omega arith) so.1
                (subst (λ (z : Sizes). LeavesOnly view old.disk new.disk
                (StandsForSome z (record k { acknowledged = so.0.number }))) kept.0
                (call.ensures.any_moment (record k { acknowledged = so.0.number })
                so.0.matches)),
          ),
    )

pub returns-clause-machine : goal.returns-clause-machine
returns-clause-machine g c =
    let s = c.args.self.now in
    λ k i sound.
    let so = c.groups.invariant.2 k i sound in
    let all = told k s.front s.committer s.queue.groups.items s.sealed s.has_failed i in
    let past = c.groups-test.false in
    storing_ends k c.groups.counter _ so.0 (omega (arith, all, past)) tt

pub returns-clause-any_moment : goal.returns-clause-any_moment
returns-clause-any_moment g c = λ k i sound. (c.groups.invariant.2 k i sound).1

pub returns-clause-cause : goal.returns-clause-cause
returns-clause-cause g c =
    λ k i sound. record { later = c.groups.invariant.1; failed = λ is. absurd (cc) }

pub returns-clause-sizes : goal.returns-clause-sizes
returns-clause-sizes g c = c.groups.invariant.0

pub returns-then-is_err-clause-machine : goal.returns-then-is_err-clause-machine
returns-then-is_err-clause-machine g c =
    let call = c.advance_group in
    λ k i sound.
    let so = c.groups.invariant.2 k i sound in
    storing_err k c.groups.counter _ _ so.0 sound call.result c.is_err.result
    c.is_err.ensures.value c.if-is_err.true _
    (call.ensures.machine (record k { acknowledged = so.0.number }) so.0.matches)

pub returns-then-is_err-clause-any_moment : goal.returns-then-is_err-clause-any_moment
returns-then-is_err-clause-any_moment g c =
    let view = g.D.Disk.view in
    let fn = c.args.self.now.committer in
    let old = c.groups.self.committer in
    let call = c.advance_group in
    let new = call.new.self.committer in
    let kept = c.groups.invariant in
    λ k i sound.
    let so = kept.2 k i sound in
    on view fn.disk old.disk new.disk fn.sizes k k.acknowledged k.sealed so.0.number
    k.sealed so.0.least (omega arith) so.1
    (subst (λ (z : Sizes). LeavesOnly view old.disk new.disk
    (StandsForSome z (record k { acknowledged = so.0.number }))) kept.0
    (call.ensures.any_moment (record k { acknowledged = so.0.number }) so.0.matches))

pub returns-then-is_err-clause-cause : goal.returns-then-is_err-clause-cause
returns-then-is_err-clause-cause g c =
    let call = c.advance_group in
    λ k i sound.
    let so = c.groups.invariant.2 k i sound in
    tells_failed k c.groups.counter _ _ so.0 sound call.result c.is_err.result
    c.is_err.ensures.value c.if-is_err.true
    (call.ensures.machine (record k { acknowledged = so.0.number }) so.0.matches) _ _ _
    c.groups.invariant.1 call.ensures.cause _

pub returns-then-is_err-clause-sizes : goal.returns-then-is_err-clause-sizes
returns-then-is_err-clause-sizes g c = c.advance_group.ensures.sizes ∙ c.groups.invariant.0
