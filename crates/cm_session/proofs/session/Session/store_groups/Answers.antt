use Rattle.std.proofs.Common.{refl, ◌∙◌, arith, subst, ap}
use Rattle.cm_guards.specs.Calls.{LeavesOnly}
use Rattle.cm_guards.proofs.{leaves_none}
use Rattle.cm_pool.specs.Geometry.{Sizes}
use Rattle.cm_commit.specs.States.{CommitterState}
use Rattle.cm_session.specs.Images.{StandsForSome}
use Rattle.cm_session.specs.Committing.{all_handed, TellsFailure}
use Rattle.cm_commands.specs.Machine.{accepted_to}
use Rattle.cm_session.proofs.Handing.{known, all_commands}
use Rattle.cm_session.proofs.Committed.{told, numbered, committing_starts, seal_hands}
use Rattle.cm_session.proofs.Committed.{committing_ok}
use Rattle.cm_session.proofs.Committed.{committing_err, committing_ends, on, first_on}
use Rattle.cm_session.proofs.Committed.{told_later, told_failed}
use Rattle.cm_session.proofs.session.Session.store_groups.Goals as goal

pub groups-init : goal.groups-init
groups-init g c =
    let s = c.args.self.now in
    let view = g.D.Disk.view in
    let counted = c.committed_rows_are_the_machines.ensures.counted in (
      refl,
      λ k i caught.
          let within = known counted k s.front s.committer s.queue.groups.items s.sealed
          s.has_failed i in (
            committing_starts k s.sealed _ caught.stored within
                (told k s.front s.committer s.queue.groups.items s.sealed s.has_failed i) i,
            omega arith,
            leaves_none view g.met.D.Disk.only_now s.committer.disk
                (StandsForSome s.committer.sizes (all_handed k))
                (first_on s.committer.sizes k _ _ within (c.images.ensures k i)),
          ),
    )

pub groups-preserved : goal.groups-preserved
groups-preserved g c =
    let view = g.D.Disk.view in
    let fn = c.args.self.now.committer in
    let old = c.groups.self.committer in
    let call = c.store_handed in
    let new = call.new.self.committer in
    let kept = c.groups.invariant in
    let same = c.seal.ensures.disk in (
      call.ensures.sizes ∙ (ap (λ (b : CommitterState _). b.sizes) same ∙ kept.0),
      λ k i caught.
          let so = kept.1 k i caught in
          let between = numbered k so.0.number so.0.number in
          let h = seal_hands k so.0.number _ c.seal.result so.0.most
          (c.seal.ensures.place between so.0.matches refl)
          (c.seal.ensures.machine between so.0.matches) in
          let handed = numbered k h.sealed so.0.number in
          let less = so.0.least in (
            committing_ok k c.groups.counter _ _ _ caught so.0 h call.result c.is_err.result
                c.is_err.ensures.value c.if-is_err.false
                (call.ensures.machine handed h.matches caught.works),
            told_later _ _ _ call.result so.1
                (subst (λ (b : CommitterState _). TellsFailure (view.failures b.disk)
                (view.failures new.disk) call.result) same
                (call.ensures.cause handed h.matches caught.works)),
            on view fn.disk old.disk new.disk fn.sizes k k.acknowledged h.sealed so.0.number
                (accepted_to k) (omega (arith, caught.stored, less)) h.most so.2
                (subst (λ (b : CommitterState _). LeavesOnly view b.disk new.disk
                (StandsForSome fn.sizes handed)) same
                (subst (λ (z : Sizes). LeavesOnly view c.seal.new.self.committer.disk new.disk
                (StandsForSome z handed)) (ap (λ (b : CommitterState _). b.sizes) same ∙ kept.0)
                (call.ensures.any_moment handed h.matches caught.works))),
          ),
    )

pub returns-clause-machine : goal.returns-clause-machine
returns-clause-machine g c =
    let s = c.args.self.now in
    λ k i caught.
    let so = c.groups.invariant.1 k i caught in
    let all = all_commands c.committed_rows_are_the_machines.ensures.counted k s.front s.committer
    s.queue.groups.items s.sealed s.has_failed i in
    let end = c.number-end.ensures in
    let past = c.groups-test.false in
    committing_ends k c.groups.counter _ so.0 (omega (arith, all, end, past)) tt

pub returns-clause-any_moment : goal.returns-clause-any_moment
returns-clause-any_moment g c = λ k i caught. (c.groups.invariant.1 k i caught).2

pub returns-clause-cause : goal.returns-clause-cause
returns-clause-cause g c =
    λ k i caught.
    record { later = (c.groups.invariant.1 k i caught).1; failed = λ is. absurd (cc) }

pub returns-clause-sizes : goal.returns-clause-sizes
returns-clause-sizes g c = c.groups.invariant.0

pub returns-then-is_err-clause-machine : goal.returns-then-is_err-clause-machine
returns-then-is_err-clause-machine g c =
    let call = c.store_handed in
    λ k i caught.
    let so = c.groups.invariant.1 k i caught in
    let between = numbered k so.0.number so.0.number in
    let h = seal_hands k so.0.number _ c.seal.result so.0.most
    (c.seal.ensures.place between so.0.matches refl)
    (c.seal.ensures.machine between so.0.matches) in
    let handed = numbered k h.sealed so.0.number in
    committing_err k c.groups.counter _ _ _ caught so.0 h call.result c.is_err.result
    c.is_err.ensures.value c.if-is_err.true _
    (call.ensures.machine handed h.matches caught.works)

pub returns-then-is_err-clause-any_moment : goal.returns-then-is_err-clause-any_moment
returns-then-is_err-clause-any_moment g c =
    let view = g.D.Disk.view in
    let fn = c.args.self.now.committer in
    let old = c.groups.self.committer in
    let call = c.store_handed in
    let new = call.new.self.committer in
    let kept = c.groups.invariant in
    let same = c.seal.ensures.disk in
    λ k i caught.
    let so = kept.1 k i caught in
    let between = numbered k so.0.number so.0.number in
    let h = seal_hands k so.0.number _ c.seal.result so.0.most
    (c.seal.ensures.place between so.0.matches refl)
    (c.seal.ensures.machine between so.0.matches) in
    let handed = numbered k h.sealed so.0.number in
    let less = so.0.least in
    on view fn.disk old.disk new.disk fn.sizes k k.acknowledged h.sealed so.0.number
    (accepted_to k) (omega (arith, caught.stored, less)) h.most so.2
    (subst (λ (b : CommitterState _). LeavesOnly view b.disk new.disk
    (StandsForSome fn.sizes handed)) same
    (subst (λ (z : Sizes). LeavesOnly view c.seal.new.self.committer.disk new.disk
    (StandsForSome z handed)) (ap (λ (b : CommitterState _). b.sizes) same ∙ kept.0)
    (call.ensures.any_moment handed h.matches caught.works)))

pub returns-then-is_err-clause-cause : goal.returns-then-is_err-clause-cause
returns-then-is_err-clause-cause g c =
    let view = g.D.Disk.view in
    let call = c.store_handed in
    let new = call.new.self.committer in
    let same = c.seal.ensures.disk in
    λ k i caught.
    let so = c.groups.invariant.1 k i caught in
    let between = numbered k so.0.number so.0.number in
    let h = seal_hands k so.0.number _ c.seal.result so.0.most
    (c.seal.ensures.place between so.0.matches refl)
    (c.seal.ensures.machine between so.0.matches) in
    let handed = numbered k h.sealed so.0.number in
    told_failed _ _ _ call.result c.is_err.result c.is_err.ensures.value c.if-is_err.true so.1
    (subst (λ (b : CommitterState _). TellsFailure (view.failures b.disk) (view.failures new.disk)
    call.result) same (call.ensures.cause handed h.matches caught.works)) _

pub returns-then-is_err-clause-sizes : goal.returns-then-is_err-clause-sizes
returns-then-is_err-clause-sizes g c =
    c.store_handed.ensures.sizes
    ∙ (ap (λ (b : CommitterState _). b.sizes) c.seal.ensures.disk ∙ c.groups.invariant.0)
