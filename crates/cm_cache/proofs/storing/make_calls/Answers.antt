use Rattle.std.proofs.Common.{Ok, arith, subst}
use Rattle.cm_commit.specs.Advances.{Advances}
use Rattle.cm_cache.proofs.Stored.{works, finishes, fails, fails_by_device, not_idle}
use Rattle.cm_cache.proofs.Stored.{no_trim, one_more_call}
use Rattle.cm_cache.proofs.storing.make_calls.Goals as goal

pub returns-in-Done-clause-stored : goal.returns-in-Done-clause-stored
returns-in-Done-clause-stored g c =
    λ group u.
    finishes _ _ _ _ group
    (subst (λ p. Advances c.loop-progress.committer (Ok p) c.advance.new.self) c.in-Done.is
    c.in-Ok.ensures.moved)
    (c.loop-progress.invariant.0 group u)

pub loop-progress-preserved : goal.loop-progress-preserved
loop-progress-preserved g c = (
  (λ group u.
      works _ _ _ group
      (subst (λ p. Advances c.loop-progress.committer (Ok p) c.advance.new.self) c.in-Working.is
      c.in-Ok.ensures.moved)
      (c.loop-progress.invariant.0 group u)),
  (let before = c.loop-progress.invariant.1 in
      let later = c.in-Ok.ensures.cause.later in
      omega (arith, before, later)),
  (λ group u.
      one_more_call g.D.Disk.view _ _ c.advance.new.self group (c.loop-progress.invariant.0 group u)
      (c.loop-progress.invariant.2 group u) c.in-Ok.ensures.any_moment),
)

pub unreachable-requires : goal.unreachable-requires
unreachable-requires g c =
    no_trim _ _ _ c.requires.0 _
    (subst (λ p. Advances c.loop-progress.committer (Ok p) c.advance.new.self) c.in-Trimmed.is
    c.in-Ok.ensures.moved)
    (c.loop-progress.invariant.0 c.requires.0 c.requires.1)

pub unreachable-requires-in-Idle : goal.unreachable-requires-in-Idle
unreachable-requires-in-Idle g c =
    not_idle _ _ _ c.requires.0
    (subst (λ p. Advances c.loop-progress.committer (Ok p) c.advance.new.self) c.in-Idle.is
    c.in-Ok.ensures.moved)
    (c.loop-progress.invariant.0 c.requires.0 c.requires.1)

pub returns-in-Err-clause-left : goal.returns-in-Err-clause-left
returns-in-Err-clause-left g c =
    λ group u.
    fails _ _ _ c.in-Err.field-0 group c.in-Err.ensures.moved (c.loop-progress.invariant.0 group u)

pub returns-in-Err-clause-cause : goal.returns-in-Err-clause-cause
returns-in-Err-clause-cause g c =
    let before = c.loop-progress.invariant.1 in
    let rises = fails_by_device _ _ _ c.in-Err.field-0 c.requires.0 _ _ c.in-Err.ensures.moved
    (c.loop-progress.invariant.0 c.requires.0 c.requires.1) c.in-Err.ensures.cause in
    omega (arith, before, rises)

pub returns-in-Done-clause-any_moment : goal.returns-in-Done-clause-any_moment
returns-in-Done-clause-any_moment g c =
    λ group u.
    one_more_call g.D.Disk.view _ _ c.advance.new.self group (c.loop-progress.invariant.0 group u)
    (c.loop-progress.invariant.2 group u) c.in-Ok.ensures.any_moment

pub returns-in-Err-clause-any_moment : goal.returns-in-Err-clause-any_moment
returns-in-Err-clause-any_moment g c =
    λ group u.
    one_more_call g.D.Disk.view _ _ c.advance.new.self group (c.loop-progress.invariant.0 group u)
    (c.loop-progress.invariant.2 group u) c.in-Err.ensures.any_moment
