use Rattle.std.proofs.Common.{◌≤◌, arith}
use Rattle.cm_space.proofs.Rooted.{way-more, way-end}
use Rattle.cm_space.proofs.adopt.add_roots.Goals as goal
use Rattle.cm_space.proofs.adopt.add_roots.Goals.{In_ok-_added}

here : (c : In_ok-_added) → c.loop-pool.pool.roots ≤ c.args.root
here c = omega (arith, c.roots.ensures.value)

pub loop-pool-smaller : goal.loop-pool-smaller
loop-pool-smaller c =
    let low = here (goal.at.loop-pool-smaller c).In_ok-_added in
    let more =
    way-more c.args.pool.now c.loop-pool.pool c.add_root.new.self c.args.root
    c.in_ok-_added._added c.loop-pool.invariant low c.requires
    (λ h. c.in_ok-_added.ensures.added.1 h) c.in_ok-_added.ensures.left in
    omega (arith, low, more.1)

pub loop-pool-preserved : goal.loop-pool-preserved
loop-pool-preserved c =
    (way-more c.args.pool.now c.loop-pool.pool c.add_root.new.self c.args.root c.in_ok-_added._added
    c.loop-pool.invariant (here (goal.at.loop-pool-preserved c).In_ok-_added) c.requires
    (λ h. c.in_ok-_added.ensures.added.1 h) c.in_ok-_added.ensures.left).0

pub returns-clause-ok : goal.returns-clause-ok
returns-clause-ok c =
    way-end c.args.pool.now c.loop-pool.pool c.args.root c.loop-pool.invariant
    (omega (arith, c.roots.ensures.value))
