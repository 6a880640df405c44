use Rattle.std.proofs.Common.{suc, ◌-◌}
use Rattle.cm_space.specs.Adopting.{IsOnTheWay}
use Rattle.cm_space.proofs.adopt.add_roots.Given as goal

abbrev pub invariant-loop-pool : goal.invariant-loop-pool
invariant-loop-pool l = IsOnTheWay l.initial.pool l.root l.pool

abbrev pub decreases-loop-pool : goal.decreases-loop-pool
decreases-loop-pool l = suc l.root - l.pool.roots
