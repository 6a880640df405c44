use Rattle.cm_pool.specs.Held.{AreHeld}
use Rattle.cm_space_tests.proofs.pools.hand_out.Given as goal

abbrev pub invariant-loop-order : goal.invariant-loop-order
invariant-loop-order l = AreHeld l.pool l.held.items
