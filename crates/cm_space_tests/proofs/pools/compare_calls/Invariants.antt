use Rattle.cm_pool.specs.Held.{AreHeld}
use Rattle.cm_space_tests.proofs.pools.compare_calls.Given as goal

abbrev pub invariant-loop-call : goal.invariant-loop-call
invariant-loop-call l = AreHeld l.pool l.held.items
