use Rattle.std.specs.Vec.{vec_len}
use Rattle.cm_pool.specs.Held.{AreHeld}
use Rattle.cm_space_tests.proofs.pools.hand_out_again.Given as goal

abbrev pub invariant-loop-pool : goal.invariant-loop-pool
invariant-loop-pool l = AreHeld l.pool l.held.items

abbrev pub decreases-loop-pool : goal.decreases-loop-pool
decreases-loop-pool l = vec_len l.held
