use Rattle.std.proofs.Common.{length}
use Rattle.cm_space.specs.Space.{waits_in}
use Rattle.cm_space.proofs.Giving.{IsUnderWay}
use Rattle.cm_space.proofs.waiting.free_due.Given as goal

abbrev pub invariant-loop-chunks : goal.invariant-loop-chunks
invariant-loop-chunks l =
    IsUnderWay l.number l.initial.pool (waits_in l.initial.waiting.items) l.pool
    (waits_in l.waiting.items)

abbrev pub decreases-loop-chunks : goal.decreases-loop-chunks
decreases-loop-chunks l = length (waits_in l.waiting.items)
