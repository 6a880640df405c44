use Rattle.std.proofs.Common.{◌≤◌}
use Rattle.cm_bench.proofs.classes.step.count.Given as goal

abbrev pub invariant-loop-item : goal.invariant-loop-item
invariant-loop-item g l = l.passed ≤ l.item-index
