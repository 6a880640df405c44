use Rattle.cm_pool.proofs.Emptiness.{AreZeros}
use Rattle.cm_pool.proofs.rows.empty_rows.Given as goal

abbrev pub invariant-loop-order : goal.invariant-loop-order
invariant-loop-order l = AreZeros l.geometry l.order l.rows.items
