use Rattle.cm_pool.specs.Rows.{IsFirstFrom}
use Rattle.cm_pool.proofs.rows.first_of_order.Given as goal

abbrev pub invariant-loop-at : goal.invariant-loop-at
invariant-loop-at l = IsFirstFrom l.rows l.order l.at l.first
