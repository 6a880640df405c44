use Rattle.std.proofs.Common.{length}
use Rattle.cm_front.specs.Restoring.{IsOnTheWay}
use Rattle.cm_front.proofs.restore.take_rows.Given as goal

abbrev pub invariant-loop-row : goal.invariant-loop-row
invariant-loop-row l = IsOnTheWay l.fn.book.sizes l.fn.book.rows l.rows l.space

abbrev pub decreases-loop-row : goal.decreases-loop-row
decreases-loop-row l = length l.rows
