use Rattle.std.proofs.Common.{length, map}
use Rattle.cm_maintenance.proofs.Orders.{IsGathering}
use Rattle.cm_maintenance.proofs.gathered.gather.Given as goal

abbrev pub invariant-loop-row : goal.invariant-loop-row
invariant-loop-row l = IsGathering l.book.rows (map (λ r. r.now) l.left.items) l.gathered

abbrev pub decreases-loop-row : goal.decreases-loop-row
decreases-loop-row l = length l.left.items
