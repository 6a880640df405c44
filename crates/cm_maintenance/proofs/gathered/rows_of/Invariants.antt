use Rattle.std.proofs.Common.{◌≡◌, ◌++◌, length, map}
use Rattle.cm_maintenance.proofs.gathered.rows_of.Given as goal

-- what was pushed and what is left are all rows
abbrev pub invariant-loop-row : goal.invariant-loop-row
invariant-loop-row l = map (λ r. r.now) l.rows.items ++ l.left ≡ l.book.rows

abbrev pub decreases-loop-row : goal.decreases-loop-row
decreases-loop-row l = length l.left
