use Rattle.std.proofs.Common.{◌≤◌}
use Rattle.cm_import.proofs.batch.files_at_once.Given as goal

-- one place is taken a turn
abbrev pub invariant-loop-at : goal.invariant-loop-at
invariant-loop-at l = l.batch.count ≤ l.at
