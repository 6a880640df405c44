use Rattle.std.proofs.Common.{◌≤◌}
use Rattle.cm_import.proofs.batch.entries_at_once.Given as goal

-- one entry is taken a turn
abbrev pub invariant-loop-entry : goal.invariant-loop-entry
invariant-loop-entry l = l.batch.count ≤ l.entry-index
