use Rattle.std.proofs.Common.{◌≤◌, length}
use Rattle.cm_import.proofs.preparer.Preparer.prepare_entries.Given as goal

-- an entry is one job
abbrev pub invariant-loop-entry : goal.invariant-loop-entry
invariant-loop-entry g l = length l.jobs.items ≤ l.entry-index
