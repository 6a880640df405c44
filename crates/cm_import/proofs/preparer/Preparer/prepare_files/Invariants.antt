use Rattle.std.proofs.Common.{◌≡◌, ◌≤◌, length}
use Rattle.cm_import.proofs.preparer.Preparer.prepare_files.Given as goal

-- a file is one job at most
abbrev pub invariant-loop-file : goal.invariant-loop-file
invariant-loop-file g l =
    (l.self.ready ≡ l.fn.self.ready) × (length l.jobs.items ≤ l.file-index)
