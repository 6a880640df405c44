use Rattle.std.proofs.Common.{◌≤◌, ◌+◌, length, All, IsSome}
use Rattle.cm_import.proofs.preparer.Preparer.prepare.Given as goal

-- each class that was run is ready or not, and the others were run too
abbrev pub invariant-loop-job : goal.invariant-loop-job
invariant-loop-job g l =
    (length l.self.ready.items + length l.job-iterator.rest.items
    ≤ length l.fn.self.ready.items + length l.fn.jobs.items)
    × All (λ job. IsSome job.outcome) l.job-iterator.rest.items
