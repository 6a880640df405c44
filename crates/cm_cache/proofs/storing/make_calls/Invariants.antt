use Rattle.std.proofs.Common.{◌≤◌}
use Rattle.cm_group.specs.Groups.{Handed}
use Rattle.cm_guards.specs.Calls.{LeavesOnly}
use Rattle.cm_guards.specs.Stages.{calls_left}
use Rattle.cm_cache.specs.Storing.{IsUnderway, ShowsEither}
use Rattle.cm_cache.proofs.storing.make_calls.Given as goal

abbrev pub invariant-loop-progress : goal.invariant-loop-progress
invariant-loop-progress g l =
    ((group : Handed) → IsUnderway l.initial.committer group l.initial.committer
    → IsUnderway l.initial.committer group l.committer)
    × (g.D.Disk.view.failures l.initial.committer.disk ≤ g.D.Disk.view.failures l.committer.disk)
    × ((group : Handed) → IsUnderway l.initial.committer group l.initial.committer
    → LeavesOnly g.D.Disk.view l.initial.committer.disk l.committer.disk
    (ShowsEither l.initial.committer group))

abbrev pub decreases-loop-progress : goal.decreases-loop-progress
decreases-loop-progress g l = calls_left l.committer.left
