use Rattle.std.proofs.Common.{◌≡◌, ◌≤◌}
use Rattle.cm_guards.specs.Calls.{LeavesOnly}
use Rattle.cm_guards.specs.Stages.{calls_left}
use Rattle.cm_commit.specs.Advances.{HasRisen}
use Rattle.cm_commands.specs.Machine.{Machine}
use Rattle.cm_session.specs.Images.{StandsForSome}
use Rattle.cm_session.specs.Moves.{SessionMatches, ReachesMachine, Advancing}
use Rattle.cm_session.specs.Storing.{IsWorking, HasTrimmed, NoTrim}
use Rattle.cm_session.proofs.Stored.{weight}
use Rattle.cm_session.proofs.session.Session.advance_work.Given as goal

abbrev pub invariant-loop-progress : goal.invariant-loop-progress
invariant-loop-progress g l =
    ((k : Machine) → SessionMatches k l.fn.self
    → ReachesMachine (Advancing k l.progress) (λ next. SessionMatches next l.self))
    × (IsWorking l.progress → 1 ≤ calls_left l.self.committer.left)
    × ((k : Machine) → SessionMatches k l.fn.self
    → LeavesOnly g.D.Disk.view l.fn.self.committer.disk l.self.committer.disk
    (StandsForSome l.fn.self.committer.sizes k))
    × HasRisen (g.D.Disk.view.failures l.fn.self.committer.disk)
    (g.D.Disk.view.failures l.self.committer.disk) l.progress
    × (l.self.committer.sizes ≡ l.fn.self.committer.sizes)
    × (NoTrim l.fn.self.committer.underway
    → NoTrim l.self.committer.underway × (HasTrimmed l.progress → ⊥))
    × (HasTrimmed l.progress → NoTrim l.self.committer.underway)

abbrev pub decreases-loop-progress : goal.decreases-loop-progress
decreases-loop-progress g l = weight l.progress l.self.committer.left
