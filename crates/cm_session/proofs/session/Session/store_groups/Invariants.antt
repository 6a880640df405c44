use Rattle.std.proofs.Common.{◌≡◌, ◌≤◌}
use Rattle.cm_guards.specs.Calls.{LeavesOnly}
use Rattle.cm_commands.specs.Machine.{Machine}
use Rattle.cm_session.specs.Images.{StandsForSome}
use Rattle.cm_session.specs.Moves.{SessionMatches}
use Rattle.cm_session.specs.Committing.{IsCaughtUp, all_handed}
use Rattle.cm_session.proofs.Committed.{IsCommitting}
use Rattle.cm_session.proofs.session.Session.store_groups.Given as goal

abbrev pub invariant-groups : goal.invariant-groups
invariant-groups g l =
    (l.self.committer.sizes ≡ l.fn.self.committer.sizes)
    × ((k : Machine) → SessionMatches k l.fn.self → IsCaughtUp k
    → IsCommitting k l.counter (λ j. SessionMatches j l.self)
    × (g.D.Disk.view.failures l.fn.self.committer.disk
    ≤ g.D.Disk.view.failures l.self.committer.disk)
    × LeavesOnly g.D.Disk.view l.fn.self.committer.disk l.self.committer.disk
    (StandsForSome l.fn.self.committer.sizes (all_handed k)))
