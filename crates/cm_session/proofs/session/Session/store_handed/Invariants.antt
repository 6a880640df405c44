use Rattle.std.proofs.Common.{◌≡◌, ◌≤◌, false}
use Rattle.cm_guards.specs.Calls.{LeavesOnly}
use Rattle.cm_commands.specs.Machine.{Machine}
use Rattle.cm_session.specs.Images.{StandsForSome}
use Rattle.cm_session.specs.Moves.{SessionMatches}
use Rattle.cm_session.proofs.Committed.{IsStoring}
use Rattle.cm_session.proofs.session.Session.store_handed.Given as goal

abbrev pub invariant-groups : goal.invariant-groups
invariant-groups g l =
    (l.self.committer.sizes ≡ l.fn.self.committer.sizes)
    × (g.D.Disk.view.failures l.fn.self.committer.disk
    ≤ g.D.Disk.view.failures l.self.committer.disk)
    × ((k : Machine) → SessionMatches k l.fn.self → k.failed ≡ false
    → IsStoring k l.counter (λ j. SessionMatches j l.self)
    × LeavesOnly g.D.Disk.view l.fn.self.committer.disk l.self.committer.disk
    (StandsForSome l.fn.self.committer.sizes k))
