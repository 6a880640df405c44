use Rattle.std.proofs.Common.{◌≡◌, []}
use Rattle.cm_guards.specs.Calls.{LeavesOnly}
use Rattle.cm_commands.specs.Machine.{Machine}
use Rattle.cm_session.specs.Moves.{SessionMatches, ReachesMachine}
use Rattle.cm_importing.specs.Groups.{pause, IsReady}
use Rattle.cm_importing.specs.Runs.{ImportsGroups}
use Rattle.cm_importing.proofs.importing.import_feed.Given as goal

abbrev pub invariant-groups : goal.invariant-groups
invariant-groups g l =
    (l.session.committer.sizes ≡ l.fn.session.committer.sizes)
    × ((k : Machine) → SessionMatches k l.fn.session → IsReady k
    → ReachesMachine
    (λ next. ImportsGroups (LeavesOnly g.D.Disk.view) l.fn.session.committer.sizes l.fn.loader
    (g.F.Feed.log l.fn.feed) (g.F.Feed.log l.feed) []
    (pause k l.fn.session.committer.disk) (pause next l.session.committer.disk) × IsReady next)
    (λ next. SessionMatches next l.session))

-- each turn takes one of the groups that are left
abbrev pub decreases-groups : goal.decreases-groups
decreases-groups g l = g.F.Feed.left l.feed
