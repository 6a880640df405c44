use Rattle.std.proofs.Common.{◌≡◌}
use Rattle.cm_guards.specs.Calls.{LeavesOnly}
use Rattle.cm_commands.specs.Machine.{Machine}
use Rattle.cm_session.specs.Moves.{SessionMatches}
use Rattle.cm_tool.specs.Answers.{served, pause}
use Rattle.cm_tool.specs.Serving.{IsReady, ReachesServed}
use Rattle.cm_tool.proofs.Running.{SoFar}
use Rattle.cm_tool.proofs.script.run_script.Given as goal

abbrev pub invariant-lines : goal.invariant-lines
invariant-lines g l =
    (l.session.committer.sizes ≡ l.fn.session.committer.sizes)
    × ((k : Machine) → SessionMatches k l.fn.session → IsReady k
    → ReachesServed (λ s. SoFar (LeavesOnly g.D.Disk.view)
    l.fn.session.committer.sizes
    (g.R.Read.remaining l.fn.reader) (g.R.Read.remaining l.reader) (g.W.Write.contents l.fn.writer)
    (g.W.Write.contents l.writer) l.outcome
    (pause (served k (g.D.Disk.view.failures l.fn.session.committer.disk))
    l.fn.session.committer.disk)
    (pause s l.session.committer.disk))
    (g.D.Disk.view.failures l.session.committer.disk) (λ next. SessionMatches next l.session))
