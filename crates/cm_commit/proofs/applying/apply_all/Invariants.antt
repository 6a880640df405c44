use Rattle.cm_commit.specs.Keeping.{AreApplied}
use Rattle.cm_commit.proofs.applying.apply_all.Given as goal

abbrev pub invariant-loop-carried : goal.invariant-loop-carried
invariant-loop-carried l =
    AreApplied l.fn.book l.fn.first l.fn.entries l.book l.number l.carried-index
