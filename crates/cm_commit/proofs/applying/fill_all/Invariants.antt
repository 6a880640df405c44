use Rattle.std.proofs.Common.{length}
use Rattle.std.specs.Arc.{arc_value}
use Rattle.cm_commit.proofs.Filled.{AreFilled}
use Rattle.cm_commit.proofs.applying.fill_all.Given as goal

abbrev pub invariant-loop-carried : goal.invariant-loop-carried
invariant-loop-carried l =
    AreFilled arc_value l.fn.book l.fn.first l.fn.entries.items l.book l.number (length l.yielded)
