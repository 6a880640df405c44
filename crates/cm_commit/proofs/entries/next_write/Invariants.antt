use Rattle.std.proofs.Common.{◌≡◌}
use Rattle.cm_commit.specs.Steps.{writes_from}
use Rattle.cm_commit.proofs.entries.next_write.Given as goal

abbrev pub invariant-loop-at : goal.invariant-loop-at
invariant-loop-at l =
    writes_from l.at l.from l.entries ≡ writes_from l.entry l.number l.entries
