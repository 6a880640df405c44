use Rattle.std.proofs.Common.{◌≡◌, length}
use Rattle.cm_layout.specs.Rules.{differ}
use Rattle.cm_rows.proofs.live_rows.are_different.Given as goal

abbrev pub invariant-loop-first : goal.invariant-loop-first
invariant-loop-first l = differ l.left ≡ differ l.numbers

abbrev pub decreases-loop-first : goal.decreases-loop-first
decreases-loop-first l = length l.left
