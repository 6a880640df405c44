use Rattle.std.proofs.Common.{◌≡◌, length}
use Rattle.std.specs.Prelude.{max}
use Rattle.cm_commit.specs.Trims.{roots_of_rows}
use Rattle.cm_commit.proofs.trim.used_roots.Given as goal

-- those that the visited rows use, and those that the remaining rows use, are all
abbrev pub invariant-loop-row : goal.invariant-loop-row
invariant-loop-row l = max l.used (roots_of_rows l.left) ≡ roots_of_rows l.rows.rows

abbrev pub decreases-loop-row : goal.decreases-loop-row
decreases-loop-row l = length l.left
