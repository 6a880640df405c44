use Rattle.std.proofs.Common.{◌≡◌, length, max}
use Rattle.std.specs.List.{AllByRecursion}
use Rattle.cm_layout.specs.Rows.{classes_in}
use Rattle.cm_commit.specs.Trims.{roots_of_rows}
use Rattle.cm_statistics.specs.Usage.{IsSmallRow}
use Rattle.cm_statistics.proofs.roots.used_roots.Given as goal

abbrev pub invariant-loop-row : goal.invariant-loop-row
invariant-loop-row l = record {
  most : max l.used (roots_of_rows l.left) ≡ roots_of_rows l.rows.rows;
  small : AllByRecursion IsSmallRow (classes_in l.left);
}

abbrev pub decreases-loop-row : goal.decreases-loop-row
decreases-loop-row l = length l.left
