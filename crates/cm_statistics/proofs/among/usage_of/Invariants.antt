use Rattle.std.proofs.Common.{length, filter}
use Rattle.std.specs.List.{AllByRecursion}
use Rattle.cm_layout.specs.Rows.{classes_in}
use Rattle.cm_statistics.specs.Usage.{usage, is_among, AddUp, IsSmallRow}
use Rattle.cm_statistics.proofs.among.usage_of.Given as goal

-- what was counted and what is left make all
abbrev pub invariant-loop-row : goal.invariant-loop-row
invariant-loop-row l = record {
  adds : AddUp l.usage (usage (filter (is_among l.among) (classes_in l.left)))
      (usage (filter (is_among l.among) (classes_in l.rows.rows)));
  small : AllByRecursion IsSmallRow (classes_in l.left);
}

abbrev pub decreases-loop-row : goal.decreases-loop-row
decreases-loop-row l = length l.left
