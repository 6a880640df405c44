use Rattle.std.proofs.Common.{ℕ, length, filter, ◌==◌}
use Rattle.std.specs.List.{AllByRecursion}
use Rattle.cm_layout.specs.Rows.{classes_in}
use Rattle.cm_statistics.specs.Usage.{usage, usage_kept, key_of, AddUp, IsSmallRow}
use Rattle.cm_statistics.proofs.counting.count_by.Given as goal

-- for each number, what was counted and what is left make all
abbrev pub invariant-loop-row : goal.invariant-loop-row
invariant-loop-row l = record {
  adds : (k : ℕ) → AddUp (usage_kept l.counted k)
      (usage (filter (λ r. key_of l.by r == k) (classes_in l.left)))
      (usage (filter (λ r. key_of l.by r == k) (classes_in l.rows.rows)));
  small : AllByRecursion IsSmallRow (classes_in l.left);
}

abbrev pub decreases-loop-row : goal.decreases-loop-row
decreases-loop-row l = length l.left
