use Rattle.std.proofs.Common.{◌≡◌, ℕ, ◌+◌, ◌<◌}
use Rattle.cm_statistics.specs.Unused.{HasUnused}
use Rattle.cm_statistics.proofs.unused.largest_unused.Given as goal

-- there is none of the orders visited, the greatest ones
abbrev pub invariant-loop-below : goal.invariant-loop-below
invariant-loop-below l = record {
  same : l.rows ≡ l.fn.rows;
  none : (order : ℕ) → l.geometry.top < order + l.below → ¬ HasUnused l.fn.rows order;
}
