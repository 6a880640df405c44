use Rattle.std.proofs.Common.{◌≡◌, ℕ, ◌+◌, ◌<◌}
use Rattle.cm_statistics.specs.Unused.{HasUnusedIn}
use Rattle.cm_statistics.proofs.unused.has_unused.Given as goal

-- none of the roots visited, the last ones, has one
abbrev pub invariant-loop-before : goal.invariant-loop-before
invariant-loop-before l = record {
  same : l.rows ≡ l.fn.rows;
  none : (root : ℕ) → root < l.geometry.roots → l.geometry.roots < root + l.before + 1
      → ¬ HasUnusedIn l.fn.rows l.order root;
}
