use Rattle.std.proofs.Common.{◌≡◌, ℕ, ◌<◌, ◌*◌, false}
use Rattle.cm_statistics.specs.Unused.{is_free, chunk_from}
use Rattle.cm_statistics.proofs.unused.has_unused_in.Given as goal

-- none of those visited is free
abbrev pub invariant-loop-index : goal.invariant-loop-index
invariant-loop-index l = record {
  same : l.rows ≡ l.fn.rows;
  none : (j : ℕ) → j < l.index
      → is_free l.fn.rows (chunk_from l.order l.root (j * l.size)) ≡ false;
}
