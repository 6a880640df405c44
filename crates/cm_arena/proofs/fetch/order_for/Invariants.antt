use Rattle.std.proofs.Common.{ℕ, ◌≤◌, ◌-◌, ◌<◌}
use Rattle.cm_pool.specs.Chunks.{chunk_size}
use Rattle.cm_arena.proofs.fetch.order_for.Given as goal

abbrev pub invariant-loop-order : goal.invariant-loop-order
invariant-loop-order l =
    record {
      small : l.order ≤ 12;
      less : (order : ℕ) → order < l.order → chunk_size order < l.words;
    }

abbrev pub decreases-loop-order : goal.decreases-loop-order
decreases-loop-order l = 12 - l.order
