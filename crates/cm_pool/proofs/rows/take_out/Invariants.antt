use Rattle.std.proofs.Common.{◌-◌, ◌≡◌, ℕ, ◌||◌}
use Rattle.cm_pool.specs.Blocks.{is_in, Inside}
use Rattle.cm_pool.specs.Rows.{is_covered, AreBitRows}
use Rattle.cm_pool.proofs.Trees.{IsHole}
use Rattle.cm_pool.proofs.rows.take_out.Given as goal

abbrev pub invariant-loop-block : goal.invariant-loop-block
invariant-loop-block l =
    record {
      hole : (top limit : ℕ) → AreBitRows top limit l.fn.rows.items
          → IsHole top limit l.rows.items l.block;
      inside : Inside l.wanted l.block;
      covered : (g : ℕ)
          → (is_in l.block g || is_covered l.rows.items g) ≡ is_covered l.fn.rows.items g;
    }

abbrev pub decreases-loop-block : goal.decreases-loop-block
decreases-loop-block l = l.block.order - l.wanted.order
