use Rattle.std.proofs.Common.{◌-◌, ◌≡◌, ◌<◌, true, ℕ, ◌||◌}
use Rattle.cm_pool.specs.Blocks.{is_in}
use Rattle.cm_pool.specs.Rows.{is_covered, AreBitRows}
use Rattle.cm_pool.proofs.Trees.{IsHole}
use Rattle.cm_pool.proofs.rows.give_back.Given as goal

abbrev pub invariant-loop-rows : goal.invariant-loop-rows
invariant-loop-rows l =
    record {
      hole : (limit : ℕ) → AreBitRows l.fn.top limit l.fn.rows.items → ((g : ℕ)
          → is_in l.fn.given g ≡ true → g < limit) → IsHole l.fn.top limit l.rows.items l.block;
      covered : (g : ℕ)
          → (is_in l.block g || is_covered l.rows.items g)
          ≡ (is_in l.fn.given g || is_covered l.fn.rows.items g);
    }

abbrev pub decreases-loop-rows : goal.decreases-loop-rows
decreases-loop-rows l = l.fn.top - l.block.order
