use Rattle.std.proofs.Common.{◌≡◌, length, take, vec_capacity}
use Rattle.std.specs.List.{AllByRecursion}
use Rattle.cm_index.proofs.blocks.clear_each.Given as goal

abbrev pub invariant-loop-at : goal.invariant-loop-at
invariant-loop-at l =
    record {
      cleared : AllByRecursion (λ b. length b ≡ 0) (take l.at l.blocks.items);
      count : length l.blocks.items ≡ length l.fn.blocks.items;
      capacity : vec_capacity l.blocks ≡ vec_capacity l.fn.blocks;
    }
