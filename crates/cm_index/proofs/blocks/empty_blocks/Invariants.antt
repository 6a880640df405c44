use Rattle.std.proofs.Common.{◌≡◌, ◌≤◌, length, vec_capacity}
use Rattle.std.specs.List.{AllByRecursion}
use Rattle.cm_index.proofs.blocks.empty_blocks.Given as goal

abbrev pub invariant-loop : goal.invariant-loop
invariant-loop l =
    record {
      empty : AllByRecursion (λ b. length b ≡ 0) l.blocks.items;
      count : length l.blocks.items ≡ l.counter;
      room : l.room ≤ vec_capacity l.blocks;
    }
