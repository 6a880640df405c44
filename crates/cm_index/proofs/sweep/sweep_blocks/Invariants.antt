use Rattle.std.proofs.Common.{◌≡◌, ◌++◌, take, drop, map, vec_capacity}
use Rattle.cm_index.specs.Sweep.{swept_entries}
use Rattle.cm_index.proofs.sweep.sweep_blocks.Given as goal

abbrev pub invariant-loop-at : goal.invariant-loop-at
invariant-loop-at g l =
    record {
      blocks : l.blocks.items ≡ map (swept_entries l.slots l.places)
          (take l.at l.initial.blocks.items) ++ drop l.at l.initial.blocks.items;
      capacity : vec_capacity l.blocks ≡ vec_capacity l.initial.blocks;
    }
