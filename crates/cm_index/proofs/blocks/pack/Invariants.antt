use Rattle.std.proofs.Common.{◌≡◌, vec_capacity}
use Rattle.cm_index.specs.Blocks.{joined, room_of, AreBlocks}
use Rattle.cm_index.proofs.blocks.pack.Given as goal

abbrev pub invariant-loop-at : goal.invariant-loop-at
invariant-loop-at l =
    record {
      items : joined l.blocks.items ≡ joined l.fn.blocks.items;
      room : room_of l.blocks.items l.spare.items ≡ room_of l.fn.blocks.items l.fn.spare.items;
      blocks : AreBlocks l.at l.blocks.items l.spare.items (vec_capacity l.blocks)
          (vec_capacity l.spare);
    }

abbrev pub decreases-loop-at : goal.decreases-loop-at
decreases-loop-at l = l.at
