use Rattle.std.proofs.Common.{◌-◌, ◌<◌, ◌≤◌, length, take, drop}
use Rattle.std.specs.List.{AllByRecursion}
use Rattle.cm_index.specs.Index.{keys_at, Below, Above}
use Rattle.cm_index.specs.Sought.{key_sought}
use Rattle.cm_index.specs.Blocks.{joined}
use Rattle.cm_index.proofs.search.block_of.Given as goal

abbrev pub invariant-loop-above : goal.invariant-loop-above
invariant-loop-above g l =
    record {
      order : l.at < l.above;
      within : l.above ≤ length l.blocks;
      below : AllByRecursion (Below (key_sought g.P.Kept.name l.sought))
          (keys_at g.P.Kept.name l.slots (joined (take l.at l.blocks)));
      above : AllByRecursion (Above (key_sought g.P.Kept.name l.sought))
          (keys_at g.P.Kept.name l.slots (joined (drop l.above l.blocks)));
    }

abbrev pub decreases-loop-above : goal.decreases-loop-above
decreases-loop-above g l = l.above - l.at
