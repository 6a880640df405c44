use Rattle.std.proofs.Common.{◌≡◌, ◌≤◌, take, vec_capacity}
use Rattle.cm_index.specs.Living.{swept}
use Rattle.cm_rows.proofs.live_loader.copy_loaders.Given as goal

abbrev pub invariant-loop-slot : goal.invariant-loop-slot
invariant-loop-slot l =
    record {
      items_are : l.loaders.items ≡ swept (take l.slot-index l.others);
      capacity : vec_capacity l.initial.loaders ≤ vec_capacity l.loaders;
    }
