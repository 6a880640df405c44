use Rattle.std.proofs.Common.{◌≡◌, ◌++◌, take, drop, map, vec_capacity}
use Rattle.cm_index.specs.Sweep.{shifted}
use Rattle.cm_index.proofs.sweep.move_up.Given as goal

abbrev pub invariant-loop-i : goal.invariant-loop-i
invariant-loop-i l =
    record {
      items : l.index.items ≡ map (shifted l.places) (take l.i l.initial.index.items)
          ++ drop l.i l.initial.index.items;
      capacity : vec_capacity l.index ≡ vec_capacity l.initial.index;
    }
