use Rattle.std.proofs.Common.{◌≡◌, ◌≤◌, ◌++◌, drop, length, vec_capacity}
use Rattle.cm_index.specs.Sweep.{places_from}
use Rattle.cm_index.proofs.sweep.count_places.Given as goal

abbrev pub invariant-loop-slot : goal.invariant-loop-slot
invariant-loop-slot g l =
    record {
      places : l.places.items ++ places_from l.kept (drop l.slot-index l.slots)
          ≡ places_from 0 l.slots;
      count : length l.places.items ≡ l.slot-index;
      few : l.kept ≤ l.slot-index;
      capacity : vec_capacity l.fn.places ≤ vec_capacity l.places;
    }
