use Rattle.std.proofs.Common.{◌≡◌, ◌+◌, length, map, vec_capacity}
use Rattle.cm_layout.specs.Rows.{classes_in, slots_of_rows}
use Rattle.cm_index.specs.Living.{living, unloaded}
use Rattle.cm_rows.specs.Held.{PoolHolds, first_chunks}
use Rattle.cm_rows.specs.Links.{AreLinked, last_place, places_left}
use Rattle.cm_rows.proofs.links.unload_rows.Given as goal

abbrev pub invariant-loop-next : goal.invariant-loop-next
invariant-loop-next g l =
    record {
      same : map (unloaded l.loader) l.slots.items ≡ map (unloaded l.loader) l.initial.slots.items;
      linked : AreLinked l.slots.items l.before;
      next : l.next ≡ last_place l.loader l.slots.items;
      holds : PoolHolds l.initial.pool.geometry l.pool
          (first_chunks (classes_in (living l.slots.items)));
      rows : length (living l.slots.items) + l.count ≡ length (living l.initial.slots.items);
      taken : slots_of_rows (living l.slots.items) + l.taken
          ≡ slots_of_rows (living l.initial.slots.items);
      capacity : vec_capacity l.slots ≡ vec_capacity l.initial.slots;
    }

abbrev pub decreases-loop-next : goal.decreases-loop-next
decreases-loop-next g l = places_left l.next
