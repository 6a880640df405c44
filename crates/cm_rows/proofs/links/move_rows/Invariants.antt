use Rattle.std.proofs.Common.{◌≡◌, vec_capacity}
use Rattle.cm_rows.specs.Links.{LinksBack, places_left}
use Rattle.cm_rows.proofs.Moving.{MovesOn}
use Rattle.cm_rows.proofs.links.move_rows.Given as goal

abbrev pub invariant-loop-next : goal.invariant-loop-next
invariant-loop-next g l =
    record {
      moves : MovesOn l.loader l.last.chunk l.to l.initial.slots.items l.slots.items l.next;
      goes : LinksBack l.initial.slots.items l.before l.last.chunk l.next l.left;
      capacity : vec_capacity l.slots ≡ vec_capacity l.initial.slots;
    }

abbrev pub decreases-loop-next : goal.decreases-loop-next
decreases-loop-next g l = places_left l.next
