use Rattle.std.proofs.Common.{◌≡◌}
use Rattle.cm_layout.specs.Rows.{kept_on}
use Rattle.cm_rows.specs.Links.{LinksBack, rows_to, places_left}
use Rattle.cm_rows.proofs.last_kept.newest_on.Given as goal

abbrev pub invariant-loop-next : goal.invariant-loop-next
invariant-loop-next g l =
    record {
      goes : LinksBack l.slots l.before l.last.chunk l.next l.last.used;
      kept : kept_on l.last.chunk (rows_to l.fn.from l.slots)
          ≡ kept_on l.last.chunk (rows_to l.next l.slots);
    }

abbrev pub decreases-loop-next : goal.decreases-loop-next
decreases-loop-next g l = places_left l.next
