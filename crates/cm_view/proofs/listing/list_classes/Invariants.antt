use Rattle.std.proofs.Common.{length}
use Rattle.cm_view.proofs.Listings.{IsListing}
use Rattle.cm_view.proofs.listing.list_classes.Given as goal

abbrev pub invariant-loop-row : goal.invariant-loop-row
invariant-loop-row l = record {
  listing : IsListing l.bytes l.geometry l.found.rows l.left l.rows.items;
}

abbrev pub decreases-loop-row : goal.decreases-loop-row
decreases-loop-row l = length l.left
