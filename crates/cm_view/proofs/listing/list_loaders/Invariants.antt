use Rattle.std.proofs.Common.{◌≡◌, ◌++◌, length}
use Rattle.cm_view.specs.Listing.{loaders_in}
use Rattle.cm_view.proofs.listing.list_loaders.Given as goal

abbrev pub invariant-loop-row : goal.invariant-loop-row
invariant-loop-row l = l.loaders.items ++ loaders_in l.left ≡ loaders_in l.found.rows

abbrev pub decreases-loop-row : goal.decreases-loop-row
decreases-loop-row l = length l.left
