use Rattle.std.proofs.Common.{◌≡◌, ◌++◌, length}
use Rattle.cm_maintenance.specs.Listing.{shown, listing}
use Rattle.cm_maintenance.specs.Gathered.{by_bytes}
use Rattle.cm_maintenance.proofs.Orders.{listed_by}
use Rattle.cm_maintenance.proofs.listing.list.Given as goal

-- what is listed and what is left are all loaders
abbrev pub invariant-loop-name : goal.invariant-loop-name
invariant-loop-name l =
    shown l.list.items ++ listed_by l.classes (by_bytes l.numbers.entries) ≡ listing l.rows.rows

abbrev pub decreases-loop-name : goal.decreases-loop-name
decreases-loop-name l = length l.numbers.entries
