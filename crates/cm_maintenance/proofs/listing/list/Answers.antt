use Rattle.std.proofs.Common.{List, ap, ◌++◌, ◌∙◌}
use Rattle.cm_maintenance.specs.declared.listing.ListedLoader.{ListedLoader}
use Rattle.cm_maintenance.specs.Listing.{shown}
use Rattle.cm_maintenance.specs.Gathered.{by_bytes}
use Rattle.cm_maintenance.proofs.Orders.{listed, listed_by}
use Rattle.cm_maintenance.proofs.listing.list.Goals as goal

pub loop-name-init : goal.loop-name-init
loop-name-init c =
    let g = c.in_ok-numbers.field-0 in
    ap (λ (l : List ListedLoader). shown l ++ listed_by g.classes (by_bytes g.numbers.entries))
    c.new-list.ensures.items
    ∙ listed c.args.rows.now.rows g c.in_ok-numbers.ensures
