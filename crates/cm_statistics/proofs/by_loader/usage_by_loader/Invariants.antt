use Rattle.std.proofs.Common.{◌≡◌, ◌++◌, length, map}
use Rattle.cm_layout.specs.Rows.{classes_in}
use Rattle.cm_statistics.specs.Usage.{usage_by_loader, loader_shown, loader_use, loaders_in}
use Rattle.cm_statistics.proofs.by_loader.usage_by_loader.Given as goal

-- the list and what is left make the whole list
abbrev pub invariant-loop-row : goal.invariant-loop-row
invariant-loop-row l =
    map loader_shown l.list.items
    ++ map (loader_use (classes_in l.rows.rows)) (loaders_in l.left)
    ≡ usage_by_loader l.rows.rows

abbrev pub decreases-loop-row : goal.decreases-loop-row
decreases-loop-row l = length l.left
