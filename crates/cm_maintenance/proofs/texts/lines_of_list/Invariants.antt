use Rattle.std.proofs.Common.{◌≡◌, take}
use Rattle.cm_maintenance.specs.Listing.{shown}
use Rattle.cm_maintenance.specs.Texts.{list_lines}
use Rattle.cm_maintenance.proofs.texts.lines_of_list.Given as goal

abbrev pub invariant-loop-loader : goal.invariant-loop-loader
invariant-loop-loader l = l.lines.items ≡ list_lines (shown (take l.loader-index l.loaders))
