use Rattle.std.proofs.Common.{◌≡◌, ◌≤◌, length, take, map}
use Rattle.cm_plain_view.specs.Loaders.{loader_row}
use Rattle.cm_plain_view.proofs.opening.write_loaders.Given as goal

abbrev pub invariant-loop-at : goal.invariant-loop-at
invariant-loop-at l = record {
  written : map loader_row (take l.at l.to) ≡ take l.at l.from;
  room : length l.from ≤ length l.to;
}
