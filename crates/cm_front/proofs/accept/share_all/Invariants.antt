use Rattle.std.proofs.Common.{◌≡◌, ◌++◌, map, length, reverse}
use Rattle.std.specs.Arc.{arc_value}
use Rattle.cm_front.proofs.accept.share_all.Given as goal

abbrev pub invariant-loop-class : goal.invariant-loop-class
invariant-loop-class l = l.fn.kept ≡ l.left ++ reverse (map arc_value l.shared.items)

abbrev pub decreases-loop-class : goal.decreases-loop-class
decreases-loop-class l = length l.left
