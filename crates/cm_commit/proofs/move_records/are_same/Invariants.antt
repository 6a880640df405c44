use Rattle.std.proofs.Common.{◌≡◌, map, length}
use Rattle.std.specs.Prelude.{◌↔◌}
use Rattle.std.specs.Arc.{arc_value}
use Rattle.cm_commit.proofs.move_records.are_same.Given as goal

abbrev pub invariant-loop-last : goal.invariant-loop-last
invariant-loop-last l =
    (map arc_value l.fn.records ≡ map arc_value l.fn.others)
    ↔ (map arc_value l.left ≡ map arc_value l.behind)

abbrev pub decreases-loop-last : goal.decreases-loop-last
decreases-loop-last l = length l.behind
