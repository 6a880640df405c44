use Rattle.std.proofs.Common.{◌≡◌, drop, take, []}
use Rattle.std.specs.Arc.{arc_value}
use Rattle.cm_layout.specs.Rows.{rows_with}
use Rattle.cm_commit.specs.Joining.{are_new}
use Rattle.cm_commit.proofs.joining.are_new.Given as goal

abbrev pub invariant-loop-at : goal.invariant-loop-at
invariant-loop-at l =
    are_new (rows_with arc_value l.rows.rows) [] l.entries
    ≡ are_new (rows_with arc_value l.rows.rows) (take l.at l.entries) (drop l.at l.entries)
