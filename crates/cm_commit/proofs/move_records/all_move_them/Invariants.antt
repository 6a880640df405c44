use Rattle.std.proofs.Common.{[], take, drop}
use Rattle.std.specs.Prelude.{◌↔◌}
use Rattle.std.specs.Arc.{arc_value}
use Rattle.cm_layout.specs.Rows.{rows_with}
use Rattle.cm_commit.specs.Joining.{AllMoveThem}
use Rattle.cm_commit.proofs.move_records.all_move_them.Given as goal

abbrev pub invariant-loop-at : goal.invariant-loop-at
invariant-loop-at l =
    AllMoveThem (rows_with arc_value l.rows.rows) [] l.entries
    ↔ AllMoveThem (rows_with arc_value l.rows.rows) (take l.at l.entries) (drop l.at l.entries)
