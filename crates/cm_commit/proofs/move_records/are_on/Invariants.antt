use Rattle.std.proofs.Common.{◌≡◌, ◌≤◌, map, length, take}
use Rattle.std.specs.Prelude.{◌↔◌}
use Rattle.std.specs.Arc.{arc_value}
use Rattle.cm_layout.specs.Rows.{rows_with}
use Rattle.cm_commit.specs.Joining.{committed_on, records_on, records_after}
use Rattle.cm_commit.proofs.move_records.are_on.Given as goal

abbrev pub invariant-loop-count : goal.invariant-loop-count
invariant-loop-count l =
    record {
      within : l.count ≤ length l.fn.before;
      same : (map arc_value l.fn.records
          ≡ records_on (rows_with arc_value l.fn.rows.rows) l.fn.before l.fn.entry.loader
          l.fn.entry.from)
          ↔ (map arc_value l.left
          ≡ records_after l.fn.entry.from
          (committed_on l.fn.entry.loader l.fn.entry.from (rows_with arc_value l.fn.rows.rows))
          (take l.count l.fn.before));
    }

abbrev pub decreases-loop-count : goal.decreases-loop-count
decreases-loop-count l = l.count
