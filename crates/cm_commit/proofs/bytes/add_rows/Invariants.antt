use Rattle.std.proofs.Common.{◌≡◌, ◌≤◌, ◌++◌, length, vec_capacity}
use Rattle.std.specs.Arc.{arc_value}
use Rattle.std.specs.List.{flat_map}
use Rattle.cm_layout.specs.Slots.{row_slots}
use Rattle.cm_layout.specs.Rows.{bare, rows_with}
use Rattle.cm_commit.proofs.bytes.add_rows.Given as goal

-- what is put there, and the rows that are left, are all that was to be put
abbrev pub invariant-loop-row : goal.invariant-loop-row
invariant-loop-row l =
    record {
      bytes : l.buffer.items ++ flat_map row_slots l.left
          ≡ l.fn.buffer.items ++ flat_map row_slots (bare (rows_with arc_value l.rows.rows));
      room : vec_capacity l.fn.buffer ≤ vec_capacity l.buffer;
    }

abbrev pub decreases-loop-row : goal.decreases-loop-row
decreases-loop-row l = length l.left
