use Rattle.std.proofs.Common.{◌≡◌, ◌+◌, ◌≤◌, length}
use Rattle.cm_layout.specs.Rows.{numbers_in, classes_in}
use Rattle.cm_maintenance.specs.Report.{first_records}
use Rattle.cm_maintenance.proofs.report.count.Given as goal

-- what is counted and what is left are all rows
abbrev pub invariant-loop-row : goal.invariant-loop-row
invariant-loop-row l = record {
  loaders : l.report.loaders + length (numbers_in l.left) ≡ length (numbers_in l.rows.rows);
  classes : l.report.classes + length (classes_in l.left) ≡ length (classes_in l.rows.rows);
  chunks : l.report.chunks + first_records (classes_in l.left)
      ≡ first_records (classes_in l.rows.rows);
  few : l.report.chunks ≤ l.report.classes;
  number : l.report.number ≡ l.number;
}

abbrev pub decreases-loop-row : goal.decreases-loop-row
decreases-loop-row l = length l.left
