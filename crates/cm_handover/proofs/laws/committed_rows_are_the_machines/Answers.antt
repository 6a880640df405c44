use Rattle.cm_handover.proofs.Making.{committed}
use Rattle.cm_handover.proofs.Fronts.{commands_are_counted, rows_are_after, opened_follows}
use Rattle.cm_handover.proofs.laws.committed_rows_are_the_machines.Goals as goal

pub returns : goal.returns
returns c = record {
  committed = committed c.entries_are_steps.ensures.classes c.changes_go_on.ensures.behind;
  counted = commands_are_counted;
  rows = rows_are_after;
  opened = opened_follows;
}
