use Rattle.std.proofs.Common.{◌≡◌, ◌≤◌, vec_capacity}
use Rattle.std.specs.Arc.{arc_value}
use Rattle.cm_layout.specs.Offsets.{half_size}
use Rattle.cm_layout.specs.Rows.{bare, rows_with}
use Rattle.cm_layout.specs.Laws.{IsFramed}
use Rattle.cm_guards.specs.Calls.{LeavesOnly}
use Rattle.cm_guards.specs.Stages.{calls_left}
use Rattle.cm_commit.specs.Renewals.{MayRenew}
use Rattle.cm_commit.specs.Steps.{checkpoint_rest}
use Rattle.cm_commit.proofs.Renewals.{Stand}
use Rattle.cm_commit.proofs.renewal.make_calls.Given as goal

-- What holds of the disk if these steps are left; so far a crash left what is committed, and no
-- call failed.
abbrev pub invariant-loop-next : goal.invariant-loop-next
invariant-loop-next g l =
    let view = g.D.Disk.view in
    let rows = rows_with arc_value l.rows.rows in
    record {
      room : half_size l.journal.geometry ≤ vec_capacity l.buffer;
      stands : (may : MayRenew (view.contents l.fn.disk) (view.unsynced l.fn.disk) l.journal rows)
          → Stand (view.contents l.fn.disk) (view.unsynced l.fn.disk) l.journal rows may
          (checkpoint_rest l.journal (bare rows) l.next) (view.contents l.disk)
          (view.unsynced l.disk);
      images : LeavesOnly view l.fn.disk l.disk
          (λ image. IsFramed l.journal.geometry image rows l.journal.number);
      works : view.failures l.disk ≡ view.failures l.fn.disk;
    }

-- how many calls are left
abbrev pub decreases-loop-next : goal.decreases-loop-next
decreases-loop-next g l =
    calls_left (checkpoint_rest l.journal (bare (rows_with arc_value l.rows.rows)) l.next)
