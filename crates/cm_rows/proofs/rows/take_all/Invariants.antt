use Rattle.std.proofs.Common.{take}
use Rattle.cm_layout.specs.Rows.{classes_in}
use Rattle.cm_index.specs.Living.{living}
use Rattle.cm_rows.specs.Held.{PoolHolds, first_chunks}
use Rattle.cm_rows.proofs.rows.take_all.Given as goal

abbrev pub invariant-loop-slot : goal.invariant-loop-slot
invariant-loop-slot g l =
    PoolHolds l.initial.pool.geometry l.pool
    (first_chunks (classes_in (living (take l.slot-index l.slots))))
