use Rattle.std.proofs.Common.{drop}
use Rattle.cm_layout.specs.Rows.{classes_in}
use Rattle.cm_index.specs.Living.{living}
use Rattle.cm_rows.specs.Held.{PoolHolds, first_chunks}
use Rattle.cm_rows.proofs.rows.give_all.Given as goal

abbrev pub invariant-loop-slot : goal.invariant-loop-slot
invariant-loop-slot g l =
    PoolHolds l.initial.pool.geometry l.pool
    (first_chunks (classes_in (living (drop l.slot-index l.slots))))
