use Rattle.std.proofs.Common.{sym, ◌∙◌, arith}
use Rattle.cm_rows.proofs.Giving.{given-more, given-used, left-more}
use Rattle.cm_rows.proofs.rows.give_all.Goals as goal
use Rattle.cm_rows.proofs.rows.give_all.Goals.{in-Some, in_default}

pub give-requires : goal.give-requires
give-requires g c =
    given-used c.args.pool.now.geometry c.loop-slot.pool c.args.slots.now c.loop-slot.slot-index
    c.slot-item.result c.in-Some.chunk (omega arith) c.slot-item.is (sym c.in-Some.ensures)
    c.loop-slot.invariant

pub loop-slot-preserved : goal.loop-slot-preserved
loop-slot-preserved g c =
    elim c.match-living_chunk.branch [
      | in-Some w ↦
          rw (w.pool-is, w.give.ensures)
          (given-more c.args.pool.now.geometry c.loop-slot.pool c.args.slots.now
          c.loop-slot.slot-index c.slot-item.result w.in-Some.chunk (omega arith) c.slot-item.is
          (sym w.in-Some.ensures) c.loop-slot.invariant)
      | in_default w ↦
          rw (w.pool-is) (left-more c.args.pool.now.geometry c.loop-slot.pool c.args.slots.now
          c.loop-slot.slot-index c.slot-item.result (omega arith) c.slot-item.is
          (sym c.living_chunk.ensures ∙ w.in_default.is) c.loop-slot.invariant)
    ]
