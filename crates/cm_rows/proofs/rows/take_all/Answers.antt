use Rattle.std.proofs.Common.{Bool, cond, ap, sym, ◌∙◌, arith}
use Rattle.cm_pool.specs.FreeSpace.{without}
use Rattle.cm_rows.proofs.Giving.{taken-more, passed-more}
use Rattle.cm_rows.proofs.rows.take_all.Goals as goal
use Rattle.cm_rows.proofs.rows.take_all.Goals.{in-Some, in_default}

pub loop-slot-preserved : goal.loop-slot-preserved
loop-slot-preserved g c =
    let p = c.loop-slot.pool in
    elim c.match-living_chunk.branch [
      | in-Some w ↦
          let taken =
          taken-more c.args.pool.now.geometry p c.args.slots.now c.loop-slot.slot-index
          c.slot-item.result w.in-Some.chunk (omega arith) c.slot-item.is
          (sym c.living_chunk.ensures ∙ w.in-Some.is) c.requires.apart c.loop-slot.invariant in
          let left = w.take-taken.ensures.left ∙ ap
          (λ (t : Bool). cond t (without p w.in-Some.chunk) p)
          (w.take-taken.ensures.free.1 taken.0) in
          rw (w.pool-is, left) taken.1
      | in_default w ↦
          rw (w.pool-is) (passed-more c.args.pool.now.geometry p c.args.slots.now
          c.loop-slot.slot-index c.slot-item.result (omega arith) c.slot-item.is
          (sym c.living_chunk.ensures ∙ w.in_default.is) c.loop-slot.invariant)
    ]
