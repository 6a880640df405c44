use Rattle.std.proofs.Common.{refl}
use Rattle.std.proofs.lemmas.Result.{err_from_is_err_and}
use Rattle.cm_class.proofs.Sinks.{second_fills, usable_fills, slots_refuse, slots_full}
use Rattle.cm_class.proofs.pool.slots.Goals as goal
use Rattle.cm_class.proofs.pool.slots.Goals.{then-second+in_ok-push}
use Rattle.cm_class.proofs.pool.slots.Goals.{else-second+in_ok-item+in_ok-push-2}

pub returns-in_err-item : goal.returns-in_err-item
returns-in_err-item g c =
    let p = err_from_is_err_and c.from_residual-in_err-item.result
    c.from_residual-in_err-item.ensures.1 in
    let so_far = rw c.if-second.false at c.loop-index.invariant in
    rw (p.1, p.2)
    (slots_refuse c.args.count c.loop-index.index c.loop-index.rest.now c.in_err-item.field-0.0
    c.loop-index-test.true so_far c.in_err-item.ensures)

pub loop-index-preserved : goal.loop-index-preserved
loop-index-preserved g c = elim c.if-second.branch [
  | then-second+in_ok-push w ↦
      let so_far = rw w.if-second.true at c.loop-index.invariant in
      rw (w.slots-is, w.second-is, w.rest-is)
      (second_fills c.args.count c.loop-index.index c.loop-index.rest.now
      w.push.new.list.items c.loop-index-test.true so_far w.in_ok-push.ensures.kept)
  | else-second+in_ok-item+in_ok-push-2 w ↦
      let so_far = rw w.if-second.false at c.loop-index.invariant in
      rw (w.slots-is, w.second-is, w.rest-is, w.is_wide-second.ensures)
      (usable_fills c.args.count c.loop-index.index c.loop-index.rest.now w.in_ok-item.item
      w.in_ok-item.after.now w.push-else-second.new.list.items c.loop-index-test.true so_far
      w.in_ok-item.ensures w.in_ok-push-2.ensures.kept)
]

pub returns : goal.returns
returns g c =
    slots_full c.args.count c.loop-index.index c.loop-index.rest.now c.loop-index.second
    (λ x. (x.0.items, x.1.now)) (c.loop-index.slots, c.loop-index.rest) c.loop-index-test.false
    c.loop-index.invariant refl
