use Rattle.cm_duplicates.proofs.Repeating.{repeats_none, repeats_same, repeats_more}
use Rattle.cm_duplicates.proofs.repeated.repeats_in.Goals as goal
use Rattle.cm_duplicates.proofs.repeated.repeats_in.Goals.{then-sorted-place+in_ok-push}
use Rattle.cm_duplicates.proofs.repeated.repeats_in.Goals.{else-sorted-place}

pub loop-place-init : goal.loop-place-init
loop-place-init c = rw c.new-repeated.ensures.items (repeats_none c.args.sorted.now)

pub loop-place-preserved : goal.loop-place-preserved
loop-place-preserved c =
    let sorted = c.args.sorted.now in
    let place = c.loop-place.place in
    let before = c.loop-place.repeated.items in
    elim c.if-sorted-place.branch [
      | then-sorted-place+in_ok-push w ↦ rw (w.repeated-is, w.in_ok-push.ensures.items)
          (repeats_more sorted c.requires before place c.loop-place.auto.place
          c.loop-place-test.true c.loop-place.invariant w.if-sorted-place.true)
      | else-sorted-place w ↦ rw w.repeated-is
          (repeats_same sorted c.requires before place c.loop-place.auto.place
          c.loop-place-test.true c.loop-place.invariant w.if-sorted-place.false)
    ]
