use Rattle.std.proofs.Common.{not, sym, ap, ◌∙◌}
use Rattle.cm_descriptors.specs.Marks.{is_no_stop}
use Rattle.cm_descriptors.proofs.FirstStop.{passes_on, stops_at, all_passed}
use Rattle.cm_descriptors.proofs.stops.first_stop_of_few.Goals as goal

pub returns-then-is_stop : goal.returns-then-is_stop
returns-then-is_stop c =
    stops_at is_no_stop c.loop-place.place c.args.bytes.now c.loop-place.invariant
    (sym c.is_stop.ensures ∙ ap not c.if-is_stop.true)

pub loop-place-preserved : goal.loop-place-preserved
loop-place-preserved c =
    passes_on is_no_stop c.loop-place.place c.args.bytes.now c.loop-place.invariant
    c.loop-place-test.true (sym c.is_stop.ensures ∙ ap not c.if-is_stop.false)

pub returns : goal.returns
returns c = all_passed is_no_stop c.loop-place.place c.args.bytes.now c.loop-place.invariant
    c.loop-place-test.false
