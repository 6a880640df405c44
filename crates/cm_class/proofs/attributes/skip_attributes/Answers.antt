use Rattle.std.proofs.Common.{ap}
use Rattle.std.proofs.lemmas.Result.{err_from_is_err_and}
use Rattle.cm_class.specs.Reading.{rest_of, many_at, attribute_at}
use Rattle.cm_class.proofs.Walks.{walk_on, walk_stops, walk_done}
use Rattle.cm_class.proofs.attributes.skip_attributes.Goals as goal

pub returns-in_err-after : goal.returns-in_err-after
returns-in_err-after c =
    let p = err_from_is_err_and c.from_residual.result c.from_residual.ensures.1 in
    rw (p.1, p.2)
    (walk_stops attribute_at c.in_err-after.field-0.0 c.args.count c.loop.counter c.loop.rest.now
    (rest_of (many_at attribute_at c.args.count c.args.bytes.now)) c.loop-test.true
    (ap rest_of c.in_err-after.ensures) c.loop.invariant)

pub loop-preserved : goal.loop-preserved
loop-preserved c =
    walk_on attribute_at c.args.count c.loop.counter c.loop.rest.now c.in_ok-after.after.now
    (rest_of (many_at attribute_at c.args.count c.args.bytes.now)) c.loop-test.true
    (ap rest_of c.in_ok-after.ensures) c.loop.invariant

pub returns : goal.returns
returns c =
    walk_done attribute_at c.args.count c.loop.counter c.loop.rest.now
    (rest_of (many_at attribute_at c.args.count c.args.bytes.now)) c.loop-test.false
    c.loop.invariant
