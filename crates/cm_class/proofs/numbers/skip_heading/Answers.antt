use Rattle.std.proofs.lemmas.Result.{err_from_is_err_and}
use Rattle.cm_class.specs.Spelling.{heading}
use Rattle.cm_class.specs.Reading.{expected_at}
use Rattle.cm_class.proofs.Loops.{expected_goes_on, expected_ends, expected_done}
use Rattle.cm_class.proofs.numbers.skip_heading.Goals as goal

pub returns-in_err-rest : goal.returns-in_err-rest
returns-in_err-rest c =
    let p = err_from_is_err_and c.from_residual.result c.from_residual.ensures.1 in
    rw (p.1, p.2)
    (expected_ends c.in_err-rest.field-0.0 heading c.loop-expected.expected-index
    c.loop-expected.rest.now (expected_at heading c.args.bytes.now) c.loop-expected-test.true
    c.in_err-rest.ensures c.loop-expected.invariant)

pub loop-expected-preserved : goal.loop-expected-preserved
loop-expected-preserved c =
    expected_goes_on heading c.loop-expected.expected-index c.loop-expected.rest.now
    c.in_ok-rest.rest.now (expected_at heading c.args.bytes.now) c.loop-expected-test.true
    c.in_ok-rest.ensures c.loop-expected.invariant

pub returns : goal.returns
returns c = expected_done heading c.loop-expected.expected-index c.loop-expected.rest.now
    (expected_at heading c.args.bytes.now) c.loop-expected-test.false c.loop-expected.invariant
