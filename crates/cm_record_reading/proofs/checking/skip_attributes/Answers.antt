use Rattle.std.proofs.Common.{◌-◌, ◌+◌, arith}
use Rattle.cm_record_reading.specs.Reading.{left2, attributes_from}
use Rattle.cm_record_reading.proofs.Skips.{attributes_next, attributes_wrong, attributes_done}
use Rattle.cm_record_reading.proofs.checking.skip_attributes.Goals as goal

pub returns-in_err-behind-clause-left : goal.returns-in_err-behind-clause-left
returns-in_err-behind-clause-left c =
    rw c.from_residual.ensures
    (attributes_wrong c.args.total
    (left2 (attributes_from c.args.total c.args.count c.args.attributes.now c.args.runs.now))
    c.loop.attributes.now c.loop.runs.now
    (c.args.count - c.loop.counter) c.loop.invariant.kept (omega (arith, c.loop-test.true))
    c.in_err-behind.ensures.left)

pub loop-preserved : goal.loop-preserved
loop-preserved c = record {
  kept = attributes_next c.args.total
      (left2 (attributes_from c.args.total c.args.count c.args.attributes.now c.args.runs.now))
      c.loop.attributes.now c.loop.runs.now
      c.in_ok-behind.behind.now c.in_ok-behind.runs_behind.now
      (c.args.count - c.loop.counter) (c.args.count - (c.loop.counter + 1)) c.loop.invariant.kept
      (omega (arith, c.loop-test.true)) c.in_ok-behind.ensures.left;
  suffix = omega (arith, c.loop.invariant.suffix, c.in_ok-behind.ensures.suffixes.0);
  runs_suffix = omega (arith, c.loop.invariant.runs_suffix, c.in_ok-behind.ensures.suffixes.1);
}

pub returns-clause-left : goal.returns-clause-left
returns-clause-left c =
    attributes_done c.args.total
    (left2 (attributes_from c.args.total c.args.count c.args.attributes.now c.args.runs.now))
    c.loop.attributes.now c.loop.runs.now (c.args.count - c.loop.counter)
    c.loop.invariant.kept (omega (arith, c.loop-test.false))
