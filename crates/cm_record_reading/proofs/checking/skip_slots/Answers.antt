use Rattle.std.proofs.Common.{◌-◌, ◌+◌, false, arith}
use Rattle.cm_record_reading.specs.Reading.{left2, slots_at}
use Rattle.cm_record_reading.proofs.Skips.{slots_second, slots_next, slots_wrong, slots_cut}
use Rattle.cm_record_reading.proofs.Skips.{slots_done}
use Rattle.cm_record_reading.proofs.checking.skip_slots.Goals as goal

pub loop-preserved-then-second : goal.loop-preserved-then-second
loop-preserved-then-second c = record {
  kept = slots_second c.args.total
      (left2 (slots_at c.args.total false c.args.count c.args.main.now c.args.runs.now))
      c.loop.main.now c.loop.runs.now c.loop.second
      (c.args.count - c.loop.counter) (c.args.count - (c.loop.counter + 1)) c.loop.invariant.kept
      c.if-second.true (omega (arith, c.loop-test.true));
  suffix = c.loop.invariant.suffix;
}

pub returns-in_err-wide-clause-left : goal.returns-in_err-wide-clause-left
returns-in_err-wide-clause-left c =
    rw c.from_residual.ensures
    (slots_wrong c.args.total
    (left2 (slots_at c.args.total false c.args.count c.args.main.now c.args.runs.now))
    c.loop.main.now c.loop.runs.now c.loop.second
    (c.args.count - c.loop.counter) c.loop.invariant.kept c.if-second.false
    (omega (arith, c.loop-test.true)) c.in_err-wide.ensures.left)

pub loop-preserved : goal.loop-preserved
loop-preserved c = record {
  kept = slots_next c.args.total
      (left2 (slots_at c.args.total false c.args.count c.args.main.now c.args.runs.now))
      c.loop.main.now c.loop.runs.now c.loop.second
      c.in_ok-wide.main_behind.now c.in_ok-wide.runs_behind.now c.in_ok-wide.wide
      (c.args.count - c.loop.counter) (c.args.count - (c.loop.counter + 1)) c.loop.invariant.kept
      c.if-second.false (omega (arith, c.loop-test.true)) c.in_ok-wide.ensures.left;
  suffix = omega (arith, c.loop.invariant.suffix, c.in_ok-wide.ensures.suffix);
}

pub returns-then-second-2-clause-left : goal.returns-then-second-2-clause-left
returns-then-second-2-clause-left c =
    slots_cut c.args.total (left2
    (slots_at c.args.total false c.args.count c.args.main.now c.args.runs.now)) c.loop.main.now
    c.loop.runs.now c.loop.second (c.args.count - c.loop.counter)
    c.loop.invariant.kept c.if-second-2.true (omega (arith, c.loop-test.false))

pub returns-clause-left : goal.returns-clause-left
returns-clause-left c =
    slots_done c.args.total (left2
    (slots_at c.args.total false c.args.count c.args.main.now c.args.runs.now)) c.loop.main.now
    c.loop.runs.now c.loop.second (c.args.count - c.loop.counter)
    c.loop.invariant.kept c.if-second-2.false (omega (arith, c.loop-test.false))
