use Rattle.std.proofs.Common.{◌-◌, ◌+◌, false, arith}
use Rattle.std.specs.List.{flat_map}
use Rattle.std.proofs.lemmas.Result.{err_from_is_err_and}
use Rattle.cm_class.specs.Spelling.{slot_bytes}
use Rattle.cm_record_reading.specs.Reading.{constant_at, slots_at, behind3, constant_behind}
use Rattle.cm_record_reading.proofs.Turns.{slots_second, slots_next, slots_wrong, slots_cut}
use Rattle.cm_record_reading.proofs.Turns.{slots_done, fails_through}
use Rattle.cm_record_reading.proofs.spelling.spell_slots.Goals as goal

pub loop-preserved-then-second : goal.loop-preserved-then-second
loop-preserved-then-second c = record {
  kept = slots_second c.args.total c.loop.out.items
      (behind3 c.args.out.now.items (flat_map slot_bytes)
      (slots_at c.args.total false c.args.count c.args.main.now c.args.runs.now)) c.loop.main.now
      c.loop.runs.now c.loop.second
      (c.args.count - c.loop.counter) (c.args.count - (c.loop.counter + 1)) c.loop.invariant.kept
      c.if-second.true (omega (arith, c.loop-test.true));
  suffix = c.loop.invariant.suffix;
}

pub returns-in_err-wide-clause-read : goal.returns-in_err-wide-clause-read
returns-in_err-wide-clause-read c =
    let all = behind3 c.args.out.now.items (flat_map slot_bytes)
    (slots_at c.args.total false c.args.count c.args.main.now c.args.runs.now) in
    let p = err_from_is_err_and c.from_residual.result c.from_residual.ensures.1 in
    rw (p.1, p.2) (fails_through c.in_err-wide.field-0.0
    (constant_behind c.loop.out.items
    (constant_at c.args.total c.loop.main.now c.loop.runs.now)) all
    (slots_wrong c.args.total c.loop.out.items all c.loop.main.now c.loop.runs.now c.loop.second
    (c.args.count - c.loop.counter) c.loop.invariant.kept c.if-second.false
    (omega (arith, c.loop-test.true)))
    c.in_err-wide.ensures.read)

pub loop-preserved : goal.loop-preserved
loop-preserved c = record {
  kept = slots_next c.args.total c.loop.out.items
      (behind3 c.args.out.now.items (flat_map slot_bytes)
      (slots_at c.args.total false c.args.count c.args.main.now c.args.runs.now)) c.loop.main.now
      c.loop.runs.now c.loop.second c.spell_constant.new.out.items
      c.in_ok-wide.main_behind.now c.in_ok-wide.runs_behind.now c.in_ok-wide.wide
      (c.args.count - c.loop.counter) (c.args.count - (c.loop.counter + 1)) c.loop.invariant.kept
      c.if-second.false (omega (arith, c.loop-test.true)) c.in_ok-wide.ensures.read;
  suffix = omega (arith, c.loop.invariant.suffix, c.in_ok-wide.ensures.suffix);
}

pub returns-then-second-2-clause-read : goal.returns-then-second-2-clause-read
returns-then-second-2-clause-read c =
    slots_cut c.args.total c.loop.out.items
    (behind3 c.args.out.now.items (flat_map slot_bytes)
    (slots_at c.args.total false c.args.count c.args.main.now c.args.runs.now)) c.loop.main.now
    c.loop.runs.now c.loop.second (c.args.count - c.loop.counter)
    c.loop.invariant.kept c.if-second-2.true (omega (arith, c.loop-test.false))

pub returns-clause-read : goal.returns-clause-read
returns-clause-read c =
    slots_done c.args.total c.loop.out.items
    (behind3 c.args.out.now.items (flat_map slot_bytes)
    (slots_at c.args.total false c.args.count c.args.main.now c.args.runs.now)) c.loop.main.now
    c.loop.runs.now c.loop.second (c.args.count - c.loop.counter)
    c.loop.invariant.kept c.if-second-2.false (omega (arith, c.loop-test.false))
