use Rattle.std.proofs.Common.{◌≡◌, ◌-◌, ◌+◌, arith}
use Rattle.std.proofs.lemmas.Result.{err_from_is_err_and}
use Rattle.cm_class.specs.Spelling.{attribute_bytes, counted}
use Rattle.cm_record_reading.specs.Reading.{attribute_at, attributes_from, behind3}
use Rattle.cm_record_reading.proofs.Counts.{attributes_many}
use Rattle.cm_record_reading.proofs.Turns.{behind3-counted, attributes_next, attributes_wrong}
use Rattle.cm_record_reading.proofs.Turns.{attributes_done, fails_through}
use Rattle.cm_record_reading.proofs.spelling.spell_attributes.Goals as goal

pub loop-init : goal.loop-init
loop-init c =
    let all : c.args.count - 0 ≡ c.args.count = omega arith in
    let n = c.args.count in
    let attrs = c.args.attributes.now in
    let runs = c.args.runs.now in
    record {
      kept = rw all
          (behind3-counted attribute_bytes c.args.out.now.items c.put_u16.new.out.items n
          (attributes_from c.args.total n attrs runs) c.in_ok-put_u16.ensures
          (λ x found. attributes_many c.args.total n attrs runs x found));
      suffix = omega arith;
      runs_suffix = omega arith;
    }

pub returns-in_err-following-clause-read : goal.returns-in_err-following-clause-read
returns-in_err-following-clause-read c =
    let all = behind3 c.args.out.now.items (counted attribute_bytes)
    (attributes_from c.args.total c.args.count c.args.attributes.now c.args.runs.now) in
    let p = err_from_is_err_and c.from_residual-in_err-following.result
    c.from_residual-in_err-following.ensures.1 in
    rw (p.1, p.2) (fails_through c.in_err-following.field-0.0
    (behind3 c.loop.out.items attribute_bytes
    (attribute_at c.args.total c.loop.attributes.now c.loop.runs.now)) all
    (attributes_wrong c.args.total c.loop.out.items all c.loop.attributes.now c.loop.runs.now
    (c.args.count - c.loop.counter) c.loop.invariant.kept (omega (arith, c.loop-test.true)))
    c.in_err-following.ensures.read)

pub loop-preserved : goal.loop-preserved
loop-preserved c = record {
  kept = attributes_next c.args.total c.loop.out.items
      (behind3 c.args.out.now.items (counted attribute_bytes)
      (attributes_from c.args.total c.args.count c.args.attributes.now c.args.runs.now))
      c.loop.attributes.now c.loop.runs.now c.spell_attribute.new.out.items
      c.in_ok-following.following.now c.in_ok-following.runs_behind.now
      (c.args.count - c.loop.counter) (c.args.count - (c.loop.counter + 1)) c.loop.invariant.kept
      (omega (arith, c.loop-test.true)) c.in_ok-following.ensures.read;
  suffix = omega (arith, c.loop.invariant.suffix, c.in_ok-following.ensures.suffixes.0);
  runs_suffix = omega (arith, c.loop.invariant.runs_suffix, c.in_ok-following.ensures.suffixes.1);
}

pub returns-clause-read : goal.returns-clause-read
returns-clause-read c =
    attributes_done c.args.total c.loop.out.items
    (behind3 c.args.out.now.items (counted attribute_bytes)
    (attributes_from c.args.total c.args.count c.args.attributes.now c.args.runs.now))
    c.loop.attributes.now c.loop.runs.now (c.args.count - c.loop.counter)
    c.loop.invariant.kept (omega (arith, c.loop-test.false))
