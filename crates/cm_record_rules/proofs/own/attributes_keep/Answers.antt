use Rattle.std.proofs.Common.{ap, length, sym, arith}
use Rattle.cm_duplicates.specs.Duplicates.{first_failing}
use Rattle.cm_rules.specs.Kept.{attribute_keeps}
use Rattle.cm_rules.proofs.{passes_next, none_left}
use Rattle.cm_record_rules.proofs.own.attributes_keep.Goals as goal

pub loop-item-preserved : goal.loop-item-preserved
loop-item-preserved c = record {
  short = omega (arith, c.loop-item.invariant.short, ap length c.in-Some.ensures.steps);
  so_far = passes_next (attribute_keeps c.args.class.now) c.loop-item.rest c.next.new.self
      c.loop-item.place c.in-Some.item
      (first_failing (attribute_keeps c.args.class.now) 0 c.args.class.now.attributes)
      c.in-Some.ensures.steps c.if-not-attribute_keeps.ensures c.loop-item.invariant.so_far;
}

pub returns : goal.returns
returns c = λ _.
    sym (none_left (attribute_keeps c.args.class.now) c.loop-item.rest c.loop-item.place
    (first_failing (attribute_keeps c.args.class.now) 0 c.args.class.now.attributes)
    c.in_default.ensures.steps.0 c.loop-item.invariant.so_far)
