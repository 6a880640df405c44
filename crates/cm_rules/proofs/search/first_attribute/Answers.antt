use Rattle.cm_duplicates.specs.Duplicates.{first_failing}
use Rattle.cm_rules.specs.Fault.{attribute_rule}
use Rattle.cm_rules.proofs.Searches.{fails_next, passes_next, none_left}
use Rattle.std.proofs.Common.{ap, length, arith}
use Rattle.cm_rules.proofs.search.first_attribute.Goals as goal

pub returns-then-not-attribute_rule : goal.returns-then-not-attribute_rule
returns-then-not-attribute_rule c =
    fails_next (attribute_rule c.args.rule c.args.findings.now.class.now) c.loop-item.rest
    c.next.new.self c.loop-item.place c.in-Some.item
    (first_failing (attribute_rule c.args.rule c.args.findings.now.class.now) 0
    c.args.findings.now.class.now.attributes) c.in-Some.ensures.steps
    c.if-not-attribute_rule.ensures c.loop-item.invariant.so_far

pub loop-item-preserved : goal.loop-item-preserved
loop-item-preserved c = record {
  short = omega (arith, c.loop-item.invariant.short, ap length c.in-Some.ensures.steps);
  so_far = passes_next (attribute_rule c.args.rule c.args.findings.now.class.now) c.loop-item.rest
      c.next.new.self c.loop-item.place c.in-Some.item
      (first_failing (attribute_rule c.args.rule c.args.findings.now.class.now) 0
      c.args.findings.now.class.now.attributes) c.in-Some.ensures.steps
      c.if-not-attribute_rule.ensures c.loop-item.invariant.so_far;
}

pub returns : goal.returns
returns c =
    none_left (attribute_rule c.args.rule c.args.findings.now.class.now) c.loop-item.rest
    c.loop-item.place
    (first_failing (attribute_rule c.args.rule c.args.findings.now.class.now) 0
    c.args.findings.now.class.now.attributes) c.in_default.ensures.steps.0
    c.loop-item.invariant.so_far
