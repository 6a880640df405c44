use Rattle.cm_rules.specs.declared.rule.Rule.TheVariants as rules
use Rattle.cm_rules.specs.Fault.{first_of}
use Rattle.cm_rules.proofs.RulesInOrder.{is_broken, is_kept, all_kept}
use Rattle.cm_rules.proofs.read.first_of.Goals as goal

pub returns-in-Some : goal.returns-in-Some
returns-in-Some c =
    is_broken c.args.findings.now.class.now rules.Utf8Form c.args.rules.now c.loop-rule.rule-index
    c.in-Some.spot (first_of c.args.findings.now.class.now c.args.rules.now) c.loop-rule-test.true
    c.in-Some.ensures c.loop-rule.invariant

pub loop-rule-preserved : goal.loop-rule-preserved
loop-rule-preserved c =
    is_kept c.args.findings.now.class.now rules.Utf8Form c.args.rules.now c.loop-rule.rule-index
    (first_of c.args.findings.now.class.now c.args.rules.now) c.loop-rule-test.true
    c.in-None.ensures c.loop-rule.invariant

pub returns : goal.returns
returns c = all_kept c.args.findings.now.class.now rules.Utf8Form c.args.rules.now
    c.loop-rule.rule-index (first_of c.args.findings.now.class.now c.args.rules.now)
    c.loop-rule-test.false c.loop-rule.invariant
