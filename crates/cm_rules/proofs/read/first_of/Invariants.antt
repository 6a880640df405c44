use Rattle.std.proofs.Common.{◌≡◌, drop}
use Rattle.cm_rules.specs.Fault.{first_of}
use Rattle.cm_rules.proofs.read.first_of.Given as goal

abbrev pub invariant-loop-rule : goal.invariant-loop-rule
invariant-loop-rule l =
    first_of l.findings.class.now (drop l.rule-index l.rules)
    ≡ first_of l.findings.class.now l.rules
