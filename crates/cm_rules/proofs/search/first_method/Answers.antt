use Rattle.std.proofs.Common.{◌∙◌, ap, rules}
use Rattle.cm_duplicates.specs.Duplicates.{first_failing}
use Rattle.cm_rules.specs.Fault.{method_constraint}
use Rattle.cm_rules.proofs.Elsewhere.{method_elsewhere, method_twice}
use Rattle.cm_rules.proofs.search.first_method.Goals as goal

pub returns-in-MethodTwice : goal.returns-in-MethodTwice
returns-in-MethodTwice c =
    c.args.findings.now.method_is ∙ method_twice c.args.findings.now.class.now c.args.rule
    c.in-MethodTwice.is

pub returns-in_default : goal.returns-in_default
returns-in_default c =
    let class = c.args.findings.now.class.now in
    let test = method_constraint c.args.rule class in
    c.first_failing.ensures.place test (λ item r ran. search rules)
    ∙ ap (first_failing (λ i m. test m) 0) c.methods.ensures
    ∙ method_elsewhere class c.args.rule c.in_default.not-MethodTwice
