use Rattle.std.proofs.Common.{◌∙◌, ap, rules}
use Rattle.cm_duplicates.specs.Duplicates.{first_failing}
use Rattle.cm_rules.specs.Fault.{field_constraint}
use Rattle.cm_rules.proofs.Elsewhere.{field_elsewhere, field_twice}
use Rattle.cm_rules.proofs.search.first_field.Goals as goal

pub returns-in-FieldTwice : goal.returns-in-FieldTwice
returns-in-FieldTwice c =
    c.args.findings.now.field_is ∙ field_twice c.args.findings.now.class.now c.args.rule
    c.in-FieldTwice.is

pub returns-in_default : goal.returns-in_default
returns-in_default c =
    let class = c.args.findings.now.class.now in
    let test = field_constraint c.args.rule class in
    c.first_failing.ensures.place test (λ item r ran. search rules)
    ∙ ap (first_failing (λ i m. test m) 0) c.fields.ensures
    ∙ field_elsewhere class c.args.rule c.in_default.not-FieldTwice
