use Rattle.std.proofs.Common.{◌∙◌, ap, rules}
use Rattle.cm_duplicates.specs.Duplicates.{first_failing}
use Rattle.cm_constraints.specs.Constants.{in_slot}
use Rattle.cm_rules.specs.Fault.{pool_rule}
use Rattle.cm_rules.proofs.search.first_slot.Goals as goal

pub returns-clause-place : goal.returns-clause-place
returns-clause-place c =
    let test = in_slot (pool_rule c.args.rule c.args.findings.now.class.now) in
    c.first_failing.ensures.place test (λ item r ran. search rules)
    ∙ ap (first_failing (λ i slot. test slot) 0) c.slots.ensures
