use Rattle.std.proofs.Common.{◌∙◌, ap, rules}
use Rattle.cm_duplicates.specs.Duplicates.{first_failing}
use Rattle.cm_rules.specs.Fault.{interface_rule}
use Rattle.cm_rules.proofs.search.first_interface.Goals as goal

pub returns : goal.returns
returns c =
    let test = interface_rule c.args.rule c.args.findings.now.class.now in
    c.first_failing.ensures.place test (λ item r ran. search rules)
    ∙ ap (first_failing (λ i index. test index) 0) c.interfaces.ensures
