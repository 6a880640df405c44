use Rattle.std.proofs.Common.{◌∙◌, Some, ap}
use Rattle.cm_lines.specs.Lines.{asked_by}
use Rattle.cm_tool.proofs.Asking.{asks, defines}
use Rattle.cm_tool.proofs.ahead.prepared.Goals as goal

pub returns-in-Some-Define : goal.returns-in-Some-Define
returns-in-Some-Define c = λ text holds.
    let at = c.in-Some-Define in
    defines text at.loader.now at.digits.now c.defined_by.result
    (asks c.request.result _ (asked_by text) (c.request.ensures text holds)
    (at.is ∙ ap Some at.field-0-is))
    c.defined_by.ensures
