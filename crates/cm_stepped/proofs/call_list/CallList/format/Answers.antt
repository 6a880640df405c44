use Rattle.std.proofs.Common.{List, [], is_some, sym, ap, ◌∙◌}
use Rattle.cm_disk.specs.Calls.{DiskCall}
use Rattle.cm_deferred_disk.specs.declared.listed.ListedCalls.{ListedCalls}
use Rattle.cm_deferred_disk.specs.Listed.{listed, all_applied}
use Rattle.cm_stepped.proofs.Listing.{format_listed}
use Rattle.cm_stepped.proofs.call_list.CallList.format.Goals as goal

pub returns-clause-calls : goal.returns-clause-calls
returns-clause-calls c =
    let empty = c.of_empty-disk.ensures in
    format_listed [] c.args.geometry c.of_empty-disk.result c.format.new.disk c.format.result
    c.in_ok-format.field-0 (c.in_ok-format.was {u = tt}) c.format.ensures.moments
    (ap is_some (sym c.cause.ensures) ∙ sym (c.if-is_some.ensures {u = tt}))
    (ap (λ (d : ListedCalls). all_applied (listed d) []) empty.device_is
    ∙ ap (λ (calls : List DiskCall). all_applied calls []) c.new.ensures ∙ sym empty.contents)
    ∙ (c.in_ok-format.ensures {u = tt}).bytes
