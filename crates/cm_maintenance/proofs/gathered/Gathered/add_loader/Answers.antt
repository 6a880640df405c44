use Rattle.std.proofs.Common.{ap, ◌∙◌}
use Rattle.cm_maintenance.specs.Gathered.{by_bytes, entry_put}
use Rattle.cm_maintenance.proofs.Entries.{by_bytes-insert}
use Rattle.cm_maintenance.proofs.gathered.Gathered.add_loader.Goals as goal

pub returns-clause-numbers : goal.returns-clause-numbers
returns-clause-numbers c =
    let old = c.args.self.now.numbers.entries in
    ap by_bytes c.in_ok-insert.ensures.entries
    ∙ (by_bytes-insert old c.in_ok-name.name c.args.row.now.number
    ∙ ap (λ name. entry_put name c.args.row.now.number (by_bytes old))
    (c.in_ok-name.ensures.items ∙ c.as_bytes.ensures.value))
