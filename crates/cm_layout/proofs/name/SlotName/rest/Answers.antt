use Rattle.std.proofs.Common.{drop, ap, ◌∙◌}
use Rattle.cm_layout.proofs.Padded.{padded-is, all_left}
use Rattle.cm_layout.proofs.name.SlotName.rest.Goals as goal

pub returns-clause-bytes : goal.returns-clause-bytes
returns-clause-bytes c =
    let n = c.self.inside in
    let h = c.self.invariant in
    all_left 48 48 n.bytes h.1
    ∙ ap (drop 48) (padded-is n.bytes c.args.self.now n.len c.self.view_is h.0 h.1 h.2)
