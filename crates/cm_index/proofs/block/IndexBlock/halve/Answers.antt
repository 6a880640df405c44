use Rattle.std.proofs.Common.{◌≡◌, [], length, ap, ◌∙◌}
use Rattle.std.proofs.lemmas.List.{take_rest, nil_from_length}
use Rattle.cm_index.proofs.block.IndexBlock.halve.Goals as goal

pub returns-clause-upper : goal.returns-clause-upper
returns-clause-upper c =
    let xs = c.self.inside.entries.items in
    let ys = c.upper.inside.entries.items in
    let none : ys ≡ [] = nil_from_length ys (ap length c.upper.view_is ∙ c.requires.empty) in
    let more =
    rw (c.unwrap.ensures, c.deref.ensures.value, none, take_rest xs 512) at
    c.extend_from_slice.ensures.items in
    rw (← c.self.view_is) more
