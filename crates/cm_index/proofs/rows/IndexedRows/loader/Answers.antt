use Rattle.std.proofs.Common.{ℕ, List, ap, sym, ◌∙◌}
use Rattle.std.specs.Option.{option_copied}
use Rattle.std.specs.List.{find}
use Rattle.cm_index.specs.Index.{number_in, rank, is_named}
use Rattle.cm_index.specs.Sought.{name_sought}
use Rattle.cm_index.specs.Living.{living}
use Rattle.cm_index.proofs.Indexes.{number-first}
use Rattle.cm_index.proofs.rows.IndexedRows.loader.Goals as goal

pub returns-in_default : goal.returns-in_default
returns-in_default g c =
    let found = (rw c.deref.ensures.value at c.find.ensures)
    ∙ ap (λ o. find (is_named g.P.Kept.name (rank o)
    (name_sought g.P.Kept.name c.of_name-sought.result.name)) (living c.args.self.now.slots.items))
    c.of_name-sought.ensures.owner
    ∙ ap (λ (x : List ℕ). find (is_named g.P.Kept.name 0 x) (living c.args.self.now.slots.items))
    c.of_name-sought.ensures.name in
    sym (number-first g.P.Kept.name c.args.name.now (living c.args.self.now.slots.items)
    ∙ ap number_in (sym found ∙ ap option_copied c.in_default.is))

pub returns : goal.returns
returns g c =
    let found = (rw c.deref.ensures.value at c.find.ensures)
    ∙ ap (λ o. find (is_named g.P.Kept.name (rank o)
    (name_sought g.P.Kept.name c.of_name-sought.result.name)) (living c.args.self.now.slots.items))
    c.of_name-sought.ensures.owner
    ∙ ap (λ (x : List ℕ). find (is_named g.P.Kept.name 0 x) (living c.args.self.now.slots.items))
    c.of_name-sought.ensures.name in
    c.number_in.ensures ∙ ap number_in (sym (ap option_copied c.in-Some.is) ∙ found)
    ∙ sym (number-first g.P.Kept.name c.args.name.now (living c.args.self.now.slots.items))
