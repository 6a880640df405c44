use Rattle.std.proofs.Common.{List, length, sym, ap, ◌∙◌}
use Rattle.std.specs.Arc.{arc_value}
use Rattle.std.proofs.lemmas.List.{length-map}
use Rattle.cm_layout.specs.declared.entry.Entry.{Entry}
use Rattle.cm_commit.specs.GroupPlans.{writes_of}
use Rattle.cm_commit.proofs.NextRecords.{bare-move, move-count}
use Rattle.cm_commit.proofs.entries.writes_in.Goals as goal

pub returns-in-Move : goal.returns-in-Move
returns-in-Move c =
    let e = c.args.carried.now in
    let is = bare-move e.entry c.in-Move.field-0 (sym c.bare.ensures ∙ c.in-Move.is) in
    sym (length-map c.moved.result.now arc_value) ∙ ap length c.moved.ensures
    ∙ sym (move-count c.in-Move.field-0.to 0 e.moved)
    ∙ sym (ap (λ (d : Entry (List _)). length (writes_of d e.moved)) is)
