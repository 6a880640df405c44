use Rattle.std.specs.Arc.{arc_value}
use Rattle.std.proofs.Common.{sym, ◌∙◌}
use Rattle.cm_importing.proofs.Takings.{found_same, none_is_other}
use Rattle.cm_importing.proofs.group.is_there.Goals as goal

pub returns-in-Some : goal.returns-in-Some
returns-in-Some g c =
    let found = c.deref.ensures in
    let given = c.deref-in-Some.ensures ∙ c.record.ensures.record in
    let same = c.has_same_words.ensures in
    λ k i.
    found_same _ k _ c.args.class.now c.args.name.now (arc_value c.in-Some.record.now)
    c.has_same_words.result c.requires (c.in-Some.ensures k i)
    (λ is. sym found ∙ (same.0 is ∙ given)) (λ is. same.1 (found ∙ (is ∙ sym given)))

pub returns-in-None : goal.returns-in-None
returns-in-None g c = λ k i.
    none_is_other _ k _ c.args.class.now c.args.name.now c.requires (c.in-None.ensures k i)
