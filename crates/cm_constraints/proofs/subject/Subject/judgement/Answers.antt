use Rattle.std.proofs.Common.{Option, [], ap, sym, ◌∙◌}
use Rattle.std.specs.Prelude.{unwrap_or}
use Rattle.cm_descriptors.specs.declared.judgement.Judgement.{Judgement}
use Rattle.cm_descriptors.specs.Judgement.{judgement}
use Rattle.cm_constraints.proofs.Tables.{at_index}
use Rattle.cm_constraints.proofs.subject.Subject.judgement.Goals as goal

pub returns-in-Some : goal.returns-in-Some
returns-in-Some c =
    let read = rw (c.deref.ensures.value, c.from.ensures) at c.judgement_at.ensures in
    ap (λ (o : Option Judgement). unwrap_or o (judgement [])) (sym c.in-Some.is ∙ read)
    ∙ at_index c.args.self.now.class.now c.args.self.now.table.items c.args.index
    c.args.self.now.of_class c.if-index-eq0.false

pub returns-in-None : goal.returns-in-None
returns-in-None c =
    let read = rw (c.deref.ensures.value, c.from.ensures) at c.judgement_at.ensures in
    c.judge_nothing-in-None.ensures ∙ ap (λ (o : Option Judgement). unwrap_or o (judgement []))
    (sym c.in-None.is ∙ read)
    ∙ at_index c.args.self.now.class.now c.args.self.now.table.items c.args.index
    c.args.self.now.of_class c.if-index-eq0.false
