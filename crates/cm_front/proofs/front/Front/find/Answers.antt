use Rattle.std.proofs.Common.{None, Some, sym, ap, ◌∙◌}
use Rattle.cm_state.specs.State.{words_show, state_of, class_in}
use Rattle.cm_front.specs.Front.{FrontState}
use Rattle.cm_front.proofs.Learning.{nothing_there, what_is_there}
use Rattle.cm_front.proofs.front.Front.find.Goals as goal

pub returns-in_err-number-clause-found : goal.returns-in_err-number-clause-found
returns-in_err-number-clause-found c =
    let there = nothing_there c.rows_tell_state.ensures.classes.1 c.self.inside.book.rows
    c.args.loader.now c.args.class.now (sym c.in_err-number.ensures) in
    rw c.from_residual.ensures
    (sym there ∙ ap (λ (t : FrontState). class_in (state_of words_show t.rows) c.args.loader.now
    c.args.class.now) c.self.view_is)

pub returns-in_err-found-clause-found : goal.returns-in_err-found-clause-found
returns-in_err-found-clause-found c =
    let there = what_is_there c.rows_tell_state.ensures.classes.1 c.self.inside.book.rows
    c.args.loader.now c.args.class.now c.in_ok-number.number None (sym c.in_ok-number.ensures)
    (sym c.in_err-found.ensures) in
    rw c.from_residual-in_err-found.ensures
    (sym there ∙ ap (λ (t : FrontState). class_in (state_of words_show t.rows) c.args.loader.now
    c.args.class.now) c.self.view_is)

pub returns-clause-found : goal.returns-clause-found
returns-clause-found c =
    let there = what_is_there c.rows_tell_state.ensures.classes.1 c.self.inside.book.rows
    c.args.loader.now c.args.class.now c.in_ok-number.number (Some c.in_ok-found.found.now)
    (sym c.in_ok-number.ensures) (sym c.in_ok-found.ensures) in
    ap Some c.record.ensures.record
    ∙ (sym there ∙ ap (λ (t : FrontState). class_in (state_of words_show t.rows) c.args.loader.now
    c.args.class.now) c.self.view_is)
