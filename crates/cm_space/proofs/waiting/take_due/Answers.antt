use Rattle.std.proofs.Common.{◌≡◌, ◌≤◌, get_or, ap, ◌∙◌, subst}
use Rattle.cm_space.specs.declared.waiting.Waiting.{Waiting}
use Rattle.cm_space.specs.Space.{waits_in}
use Rattle.cm_space.proofs.waiting.take_due.Goals as goal

pub returns-clause-some : goal.returns-clause-some
returns-clause-some c =
    let first = c.in_ok-front.field-0.now in
    let same : first ≡ c.in_ok-oldest.oldest = c.in_ok-front.ensures.lookup ∙ ap
    (λ l. get_or l 0 first) c.in_ok-oldest.ensures.items in
    record {
      waits_for = c.in_ok-oldest.oldest.number;
      is_due = subst (λ (w : Waiting). w.number ≤ c.args.number) same c.if-branch-number.false;
      oldest = ap waits_in c.in_ok-oldest.ensures.items;
    }
