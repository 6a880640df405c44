use Rattle.cm_lines.proofs.Reading.{take_through_cut}
use Rattle.cm_lines.proofs.input.push_shown.Goals as goal

pub returns-in_ok-push-in-Some-clause-piece : goal.returns-in_ok-push-in-Some-clause-piece
returns-in_ok-push-in-Some-clause-piece c = (
  c.in-Some.front.now,
  record {
    taken = take_through_cut c.args.shown.now c.in-Some.front.now c.in-Some.field-0-1.now
        c.in-Some.ensures.found;
    inside = c.in-Some.ensures.first;
    end = λ e. (cc);
  },
  c.in_ok-push-in-Some.ensures,
)
