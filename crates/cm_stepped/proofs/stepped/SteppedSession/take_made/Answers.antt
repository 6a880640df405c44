use Rattle.std.proofs.Common.{refl, sym, subst, ap, ◌∙◌}
use Rattle.cm_commands.specs.Machine.{Machine}
use Rattle.cm_session.specs.Moves.{SessionMatches}
use Rattle.cm_stepped.proofs.Asking.{made_last, made_other}
use Rattle.cm_stepped.proofs.stepped.SteppedSession.take_made.Goals as goal

pub returns-then-not-is_last-clause-machine : goal.returns-then-not-is_last-clause-machine
returns-then-not-is_last-clause-machine g c =
    let s = c.args.self.now in
    λ k m.
    let o = made_other k m.ahead.next s.asked
    (sym c.ends_group-is_last.ensures ∙ c.if-not-is_last.true) m.ahead.does in
    record {
      next = k;
      does = o.1;
      matches = record {
        ahead = record {
          next = k;
          does = refl;
          matches = subst (λ j. SessionMatches j s.session) o.0 m.ahead.matches;
        };
        stored = m.stored;
        accepted = m.accepted;
        works = m.works;
      };
    }

pub returns-clause-machine : goal.returns-clause-machine
returns-clause-machine g c =
    let s = c.args.self.now in
    λ k m.
    let l = c.learn-self.ensures.machine m.ahead.next m.ahead.matches in
    let x = made_last k m.ahead.next l.next s.asked c.learn-self.result
    (sym c.ends_group-is_last.ensures ∙ c.if-not-is_last.false) m.ahead.does l.does in
    record {
      next = l.next;
      does = x.makes;
      matches = record {
        ahead = record { next = l.next; does = refl; matches = l.matches };
        stored = ap (λ (j : Machine). j.acknowledged) l.does.next_is ∙ sym l.does.number_is;
        accepted = x.accepted ∙ m.accepted;
        works = λ sound. x.failed ∙ m.works sound;
      };
    }
