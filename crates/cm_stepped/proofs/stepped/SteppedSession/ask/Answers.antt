use Rattle.std.proofs.Common.{refl, sym, subst, ap, ◌∙◌}
use Rattle.cm_commands.specs.Machine.{Machine, accepted_to}
use Rattle.cm_stepped.specs.Stepping.{IsBehind, AsksNone}
use Rattle.cm_stepped.proofs.Behind.{matches_level}
use Rattle.cm_stepped.proofs.Asking.{rested, none_called, called_so, failed_so, level_again}
use Rattle.cm_stepped.proofs.stepped.SteppedSession.ask.Goals as goal

pub returns-then-is_rest : goal.returns-then-is_rest
returns-then-is_rest g c =
    let s = c.args.self.now in
    let done = c.in-Ok.ensures in
    let rests = sym c.is_rest.ensures ∙ c.if-is_rest.true in
    let none : AsksNone s (record s { session = c.advance.new.self }) = record {
      asked = c.requires.asked;
      works = c.requires.works;
      disk = done.no_call (none_called c.in-Ok.progress rests);
      sizes = done.sizes;
    } in
    record {
      machine = λ k m.
          let a = done.machine k (matches_level k s m c.requires.asked) in
          let r = rested k a.next c.in-Ok.progress rests a.does in
          record {
            next = a.next;
            does = (r.1, r.0, none);
            matches = level_again k a.next s c.advance.new.self m c.requires.asked
                (ap (λ (j : Machine). j.acknowledged) r.1) (ap accepted_to r.1)
                (ap (λ (j : Machine). j.failed) r.1) a.matches;
          };
      none = λ idle. none;
    }

pub returns : goal.returns
returns g c =
    let s = c.args.self.now in
    let done = c.in-Ok.ensures in
    let disk = g.D.Disk in
    record {
      machine = λ k m.
          let a = done.machine k (matches_level k s m c.requires.asked) in
          record {
            next = k;
            does = (
              refl,
              record {
                call = called_so disk.called s.session.committer.disk
                    c.advance.new.self.committer.disk c.in-Ok.progress
                    (sym c.is_rest.ensures ∙ c.if-is_rest.false) done.call;
                moments = done.any_moment k (matches_level k s m c.requires.asked);
              },
            );
            matches = record {
              ahead = record { next = a.next; does = a.does; matches = a.matches };
              stored = m.stored;
              accepted = m.accepted;
              works = m.works;
            };
          };
      none = λ idle. absurd (cc);
    }

pub returns-in-Err : goal.returns-in-Err
returns-in-Err g c =
    let s = c.args.self.now in
    let lost = c.in-Err.ensures in
    let disk = g.D.Disk in
    record {
      machine = λ k m.
          let i = matches_level k s m c.requires.asked in
          let a = lost.machine k i in
          let f = failed_so disk.called s.session.committer.disk c.advance.new.self.committer.disk
          k a.next c.in-Err.field-0 (m.works c.requires.works) a.does lost.call in
          record {
            next = a.next;
            does = (f.0, record { call = f.1; moments = lost.any_moment k i }, refl);
            matches = record {
              ahead = record {
                next = a.next;
                does = subst (λ p. IsBehind a.next p a.next) (sym c.requires.asked) refl;
                matches = a.matches;
              };
              stored = ap (λ (j : Machine). j.acknowledged) f.0 ∙ m.stored;
              accepted = ap accepted_to f.0 ∙ m.accepted;
              works = λ sound. absurd (cc);
            };
          };
      none = λ idle. absurd (cc);
    }
