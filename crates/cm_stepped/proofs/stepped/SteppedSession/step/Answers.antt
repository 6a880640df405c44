use Rattle.std.proofs.Common.{subst, ap, ◌∙◌}
use Rattle.cm_commit.specs.States.{CommitterState}
use Rattle.cm_stepped.specs.Stepping.{SteppedMatches}
use Rattle.cm_stepped.proofs.Asking.{tells, untold, steps_on}
use Rattle.cm_stepped.proofs.stepped.SteppedSession.step.Goals as goal

pub returns-in-Some-clause-machine : goal.returns-in-Some-clause-machine
returns-in-Some-clause-machine g c =
    let s = c.args.self.now in
    λ k m sound made.
    let t = c.in-Some.ensures.machine k m in
    let told = tells k t.next s.asked c.in-Some.number t.does in
    record {
      next = t.next;
      does = record {
        asked = told.0;
        acknowledges = told.1;
        none = c.take_made.ensures.same.0;
        works = c.take_made.ensures.same.1 ∙ sound;
        committer = c.take_made.ensures.disk;
      };
      matches = t.matches;
    }

pub returns-in-None-clause-machine : goal.returns-in-None-clause-machine
returns-in-None-clause-machine g c =
    let s = c.args.self.now in
    let mid = c.take_made.new.self in
    λ k m sound made.
    let t = c.in-None.ensures.machine k m in
    let a = c.ask_next.ensures k
    (subst (λ j. SteppedMatches j mid) (untold k t.next s.asked t.does) t.matches) in
    record {
      next = a.next;
      does = steps_on g.D.Disk.view g.D.Disk.called k s mid c.ask_next.result c.ask_next.new.self
          a.next (record {
            disk = ap (λ (x : CommitterState _). x.disk) c.take_made.ensures.disk;
            sizes = ap (λ (x : CommitterState _). x.sizes) c.take_made.ensures.disk;
          }) a.does;
      matches = a.matches;
    }
