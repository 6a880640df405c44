use Rattle.cm_stepped.proofs.Behind.{matches_level}
use Rattle.cm_stepped.proofs.Asking.{handed, handed_rest, level_again}
use Rattle.cm_stepped.proofs.stepped.SteppedSession.hand_out.Goals as goal

pub returns-clause-machine : goal.returns-clause-machine
returns-clause-machine g c =
    let s = c.args.self.now in
    λ k m level.
    let i = matches_level k s m c.requires in
    let a = c.seal.ensures.machine k i in
    let h = handed k a.next c.seal.result (c.seal.ensures.place k i level) a.does in
    let r = handed_rest k a.next h in
    record {
      next = a.next;
      does = h;
      matches = level_again k a.next s c.seal.new.self m c.requires r.0 r.1 r.2 a.matches;
    }
