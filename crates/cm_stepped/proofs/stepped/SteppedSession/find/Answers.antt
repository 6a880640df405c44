use Rattle.cm_stepped.proofs.Behind.{finds_behind}
use Rattle.cm_stepped.proofs.stepped.SteppedSession.find.Goals as goal

pub returns : goal.returns
returns g c =
    let s = c.args.self.now in
    λ k m. finds_behind s.session.committer.sizes k m.ahead.next s.asked c.args.loader.now
    c.args.class.now _ m.ahead.does (c.find.ensures m.ahead.next m.ahead.matches)
