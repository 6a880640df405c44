use Rattle.cm_session.proofs.Commands.{finds}
use Rattle.cm_session.proofs.session.Session.find.Goals as goal

pub returns : goal.returns
returns g c =
    let s = c.args.self.now in
    λ k i. finds c.commands_follow_the_machine.ensures.found k s.front s.committer
    s.queue.groups.items s.sealed s.has_failed i c.args.loader.now c.args.class.now _
    c.find.ensures.found
