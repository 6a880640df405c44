use Rattle.std.proofs.Common.{Ok, Err, refl}
use Rattle.cm_commands.specs.Commands.{change_asked}
use Rattle.cm_stepped.proofs.Behind.{accepts_behind}
use Rattle.cm_stepped.proofs.stepped.SteppedSession.accept.Goals as goal

pub returns-in-Ok-clause-machine : goal.returns-in-Ok-clause-machine
returns-in-Ok-clause-machine g c =
    let s = c.args.self.now in
    λ k m sound. accepts_behind s.session.committer.sizes k s c.accept.new.self
    (change_asked c.args.command) (Ok c.in-Ok.number) c.in-Ok.number m c.in-Ok.ensures.machine refl

pub returns-in-Err-clause-machine : goal.returns-in-Err-clause-machine
returns-in-Err-clause-machine g c =
    let s = c.args.self.now in
    λ k m sound. accepts_behind s.session.committer.sizes k s c.accept.new.self
    (change_asked c.args.command) (Err c.in-Err.refusal) s.accepted m c.in-Err.ensures.machine refl
