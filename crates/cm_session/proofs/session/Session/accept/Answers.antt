use Rattle.cm_session.proofs.Commands.{answers}
use Rattle.cm_commands.specs.Commands.{change_asked}
use Rattle.cm_session.proofs.Past.{past_answered}
use Rattle.cm_session.proofs.session.Session.accept.Goals as goal

pub returns-clause-machine : goal.returns-clause-machine
returns-clause-machine g c =
    let s = c.args.self.now in
    let laws = c.commands_follow_the_machine.ensures in
    λ k i. answers laws.accepted laws.refused c.ahead_stays_ahead.ensures.accepted k s.front
    c.accept-number.new.self s.committer s.queue.groups.items s.sealed s.has_failed _
    c.look_at.ensures.0 c.look_at.ensures.1 c.invariant_holds.ensures i c.accept-number.result
    c.accept-number.ensures

pub returns-clause-past : goal.returns-clause-past
returns-clause-past g c =
    let s = c.args.self.now in
    λ k p i h. past_answered p s.front c.accept-number.new.self s.committer s.queue.groups.items h
    c.ahead_stays_ahead.ensures.accepted (change_asked c.args.command) i.cache.is
    c.invariant_holds.ensures c.accept-number.result c.accept-number.ensures
