use Rattle.std.proofs.Common.{subst, sym}
use Rattle.std.specs.Prelude.{IfOk}
use Rattle.cm_world.specs.Moves.{EventMoves}
use Rattle.cm_world.specs.declared.event.Event.{Event}
use Rattle.cm_world.proofs.Chains.{same_moves}
use Rattle.cm_world.proofs.world.World.step.Goals as goal
use Rattle.cm_world.proofs.world.World.step.Goals.{in-Accept, in-Seal, in-Advance, in-Trim}
use Rattle.cm_world.proofs.world.World.step.Goals.{in-Learn, in-Look, in-Fault}

pub returns-in-Reopen-clause-moved : goal.returns-in-Reopen-clause-moved
returns-in-Reopen-clause-moved c =
    λ k i. subst (λ (e : Event). IfOk c.reopen.result (λ p. EventMoves k e p.1 c.args.self p.0))
    (sym c.in-Reopen.is) (c.reopen.ensures.moved k i)

pub returns-in-Crash-clause-moved : goal.returns-in-Crash-clause-moved
returns-in-Crash-clause-moved c =
    λ k i. subst (λ (e : Event). IfOk c.crash.result (λ p. EventMoves k e p.1 c.args.self p.0))
    (sym c.in-Crash.is) (c.crash.ensures.moved k i)

pub returns-clause-moved : goal.returns-clause-moved
returns-clause-moved c =
    λ k i. elim c.match-event.branch [
      | in-Accept w ↦
          same_moves k c.args.self _ _ _ _ _ _ w.in-Accept.is w.reply-is w.self-is
          (w.accept-reply.ensures k i)
      | in-Seal w ↦
          same_moves k c.args.self _ _ _ _ _ _ w.in-Seal.is w.reply-is w.self-is
          (w.seal-reply.ensures k i)
      | in-Advance w ↦
          same_moves k c.args.self _ _ _ _ _ _ w.in-Advance.is w.reply-is w.self-is
          (w.advance-reply.ensures k i)
      | in-Trim w ↦
          same_moves k c.args.self _ _ _ _ _ _ w.in-Trim.is w.reply-is w.self-is
          (w.trim-reply.ensures k i)
      | in-Learn w ↦
          same_moves k c.args.self _ _ _ _ _ _ w.in-Learn.is w.reply-is w.self-is
          (w.learn-reply.ensures k i)
      | in-Look w ↦
          same_moves k c.args.self _ _ _ _ _ _ w.in-Look.is w.reply-is w.self-is
          (w.look-reply.ensures k i)
      | in-Fault w ↦
          same_moves k c.args.self _ _ _ _ _ _ w.in-Fault.is w.reply-is w.self-is
          (w.arm-reply.ensures k i)
    ]
