use Rattle.std.proofs.Common.{refl, subst}
use Rattle.cm_pool.specs.Geometry.{Sizes}
use Rattle.cm_disk.specs.Sim.{sim_contents, sim_unsynced}
use Rattle.cm_commit.specs.Advances.{EndsBehind}
use Rattle.cm_world.specs.declared.world.World.{World}
use Rattle.cm_world.specs.declared.event.Event.TheVariants as event
use Rattle.cm_world.proofs.Kept.{now_left}
use Rattle.cm_world.proofs.Moved.{moved}
use Rattle.cm_world.proofs.Working.{works_on, tells_roots}
use Rattle.cm_world.proofs.world.World.advance.Goals as goal

pub returns : goal.returns
returns c =
    let old = c.args.self.now in
    let new : World = record { alloc = old.alloc; session = c.advance-answer.new.self } in
    let r = c.advance_reply.result in
    let does = c.advance-answer.ensures in
    λ k i.
    let m = does.machine k i in
    moved k event.Advance r old new does.sizes c.images.ensures m.next refl
    (record {
      result = c.advance-answer.result;
      reply_is = c.advance_reply.ensures;
      advances = m.does;
      call = does.call;
      no_call = does.no_call;
      cause = does.cause;
      works = works_on new.session.queue.groups.items old.session.committer new.session.committer
          c.advance-answer.result does.steps m.matches.between.busy;
      roots = tells_roots new.session.queue.groups.items old.session.committer
          new.session.committer c.advance-answer.result does.steps
          (λ none. (c.committed.ensures none).each (sim_contents old.session.committer.disk)
          (now_left old.session.committer.disk));
      trimmed = subst (λ (z : Sizes). EndsBehind z (sim_contents new.session.committer.disk)
          (sim_unsynced new.session.committer.disk) c.advance-answer.result) does.sizes
          does.trimmed;
    })
    (does.any_moment k i) m.matches
