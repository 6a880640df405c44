use Rattle.std.proofs.Common.{refl}
use Rattle.cm_disk.specs.Sim.{sim_contents}
use Rattle.cm_world.specs.declared.world.World.{World}
use Rattle.cm_world.specs.declared.event.Event.TheVariants as event
use Rattle.cm_world.proofs.Kept.{still, now_left}
use Rattle.cm_world.proofs.Moved.{moved}
use Rattle.cm_world.proofs.Working.{trims}
use Rattle.cm_session.specs.Images.{StandsForSome}
use Rattle.cm_world.proofs.world.World.trim.Goals as goal

pub returns : goal.returns
returns c =
    let old = c.args.self.now in
    let new : World = record { alloc = old.alloc; session = c.trim-answer.new.self } in
    let r = c.trim_reply.result in
    let does = c.trim-answer.ensures in
    λ k i.
    moved k event.Trim r old new does.sizes c.images-2.ensures k refl
    (record {
      result = c.trim-answer.result;
      reply_is = c.trim_reply.ensures;
      trims = trims k old.session.committer new.session.committer i.told.failed_is
          (λ none. (c.committed.ensures none).each (sim_contents old.session.committer.disk)
          (now_left old.session.committer.disk)) c.trim-answer.result does.as_committer;
    })
    (still old.session.committer.disk new.session.committer.disk
    (StandsForSome old.session.committer.sizes k) does.disk (c.images.ensures k i))
    (does.machine k i)
