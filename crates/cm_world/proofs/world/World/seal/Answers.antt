use Rattle.std.proofs.Common.{refl, ap}
use Rattle.cm_disk.specs.declared.sim.SimDisk.{SimDisk}
use Rattle.cm_commit.specs.States.{CommitterState}
use Rattle.cm_world.specs.declared.world.World.{World}
use Rattle.cm_world.specs.declared.event.Event.TheVariants as event
use Rattle.cm_world.proofs.Moved.{stays, disk_stays}
use Rattle.cm_world.proofs.world.World.seal.Goals as goal

pub returns : goal.returns
returns c =
    let old = c.args.self.now in
    let new : World = record { alloc = old.alloc; session = c.seal-answer.new.self } in
    let r = c.seal_reply.result in
    λ k i.
    let m = c.seal-answer.ensures.machine k i in
    stays k event.Seal r old new c.seal-answer.ensures.disk (c.images.ensures k i)
    c.images-2.ensures m.next refl
    (record {
      result = c.seal-answer.result;
      reply_is = c.seal_reply.ensures;
      seals = m.does;
      disk_stays = disk_stays k event.Seal r old new c.seal-answer.ensures.disk
          (c.images.ensures k i) c.images-2.ensures;
      underway_stays = ap (λ (m : CommitterState SimDisk). m.underway) c.seal-answer.ensures.disk;
    })
    m.matches
