use Rattle.std.proofs.Common.{refl, ap}
use Rattle.cm_disk.specs.declared.sim.SimDisk.{SimDisk}
use Rattle.cm_commit.specs.States.{CommitterState}
use Rattle.cm_world.specs.declared.world.World.{World}
use Rattle.cm_world.specs.declared.event.Event.TheVariants as event
use Rattle.cm_world.specs.declared.reply.Reply.TheVariants as reply
use Rattle.cm_world.proofs.Moved.{stays, disk_stays}
use Rattle.cm_world.proofs.world.World.learn.Goals as goal

pub returns : goal.returns
returns c =
    let old = c.args.self.now in
    let new : World = record { alloc = old.alloc; session = c.learn-number.new.self } in
    let r = reply.Learnt c.learn-number.result in
    λ k i.
    let m = c.learn-number.ensures.machine k i in
    stays k event.Learn r old new c.learn-number.ensures.disk (c.images.ensures k i)
    c.images-2.ensures m.next refl
    (record {
      number = c.learn-number.result;
      reply_is = refl;
      learns = m.does;
      disk_stays = disk_stays k event.Learn r old new c.learn-number.ensures.disk
          (c.images.ensures k i) c.images-2.ensures;
      underway_stays = ap (λ (m : CommitterState SimDisk). m.underway) c.learn-number.ensures.disk;
    })
    m.matches
