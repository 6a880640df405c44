use Rattle.std.proofs.Common.{refl, ap}
use Rattle.cm_disk.specs.declared.sim.SimDisk.{SimDisk}
use Rattle.cm_commit.specs.States.{CommitterState}
use Rattle.cm_world.specs.declared.world.World.{World}
use Rattle.cm_world.specs.declared.event.Event.TheVariants as event
use Rattle.cm_world.proofs.Moved.{stays, disk_stays}
use Rattle.cm_world.proofs.world.World.accept.Goals as goal

pub returns : goal.returns
returns c =
    let old = c.args.self.now in
    let new : World = record { alloc = old.alloc; session = c.accept-answer.new.self } in
    let e = event.Accept c.args.command in
    let r = c.command_reply.result in
    λ k i.
    let m = c.accept-answer.ensures.machine k i in
    stays k e r old new c.accept-answer.ensures.disk (c.images.ensures k i) c.images-2.ensures
    m.reaches.next refl
    (record {
      result = c.accept-answer.result;
      reply_is = c.command_reply.ensures;
      change = m.change;
      asks = m.asks;
      answers = m.reaches.does;
      disk_stays = disk_stays k e r old new c.accept-answer.ensures.disk (c.images.ensures k i)
          c.images-2.ensures;
      underway_stays = ap (λ (m : CommitterState SimDisk). m.underway) c.accept-answer.ensures.disk;
    })
    m.reaches.matches
