use Rattle.std.proofs.Common.{refl, ap, sym, subst, Some}
use Rattle.cm_disk.specs.declared.sim.SimDisk.{SimDisk}
use Rattle.cm_disk.specs.Sim.{sim_view}
use Rattle.cm_guards.specs.Calls.{LeavesOnly}
use Rattle.cm_commit.specs.States.{CommitterState}
use Rattle.cm_session.specs.Images.{StandsForSome}
use Rattle.cm_world.specs.declared.world.World.{World}
use Rattle.cm_world.specs.declared.event.Event.TheVariants as event
use Rattle.cm_world.specs.declared.reply.Reply.TheVariants as reply
use Rattle.cm_world.proofs.Kept.{unmoved}
use Rattle.cm_world.proofs.Moved.{moved}
use Rattle.cm_world.proofs.world.World.arm.Goals as goal

pub returns : goal.returns
returns c =
    let old = c.args.self.now in
    let new : World = record { alloc = old.alloc; session = c.arm.new.self } in
    let same = c.arm.ensures.disk in
    let disk = ap (λ (z : CommitterState SimDisk). z.disk) same in
    λ k i. moved k (event.Fault c.args.stores) reply.Armed old new
    (ap (λ (z : CommitterState SimDisk). z.sizes) same) c.images-2.ensures k refl
    (record {
      reply_is = refl;
      machine_stays = refl;
      underway_stays = ap (λ (z : CommitterState SimDisk). z.underway) same;
      disk_is = disk;
    })
    (subst (λ (d : SimDisk). LeavesOnly sim_view old.session.committer.disk d
    (StandsForSome old.session.committer.sizes k)) (sym disk)
    (unmoved old.session.committer.disk (Some c.args.stores)
    (StandsForSome old.session.committer.sizes k) (c.images.ensures k i)))
    (c.arm.ensures.machine k i)
