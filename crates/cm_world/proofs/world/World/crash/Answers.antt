use Rattle.std.proofs.Common.{subst}
use Rattle.cm_disk.specs.declared.sim.SimDisk.{SimDisk}
use Rattle.cm_disk.specs.Chosen.{IsChosen}
use Rattle.cm_disk.specs.Disk.{IsImage}
use Rattle.cm_disk.specs.Sim.{sim_contents, sim_unsynced}
use Rattle.cm_session.specs.Images.{StandsForSome}
use Rattle.cm_world.specs.declared.event.Event.TheVariants as event
use Rattle.cm_world.specs.Moves.{state}
use Rattle.cm_world.proofs.Reopened.{map_ok, opened_moves, one_image}
use Rattle.cm_world.proofs.world.World.crash.Goals as goal

pub returns-clause-moved : goal.returns-clause-moved
returns-clause-moved c =
    let w = c.args.self in
    let d = w.session.committer.disk in
    let b = c.in_ok-disk.disk in
    let left = c.in_ok-disk.ensures in
    let choice = c.args.choice in
    let same = c.into_disk.ensures in
    λ k i.
    let some = (c.images.ensures k i).each (sim_contents b)
    (subst (λ (x : SimDisk). IsImage (sim_contents x) (sim_unsynced x) (sim_contents b)) same
    left.image) in
    map_ok c.open_file.result
    (λ p m. opened_moves k (event.Crash choice) p.1 w p.0 b
    (record {
      chosen = subst (λ (x : SimDisk). IsChosen (sim_contents x) (sim_unsynced x) choice.len
          choice.fill.items (sim_contents b)) same left.chosen;
      fresh = left.fresh;
    })
    (λ next o. o)
    (one_image c.durable_has_one_image.ensures b left.fresh
    (StandsForSome w.session.committer.sizes k) some) m)
    (c.open_file.ensures.opened w.session.committer.sizes (state w k) some
    (c.versions.ensures.each (sim_contents b)
    (subst (λ (x : SimDisk). IsImage (sim_contents x) (sim_unsynced x) (sim_contents b)) same
    left.image)))

pub returns-clause-fault : goal.returns-clause-fault
returns-clause-fault c =
    let b = c.in_ok-disk.disk in
    λ k i.
    c.open_file.ensures.fault c.args.self.session.committer.sizes k
    ((c.images.ensures k i).each (sim_contents b)
    (subst (λ (x : SimDisk). IsImage (sim_contents x) (sim_unsynced x) (sim_contents b))
    c.into_disk.ensures c.in_ok-disk.ensures.image))
