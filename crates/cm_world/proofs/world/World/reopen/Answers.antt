use Rattle.std.proofs.Common.{◌≡◌, None, sym, ap, subst, ◌∙◌}
use Rattle.cm_disk.specs.declared.sim.SimDisk.{SimDisk}
use Rattle.cm_disk.specs.Disk.{IsImage}
use Rattle.cm_disk.specs.Sim.{sim_contents, sim_unsynced}
use Rattle.cm_layout.specs.Laws.{IsNewest}
use Rattle.cm_session.specs.Images.{StandsForSome}
use Rattle.cm_world.specs.declared.event.Event.TheVariants as event
use Rattle.cm_world.specs.Moves.{state}
use Rattle.cm_world.proofs.Kept.{now_left}
use Rattle.cm_world.proofs.Reopened.{map_ok, opened_moves}
use Rattle.cm_world.proofs.world.World.reopen.Goals as goal

pub returns-clause-moved : goal.returns-clause-moved
returns-clause-moved c =
    let w = c.args.self in
    let d = w.session.committer.disk in
    let b = c.disarm.new.self in
    let b_is : b ≡ record d { armed = None } =
    c.disarm.ensures ∙ ap (λ (x : SimDisk). record x { armed = None }) c.into_disk-disk.ensures in
    λ k i.
    let images = c.images.ensures k i in
    let some = subst (λ (x : SimDisk). StandsForSome w.session.committer.sizes k (sim_contents x))
    (sym b_is) (images.each (sim_contents d) (now_left d)) in
    map_ok c.open_file.result
    (λ p m. opened_moves k event.Reopen p.1 w p.0 b b_is (λ next o. o)
    (λ image is. images.each image
    (subst (λ (x : SimDisk). IsImage (sim_contents x) (sim_unsynced x) image) b_is is)) m)
    (c.open_file.ensures.opened w.session.committer.sizes (state w k) some
    (subst (λ (x : SimDisk). IsNewest (sim_contents x)) (sym b_is)
    (c.versions.ensures.each (sim_contents d) (now_left d))))

pub returns-clause-fault : goal.returns-clause-fault
returns-clause-fault c =
    let w = c.args.self in
    let d = w.session.committer.disk in
    let b = c.disarm.new.self in
    let b_is : b ≡ record d { armed = None } =
    c.disarm.ensures ∙ ap (λ (x : SimDisk). record x { armed = None }) c.into_disk-disk.ensures in
    λ k i.
    c.open_file.ensures.fault w.session.committer.sizes k
    (subst (λ (x : SimDisk). StandsForSome w.session.committer.sizes k (sim_contents x))
    (sym b_is) ((c.images.ensures k i).each (sim_contents d) (now_left d)))
