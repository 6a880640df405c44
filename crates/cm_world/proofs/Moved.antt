-- An event that leaves the file open.
-- For `World::accept`, `World::advance`, `World::arm` and others.
use Rattle.std.proofs.Common.{◌≡◌, ap, subst}
use Rattle.cm_pool.specs.Geometry.{Sizes}
use Rattle.cm_disk.specs.declared.sim.SimDisk.{SimDisk}
use Rattle.cm_disk.specs.Sim.{sim_view, sim_contents, sim_unsynced}
use Rattle.cm_guards.specs.Calls.{LeavesOnly}
use Rattle.cm_guards.specs.Guards.{EachImage}
use Rattle.cm_commit.specs.States.{CommitterState}
use Rattle.cm_commands.specs.Machine.{Machine}
use Rattle.cm_session.specs.Images.{StandsForSome}
use Rattle.cm_session.specs.Moves.{SessionMatches}
use Rattle.cm_world.specs.declared.event.Event.{Event}
use Rattle.cm_world.specs.declared.reply.Reply.{Reply}
use Rattle.cm_world.specs.declared.world.World.{World}
use Rattle.cm_world.specs.Steps.{BeginsWith, Does}
use Rattle.cm_world.specs.Moves.{state, EventMoves}
use Rattle.cm_world.proofs.Kept.{still}

-- what a crash leaves of a world stands for some of a machine's commands
abbrev pub Shows : Sizes → Machine → World → Type 0
Shows sizes k w =
    EachImage (sim_contents w.session.committer.disk) (sim_unsynced w.session.committer.disk)
    (StandsForSome sizes k)

module _ (k : Machine) (e : Event) (r : Reply) (old new : World)
    (sizes : new.session.committer.sizes ≡ old.session.committer.sizes)
    (after : (j : Machine) → SessionMatches j new.session
    → Shows new.session.committer.sizes j new) where
  pub moved : (next : Machine)
      → BeginsWith e old.session.committer.disk old.session.committer.disk
      → Does old.session.committer.sizes e r old.session.committer.disk (state old k)
      (state new next)
      → LeavesOnly sim_view old.session.committer.disk new.session.committer.disk
      (StandsForSome old.session.committer.sizes k)
      → SessionMatches next new.session → EventMoves k e r old new
  moved next begins does moments matches = record {
    next = next;
    step = record {
      begun = old.session.committer.disk;
      begins = begins;
      does = does;
      moments = moments;
      images = subst (λ z. Shows z next new) sizes (after next matches);
    };
    matches = matches;
    sizes_stay = sizes;
  }

-- the same for a world whose disk isn't touched
module _ (k : Machine) (e : Event) (r : Reply) (old new : World)
    (same : new.session.committer ≡ old.session.committer)
    (before : Shows old.session.committer.sizes k old)
    (after : (j : Machine) → SessionMatches j new.session
    → Shows new.session.committer.sizes j new) where
  pub disk_stays : new.session.committer.disk ≡ old.session.committer.disk
  disk_stays = ap (λ (c : CommitterState SimDisk). c.disk) same

  pub stays : (next : Machine)
      → BeginsWith e old.session.committer.disk old.session.committer.disk
      → Does old.session.committer.sizes e r old.session.committer.disk (state old k)
      (state new next)
      → SessionMatches next new.session → EventMoves k e r old new
  stays next begins does matches =
      moved k e r old new (ap (λ (c : CommitterState SimDisk). c.sizes) same) after next begins does
      (still old.session.committer.disk new.session.committer.disk
      (StandsForSome old.session.committer.sizes k) disk_stays before) matches
