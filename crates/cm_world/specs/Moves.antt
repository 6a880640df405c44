-- A world from one event to the next.
use Rattle.std.specs.Prelude.{◌≡◌}
use Rattle.cm_pool.specs.Geometry.{Sizes}
use Rattle.cm_disk.specs.declared.sim.SimDisk.{SimDisk}
use Rattle.cm_disk.specs.Disk.{IsImage}
use Rattle.cm_disk.specs.Sim.{sim_view, sim_contents, sim_unsynced}
use Rattle.cm_guards.specs.Calls.{LeavesOnly}
use Rattle.cm_guards.specs.Guards.{EachImage}
use Rattle.cm_commands.specs.Machine.{Machine}
use Rattle.cm_session.specs.Images.{StandsForSome}
use Rattle.cm_session.specs.Moves.{SessionMatches}
use Rattle.cm_world.specs.declared.event.Event.{Event}
use Rattle.cm_world.specs.declared.event.Event.TheVariants as event
use Rattle.cm_world.specs.declared.reply.Reply.{Reply}
use Rattle.cm_world.specs.declared.world.World.{World}
use Rattle.cm_world.specs.Steps.{State, IsStep, OpenedAgain}

-- the world's disk, with the machine's state and what is under way
abbrev pub state : World → Machine → State
state w k = record {
  disk = w.session.committer.disk;
  machine = k;
  underway = w.session.committer.underway;
}

-- the events that open the file again
abbrev pub OpensAgain : Event → Type 0
OpensAgain event.Reopen = Unit {0}
OpensAgain (event.Crash choice) = Unit {0}
OpensAgain other = ⊥

-- The event is a step of the machine, and the world matches the machine that it leads to.
pub record EventMoves (k : Machine) (e : Event) (r : Reply) (old new : World) : Type 0 where
  pub next : Machine
  pub step : IsStep old.session.committer.sizes e r (state old k) (state new next)
  pub matches : SessionMatches next new.session
  pub sizes_stay : new.session.committer.sizes ≡ old.session.committer.sizes

-- The world of the file that a disk holds, which stands for some of the machine's commands.
pub record MovesTo (sizes : Sizes) (k : Machine) (r : Reply) (opened : SimDisk) (before : State)
    (new : World) : Type 0 where
  pub next : Machine
  pub opens : OpenedAgain sizes r opened before (state new next)
  pub moments : LeavesOnly sim_view opened new.session.committer.disk
      (IsImage (sim_contents opened) (sim_unsynced opened))
  pub images : EachImage (sim_contents new.session.committer.disk)
      (sim_unsynced new.session.committer.disk) (StandsForSome sizes next)
  pub matches : SessionMatches next new.session
  pub sizes_are : new.session.committer.sizes ≡ sizes
