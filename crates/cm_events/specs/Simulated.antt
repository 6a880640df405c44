-- The result of a text as a simulation.
use Rattle.std.specs.Prelude.{◌≡◌, ℕ, List}
use Rattle.cm_disk.specs.declared.sim.SimDisk.{SimDisk}
use Rattle.cm_lines.specs.Lines.{lines_of}
use Rattle.cm_session.specs.Moves.{IsOutside}
use Rattle.cm_world.specs.declared.reply.Reply.{Reply}
use Rattle.cm_world.specs.declared.world.World.{World}
use Rattle.cm_world.specs.Runs.{HasRun}
use Rattle.cm_events.specs.declared.simulation.Simulation.{Simulation}
use Rattle.cm_events.specs.Made.{IsSimulation, IsLineFault}
use Rattle.cm_events.specs.Texts.{answers}
use Rattle.cm_events.specs.declared.running.SimulateFault.{SimulateFault}
use Rattle.cm_events.specs.declared.running.SimulateFault.TheVariants as fault

-- The events of its lines are run one after another over a new file, the replies are written, and
-- the disk is the one that is left.
pub record IsSimulated (text written : List ℕ) (disk : SimDisk) : Type 0 where
  pub simulation : Simulation
  pub read : IsSimulation (lines_of text) simulation
  pub replies : List Reply
  pub world : World
  pub ran : HasRun simulation.geometry simulation.events.items replies world
  pub written_is : written ≡ answers simulation.turns.items replies
  pub disk_is : disk ≡ world.session.committer.disk

-- why a simulation isn't run to its end: never because a file is damaged
abbrev pub SimulationStops : List ℕ → SimulateFault → Type 0
SimulationStops text (fault.Text f) = IsLineFault (lines_of text) f
SimulationStops text (fault.World f) = IsOutside f
SimulationStops text fault.NoMemory = Unit {0}
