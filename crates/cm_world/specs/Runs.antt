-- A run of a world: events one after another, from an empty cache on.
use Rattle.std.specs.Prelude.{◌≡◌, List, [], ◌∷◌, None, map}
use Rattle.cm_pool.specs.Geometry.{Sizes}
use Rattle.cm_disk.specs.Disk.{IsDurable}
use Rattle.cm_disk.specs.Sim.{sim_contents, sim_unsynced, sim_armed}
use Rattle.cm_guards.specs.Guards.{EachImage}
use Rattle.cm_commands.specs.Machine.{empty_machine}
use Rattle.cm_recover.specs.NewFile.{new_bytes}
use Rattle.cm_session.specs.Images.{StandsForSome}
use Rattle.cm_session.specs.Moves.{SessionMatches}
use Rattle.cm_world.specs.declared.event.Event.{Event}
use Rattle.cm_world.specs.declared.reply.Reply.{Reply}
use Rattle.cm_world.specs.declared.world.World.{World}
use Rattle.cm_world.specs.Steps.{State, IsStep}

-- a disk that holds a new file, all of it durable, which stands for the empty cache; nothing was
-- accepted yet, nothing is under way, and nothing is armed
pub record IsNewWorld (sizes : Sizes) (s : State) : Type 0 where
  pub contents : sim_contents s.disk ≡ new_bytes sizes
  pub stored : IsDurable (sim_contents s.disk) (sim_unsynced s.disk)
  pub images : EachImage (sim_contents s.disk) (sim_unsynced s.disk) (StandsForSome sizes s.machine)
  pub disarmed : sim_armed s.disk ≡ None
  pub machine : s.machine ≡ empty_machine
  pub idle : s.underway ≡ None

-- an event with its reply, and the states before and after it
pub record Step : Type 0 where
  pub event : Event
  pub reply : Reply
  pub before : State
  pub after : State

-- each step begins where the one before ended
abbrev pub Chain : Sizes → State → List Step → State → Type 0
Chain sizes first [] last = last ≡ first
Chain sizes first (s ∷ steps) last =
    (s.before ≡ first) × IsStep sizes s.event s.reply s.before s.after
    × Chain sizes s.after steps last

-- the events, one after another, have these replies
pub record Ran (sizes : Sizes) (events : List Event) (replies : List Reply) (last : State)
    : Type 0 where
  pub first : State
  pub new : IsNewWorld sizes first
  pub steps : List Step
  pub events_are : map (λ (s : Step). s.event) steps ≡ events
  pub replies_are : map (λ (s : Step). s.reply) steps ≡ replies
  pub chain : Chain sizes first steps last

-- the world matches the machine, and has its disk and what is under way
pub record WorldMatches (s : State) (w : World) : Type 0 where
  pub disk : w.session.committer.disk ≡ s.disk
  pub underway : w.session.committer.underway ≡ s.underway
  pub matches : SessionMatches s.machine w.session

-- the world of a new file
pub record IsBegun (sizes : Sizes) (w : World) : Type 0 where
  pub first : State
  pub new : IsNewWorld sizes first
  pub at : WorldMatches first w
  pub sizes_are : w.session.committer.sizes ≡ sizes

-- The world is one in which the events had these replies.
pub record HasRun (sizes : Sizes) (events : List Event) (replies : List Reply) (w : World)
    : Type 0 where
  pub last : State
  pub ran : Ran sizes events replies last
  pub at : WorldMatches last w
  pub sizes_are : w.session.committer.sizes ≡ sizes
