-- What one event does to a world: what the reply is, what the machine does, and what a crash at any
-- moment of it leaves.
use Rattle.std.specs.Prelude.{◌≡◌, ℕ, Bool, true, false, List, Option, Some, None, Result, Ok}
use Rattle.std.specs.Prelude.{Err, ◌⊎◌, nat_lt, min, length}
use Rattle.std.specs.declared.alloc.AllocError.{AllocError}
use Rattle.std.specs.Arc.{arc_value}
use Rattle.std.specs.Option.{option_map}
use Rattle.cm_class.specs.declared.class_file.ClassFile.{ClassFile}
use Rattle.cm_pool.specs.Geometry.{Sizes}
use Rattle.cm_disk.specs.declared.sim.SimDisk.{SimDisk}
use Rattle.cm_disk.specs.Chosen.{IsChosen}
use Rattle.cm_disk.specs.Disk.{IsDurable}
use Rattle.cm_disk.specs.Sim.{sim_view, sim_contents, sim_unsynced, sim_failures}
use Rattle.cm_disk.specs.Sim.{sim_armed, sim_called, IsFresh}
use Rattle.cm_layout.specs.declared.row.Row.{Row}
use Rattle.cm_guards.specs.Calls.{LeavesOnly}
use Rattle.cm_guards.specs.Guards.{EachImage}
use Rattle.cm_commands.specs.declared.refusal.Refusal.{Refusal}
use Rattle.cm_commands.specs.Commands.{change_asked}
use Rattle.cm_state.specs.Step.{Change}
use Rattle.cm_commit.specs.declared.progress.Progress.{Progress}
use Rattle.cm_commit.specs.declared.progress.Progress.TheVariants as progress
use Rattle.cm_commit.specs.declared.progress.AdvanceFault.{AdvanceFault}
use Rattle.cm_commit.specs.declared.progress.AdvanceFault.TheVariants as fault
use Rattle.cm_commit.specs.declared.progress.NotIdle.{NotIdle}
use Rattle.cm_commit.specs.Advances.{CallsDevice, EndsBehind, HasRisen}
use Rattle.cm_commit.specs.GroupPlans.{whole_roots}
use Rattle.cm_commit.specs.States.{Work, Storing, Trimming, ShowsCache}
use Rattle.cm_commit.specs.Trims.{roots_of_rows}
use Rattle.cm_commands.specs.Machine.{Machine, Asks}
use Rattle.cm_handover.specs.Laws.{Finds}
use Rattle.cm_session.specs.declared.session.Sealed.{Sealed}
use Rattle.cm_session.specs.Images.{StandsForSome}
use Rattle.cm_session.specs.Moves.{Answers, Sealing, Advancing, IsNoCall, Learns, Reopening}
use Rattle.cm_world.specs.declared.event.Event.{Event}
use Rattle.cm_world.specs.declared.event.Event.TheVariants as event
use Rattle.cm_world.specs.declared.reply.Reply.{Reply}
use Rattle.cm_world.specs.declared.reply.Reply.TheVariants as reply

-- a disk, the machine's state, and what is under way: a group is stored, or the file is truncated
pub record State : Type 0 where
  pub disk : SimDisk
  pub machine : Machine
  pub underway : Option Work

-- ---- replies

abbrev pub command_reply : Result ℕ Refusal → Reply
command_reply (Ok number) = reply.Accepted number
command_reply (Err refusal) = reply.Refused refusal

abbrev pub seal_reply : {E : Type 0} → Result (Option Sealed) E → Reply
seal_reply (Ok (Some group)) = reply.Sealed group
seal_reply (Ok None) = reply.NothingToSeal
seal_reply (Err e) = reply.NoMemory

abbrev pub advance_reply : Result Progress AdvanceFault → Reply
advance_reply (Ok progress.Idle) = reply.Idle
advance_reply (Ok progress.Working) = reply.Working
advance_reply (Ok (progress.Done receipt)) = reply.Done receipt.number
advance_reply (Ok (progress.Trimmed roots)) = reply.Trimmed roots
advance_reply (Err fault.Device) = reply.DeviceFailed
advance_reply (Err fault.Broken) = reply.Broken

abbrev pub trim_reply : {E : Type 0} → Result Bool E → Reply
trim_reply (Ok true) = reply.TrimDue
trim_reply (Ok false) = reply.NothingToTrim
trim_reply (Err e) = reply.NotIdle

-- ---- events

-- the reply to a command is the machine's for the change of classes that the command requests
pub record Commanded (sizes : Sizes) (asked : Change (List ℕ)) (r : Reply) (before after : State)
    : Type 0 where
  pub result : Result ℕ Refusal
  pub reply_is : r ≡ command_reply result
  pub change : Change ClassFile
  pub asks : Asks asked change
  pub answers : Answers sizes before.machine change result after.machine
  pub disk_stays : after.disk ≡ before.disk
  pub underway_stays : after.underway ≡ before.underway

pub record HandedOut (r : Reply) (before after : State) : Type 0 where
  pub result : Result (Option Sealed) AllocError
  pub reply_is : r ≡ seal_reply result
  pub seals : Sealing before.machine result after.machine
  pub disk_stays : after.disk ≡ before.disk
  pub underway_stays : after.underway ≡ before.underway

-- The contents stand for a cache whose rows use this many roots.
pub record UsesRoots (sizes : Sizes) (contents : List ℕ) (roots : ℕ) : Type 0 where
  pub rows : List (Row (List ℕ))
  pub number : ℕ
  pub shows : ShowsCache sizes rows number contents
  pub roots_are : roots ≡ roots_of_rows rows

-- a trim that ends reports how many roots the rows use that the contents stood for
abbrev pub TellsRoots : Sizes → List ℕ → Result Progress AdvanceFault → Type 0
TellsRoots sizes contents (Ok progress.Idle) = Unit {0}
TellsRoots sizes contents (Ok progress.Working) = Unit {0}
TellsRoots sizes contents (Ok (progress.Done receipt)) = Unit {0}
TellsRoots sizes contents (Ok (progress.Trimmed roots)) = UsesRoots sizes contents roots
TellsRoots sizes contents (Err cause) = Unit {0}

-- a group is stored
abbrev pub StoresGroup : Option Work → Type 0
StoresGroup None = ⊥
StoresGroup (Some Trimming) = ⊥
StoresGroup (Some (Storing group)) = Unit {0}

-- What is under way before a step and after it: a group ends when its commands are acknowledged, a
-- trim when its roots are reported, and nothing is left to do only if nothing is under way.
abbrev pub Ends : Option Work → Result Progress AdvanceFault → Option Work → Type 0
Ends work (Ok progress.Idle) next = (work ≡ None) × (next ≡ None)
Ends work (Ok progress.Working) next = next ≡ work
Ends work (Ok (progress.Done receipt)) next = StoresGroup work × (next ≡ None)
Ends work (Ok (progress.Trimmed roots)) next = (work ≡ Some Trimming) × (next ≡ None)
Ends work (Err cause) next = next ≡ work

-- If nothing is under way, a group may be taken first.
pub record WorksOn (before : Option Work) (result : Result Progress AdvanceFault)
    (after : Option Work) : Type 0 where
  pub begun : Option Work
  pub takes : (begun ≡ before) ⊎ ((before ≡ None) × StoresGroup begun)
  pub ends : Ends begun result after

-- The machine's step. It makes no device call if nothing is left or the device failed before, and
-- otherwise exactly one. That one fails exactly if a fault was armed for it or an allocation failed
-- in it, and nothing is armed any more after it.
pub record Advanced (sizes : Sizes) (r : Reply) (before after : State) : Type 0 where
  pub result : Result Progress AdvanceFault
  pub reply_is : r ≡ advance_reply result
  pub advances : Advancing before.machine result after.machine
  pub call : CallsDevice sim_called before.disk result after.disk
  pub no_call : IsNoCall result → after.disk ≡ before.disk
  pub cause : HasRisen (sim_failures before.disk) (sim_failures after.disk) result
  pub works : WorksOn before.underway result after.underway
  pub roots : TellsRoots sizes (sim_contents before.disk) result
  pub trimmed : EndsBehind sizes (sim_contents after.disk) (sim_unsynced after.disk) result

-- nothing is under way, and the device works
pub record IsIdle (s : State) : Type 0 where
  pub sound : s.machine.failed ≡ false
  pub idle : s.underway ≡ None

-- contents of this length hold whole roots after this many, of those that they may have
abbrev pub has_more : Sizes → ℕ → ℕ → Bool
has_more sizes long roots = nat_lt roots (min (whole_roots sizes long) sizes.roots)

abbrev pub trim_begun : Bool → Option Work
trim_begun true = Some Trimming
trim_begun false = None

-- The file is truncated from then on exactly if it holds roots after those that its rows use. This
-- is refused exactly if something is under way or the device failed.
abbrev pub Trims : Sizes → State → Result Bool NotIdle → State → Type 0
Trims sizes before (Ok due) after =
    IsIdle before
    × (roots : ℕ) × UsesRoots sizes (sim_contents before.disk) roots
    × (has_more sizes (length (sim_contents before.disk)) roots ≡ due)
    × (after ≡ record before { underway = trim_begun due })
Trims sizes before (Err busy) after = (IsIdle before → ⊥) × (after ≡ before)

-- the reply says whether the file is truncated
pub record TrimAsked (sizes : Sizes) (r : Reply) (before after : State) : Type 0 where
  pub result : Result Bool NotIdle
  pub reply_is : r ≡ trim_reply result
  pub trims : Trims sizes before result after

pub record Learnt (r : Reply) (before after : State) : Type 0 where
  pub number : ℕ
  pub reply_is : r ≡ reply.Learnt number
  pub learns : Learns before.machine number after.machine
  pub disk_stays : after.disk ≡ before.disk
  pub underway_stays : after.underway ≡ before.underway

-- the words of the record that is found, unless an allocation failed
abbrev pub FindsSame : Option (List ℕ) → Reply → Type 0
FindsSame words (reply.Found found) = option_map arc_value found ≡ words
FindsSame words reply.NoMemory = Unit {0}
FindsSame words other = ⊥

-- what is found is what the machine has
pub record Looked (sizes : Sizes) (loader class : List ℕ) (r : Reply) (before after : State)
    : Type 0 where
  pub words : Option (List ℕ)
  pub reply_is : FindsSame words r
  pub finds : Finds sizes before.machine loader class words
  pub stays : after ≡ before

pub record Armed (stores : ℕ) (r : Reply) (before after : State) : Type 0 where
  pub reply_is : r ≡ reply.Armed
  pub machine_stays : after.machine ≡ before.machine
  pub underway_stays : after.underway ≡ before.underway
  pub disk_is : after.disk ≡ record before.disk { armed = Some stores }

-- the file that the disk then holds is opened; all of it is durable, and nothing is armed
pub record OpenedAgain (sizes : Sizes) (r : Reply) (opened : SimDisk) (before after : State)
    : Type 0 where
  pub reopens : Reopening sizes before.machine (sim_contents opened) after.machine
  pub reply_is : r ≡ reply.Opened reopens.number
  pub contents_stay : sim_contents after.disk ≡ sim_contents opened
  pub stored : IsDurable (sim_contents after.disk) (sim_unsynced after.disk)
  pub disarmed : sim_armed after.disk ≡ None
  pub idle : after.underway ≡ None

-- the disk that the event's device calls begin with: after a crash it is another one, which holds
-- the chosen image
pub record CrashLeaves (length : ℕ) (fill : List ℕ) (disk left : SimDisk) : Type 0 where
  pub chosen : IsChosen (sim_contents disk) (sim_unsynced disk) length fill (sim_contents left)
  pub fresh : IsFresh left

abbrev pub BeginsWith : Event → SimDisk → SimDisk → Type 0
BeginsWith (event.Crash choice) disk begun = CrashLeaves choice.len choice.fill.items disk begun
BeginsWith event.Reopen disk begun = begun ≡ record disk { armed = None }
BeginsWith other disk begun = begun ≡ disk

abbrev pub Does : Sizes → Event → Reply → SimDisk → State → State → Type 0
Does sizes (event.Accept command) r begun before after =
    Commanded sizes (change_asked command) r before after
Does sizes event.Seal r begun before after = HandedOut r before after
Does sizes event.Advance r begun before after = Advanced sizes r before after
Does sizes event.Trim r begun before after = TrimAsked sizes r before after
Does sizes event.Learn r begun before after = Learnt r before after
Does sizes (event.Look loader class) r begun before after =
    Looked sizes loader.now class.now r before after
Does sizes (event.Fault stores) r begun before after = Armed stores r before after
Does sizes event.Reopen r begun before after = OpenedAgain sizes r begun before after
Does sizes (event.Crash choice) r begun before after = OpenedAgain sizes r begun before after

-- One event. At each moment of it, a crash leaves contents that stand for the loaders and classes
-- after some number of the accepted commands: no fewer than were acknowledged before it, and no
-- more than were handed out. After it the same holds for what is acknowledged and handed out by
-- then.
pub record IsStep (sizes : Sizes) (e : Event) (r : Reply) (before after : State) : Type 0 where
  pub begun : SimDisk
  pub begins : BeginsWith e before.disk begun
  pub does : Does sizes e r begun before after
  pub moments : LeavesOnly sim_view begun after.disk
      (StandsForSome sizes before.machine)
  pub images : EachImage (sim_contents after.disk) (sim_unsynced after.disk)
      (StandsForSome sizes after.machine)
