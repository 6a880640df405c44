-- What each call of a session means for the machine.
use Rattle.std.specs.Prelude.{◌≡◌, ℕ, ◌<◌, ◌⊎◌, ◌||◌, Bool, true, false, List, [], ◌∷◌, ◌++◌}
use Rattle.std.specs.Prelude.{Option, Some, None, Result, Ok, Err}
use Rattle.cm_class.specs.declared.class_file.ClassFile.{ClassFile}
use Rattle.cm_pool.specs.Geometry.{Sizes}
use Rattle.cm_disk.specs.Disk.{View, IsDurable}
use Rattle.cm_state.specs.Step.{Change}
use Rattle.cm_state.specs.Stands.{Arenas, Stands}
use Rattle.cm_commands.specs.declared.refusal.Refusal.{Refusal}
use Rattle.cm_commands.specs.declared.refusal.Refusal.TheVariants as refusal
use Rattle.cm_front.specs.Front.{FrontState}
use Rattle.cm_front.specs.Accepting.{HandsOut}
use Rattle.cm_commit.specs.declared.progress.Progress.{Progress}
use Rattle.cm_commit.specs.declared.progress.Progress.TheVariants.{Idle, Working, Done, Trimmed}
use Rattle.cm_commit.specs.declared.progress.AdvanceFault.{AdvanceFault}
use Rattle.cm_commit.specs.declared.progress.AdvanceFault.TheVariants.{Device, Broken}
use Rattle.cm_group.specs.Groups.{Carried, Handed}
use Rattle.cm_guards.specs.Stages.{calls_left}
use Rattle.cm_commit.specs.States.{CommitterState, with_taken}
use Rattle.cm_commit.specs.Advances.{Advances}
use Rattle.cm_recover.specs.declared.opening.NotOpened.{NotOpened}
use Rattle.cm_verdict.specs.declared.fault.OpenFault.{OpenFault}
use Rattle.cm_verdict.specs.declared.fault.OpenFault.TheVariants as open_fault
use Rattle.cm_commands.specs.Machine.{Base, Machine, Asks, Accepts, Refuses, Seals, Acknowledges}
use Rattle.cm_commands.specs.Machine.{Reopens, accepted_to, machine_from}
use Rattle.cm_session.specs.declared.session.Session.{Session}
use Rattle.cm_session.specs.declared.session.Sealed.{Sealed}
use Rattle.cm_session.specs.Images.{StandsFor}
use Rattle.cm_session.specs.Session.{commands_of, groups_out, NoneContinues, IsSession}
use Rattle.cm_session.specs.Session.{Past, IsPast}

-- the session matches the machine
abbrev pub SessionMatches : {D : Type 0} → Machine → Session D → Type 0
SessionMatches k s = IsSession k s.front s.committer s.queue.groups.items s.sealed s.has_failed

-- The call leads the machine to another one, by what it does, and the session matches that one.
pub record ReachesMachine (Does Matching : Machine → Type 0) : Type 0 where
  pub next : Machine
  pub does : Does next
  pub matches : Matching next

-- ---- what was learnt

-- the commands that were handed out and aren't stored yet, oldest first
abbrev pub unstored : {D : Type 0} → Session D → List Carried
unstored s = commands_of (groups_out s.committer s.queue.groups.items)

-- This is what the session's accepted cache has learnt, and what was stored since.
abbrev pub HasPast : {D : Type 0} → Past → Session D → Type 0
HasPast p s = IsPast p s.committer.rows s.committer.number (unstored s) s.front

-- all that is stored was just learnt
abbrev pub just_learnt : {D : Type 0} → Session D → Past
just_learnt s = record { known = s.committer.rows; since = [] }

-- The oldest commands are stored now, or none, and nothing was learnt.
pub record PastGrows {D : Type 0} (p : Past) (old new : Session D) : Type 0 where
  pub stored : List Carried
  pub oldest : unstored old ≡ stored ++ unstored new
  pub past : HasPast (record { known = p.known; since = p.since ++ stored }) new

-- ---- accepting

-- A command is accepted with the next number, or refused: because a failure of the device was
-- noticed, or by the machine.
abbrev pub Answers : Sizes → Machine → Change ClassFile → Result ℕ Refusal → Machine → Type 0
Answers sizes k change (Ok number) next =
    (k.noticed ≡ false) × Accepts sizes k change number next
Answers sizes k change (Err r) next =
    (next ≡ k)
    × (((k.noticed ≡ true) × (r ≡ refusal.Broken))
    ⊎ ((k.noticed ≡ false) × Refuses sizes k change r))

-- the command requests some change of classes
abbrev pub IsAsked : Change (List ℕ) → Type 0
IsAsked asked = (change : Change ClassFile) × Asks asked change

-- the same for the change of classes that a command requests
pub record Accepting (sizes : Sizes) (k : Machine) (asked : Change (List ℕ))
    (result : Result ℕ Refusal) (Matching : Machine → Type 0) : Type 0 where
  pub change : Change ClassFile
  pub asks : Asks asked change
  pub reaches : ReachesMachine (Answers sizes k change result) Matching

-- ---- handing out

-- All commands were handed out before, or a group of them is now. If an allocation failed, some
-- wait, and still do.
abbrev pub Sealing : {E : Type 0} → Machine → Result (Option Sealed) E → Machine → Type 0
Sealing k (Ok None) next = (k.sealed ≡ accepted_to k) × (next ≡ k)
Sealing k (Ok (Some group)) next = Seals k group.first group.last next
Sealing k (Err e) next = (k.sealed < accepted_to k) × (next ≡ k)

-- A group that is handed out is appended to those that wait, with what was learnt by now; otherwise
-- nothing is appended.
abbrev pub Queues : {E : Type 0} → FrontState → List Handed → Result (Option Sealed) E → FrontState
    → List Handed → Type 0
Queues front queue (Ok None) new now = (new ≡ front) × (now ≡ queue)
Queues front queue (Ok (Some sealed)) new now =
    (group : Handed) × HandsOut front group new × (now ≡ queue ++ group ∷ [])
Queues front queue (Err e) new now = (new ≡ front) × (now ≡ queue)

-- ---- advancing

-- Either nothing is left to do, and then all that was handed out is acknowledged; or one device
-- call is made: the last of a group's acknowledges its commands, those of a trim leave everything
-- as it is. Once one failed, no call is made any more.
abbrev pub Advancing : Machine → Result Progress AdvanceFault → Machine → Type 0
Advancing k (Ok Idle) next = (k.failed ≡ false) × (k.acknowledged ≡ k.sealed) × (next ≡ k)
Advancing k (Ok Working) next = (k.failed ≡ false) × (next ≡ k)
Advancing k (Ok (Done receipt)) next = (k.failed ≡ false) × Acknowledges k receipt.number next
Advancing k (Ok (Trimmed roots)) next = (k.failed ≡ false) × (next ≡ k)
Advancing k (Err Device) next = (k.failed ≡ false) × (next ≡ record k { failed = true })
Advancing k (Err Broken) next = (k.failed ≡ true) × (next ≡ k)

-- no device call is made
abbrev pub IsNoCall : Result Progress AdvanceFault → Type 0
IsNoCall (Ok Idle) = Unit {0}
IsNoCall (Ok Working) = ⊥
IsNoCall (Ok (Done receipt)) = ⊥
IsNoCall (Ok (Trimmed roots)) = ⊥
IsNoCall (Err Device) = ⊥
IsNoCall (Err Broken) = Unit {0}

-- Either the committer is as it was, or it had nothing under way, no call was left, and it took a
-- group, with as many of the groups after it as one group holds, so that the oldest that still
-- waits doesn't fit.
abbrev pub MayTake : {D : Type 0} → View D → List Handed → CommitterState D
    → CommitterState D → Type 0
MayTake view waiting old begun =
    (begun ≡ old)
    ⊎ ((old.underway ≡ None) × (calls_left old.left ≡ 0) × (group : Handed)
    × ((begun ≡ with_taken view old group) × NoneContinues group waiting))

-- The committer may first take a group, and then makes one step: exactly one device call if any is
-- left.
pub record Steps {D : Type 0} (view : View D) (waiting : List Handed)
    (old : CommitterState D) (result : Result Progress AdvanceFault) (new : CommitterState D)
    : Type 0 where
  pub begun : CommitterState D
  pub takes : MayTake view waiting old begun
  pub moved : Advances begun result new

-- the device failed in this call
abbrev pub is_device : Result Progress AdvanceFault → Bool
is_device (Ok progress) = false
is_device (Err Device) = true
is_device (Err Broken) = false

-- ---- learning

-- What is acknowledged is returned, and a failure of the device is noticed.
pub record Learns (k : Machine) (number : ℕ) (next : Machine) : Type 0 where
  pub number_is : number ≡ k.acknowledged
  pub next_is : next ≡ record k { noticed = k.noticed || k.failed }

-- ---- opening again

-- The contents stand for the commands up to some number, and the machine continues from these.
pub record Reopening (sizes : Sizes) (k : Machine) (contents : List ℕ) (next : Machine)
    : Type 0 where
  pub number : ℕ
  pub reopens : Reopens k number next
  pub stands : StandsFor sizes k number contents

-- a file that stands for some of the commands isn't opened only because of the device or a failed
-- allocation
abbrev pub IsOutside : OpenFault → Type 0
IsOutside (open_fault.File fault) = ⊥
IsOutside open_fault.Device = Unit {0}
IsOutside open_fault.NoMemory = Unit {0}

-- the session of these contents; all that its disk holds is durable
pub record Opened {D : Type 0} (view : View D) (sizes : Sizes)
    (bytes : List ℕ) (k : Machine) (s : Session D) : Type 0 where
  pub reaches : ReachesMachine (Reopening sizes k bytes) (λ next. SessionMatches next s)
  pub sizes_are : s.committer.sizes ≡ sizes
  pub durable : IsDurable (view.contents s.committer.disk) (view.unsynced s.committer.disk)

-- The contents stand for a cache, and the session matches the machine that begins with it.
pub record SessionBegins {D : Type 0} (bytes : List ℕ) (s : Session D) : Type 0 where
  pub base : Base
  pub arenas : Arenas
  pub stands : Stands s.committer.sizes bytes base.state arenas base.number
  pub matches : SessionMatches (machine_from base) s

-- the disk after it was opened, or handed back
abbrev pub disk_of : {D : Type 0} → Result (Session D) (NotOpened D) → D
disk_of (Ok s) = s.committer.disk
disk_of (Err not_opened) = not_opened.disk

abbrev pub MeetsDevice : {D : Type 0} → Result (Session D) (NotOpened D) → Type 0
MeetsDevice (Ok s) = ⊥
MeetsDevice (Err not_opened) = not_opened.fault ≡ open_fault.Device
