-- What comes of an import: group after group, from the cache that a disk's bytes stand for.
use Rattle.std.specs.Prelude.{◌≡◌, ◌≢◌, ◌⊎◌, ℕ, ◌++◌, Bool, true, false, List, [], ◌∷◌, Option}
use Rattle.std.specs.Prelude.{Result, Ok, Err}
use Rattle.cm_pool.specs.Geometry.{Sizes}
use Rattle.cm_disk.specs.Disk.{View}
use Rattle.cm_guards.specs.Guards.{EachImage}
use Rattle.cm_guards.specs.Calls.{LeavesOnly}
use Rattle.cm_state.specs.Step.{AddLoader}
use Rattle.cm_state.specs.Stands.{Arenas, Stands}
use Rattle.cm_verdict.specs.Verdict.{verdict}
use Rattle.cm_verdict.specs.declared.fault.OpenFault.{OpenFault}
use Rattle.cm_verdict.specs.declared.fault.OpenFault.TheVariants as open_fault
use Rattle.cm_verdict.specs.Opening.{IsFaultIn}
use Rattle.cm_recover.specs.Opened.{OpensThrough}
use Rattle.cm_commands.specs.declared.refusal.Refusal.{Refusal}
use Rattle.cm_commands.specs.declared.refusal.Refusal.TheVariants as refusal
use Rattle.cm_commands.specs.Machine.{Base, Machine, machine_from, accepted_to}
use Rattle.cm_session.specs.declared.session.Session.{Session}
use Rattle.cm_session.specs.Images.{StandsForSome}
use Rattle.cm_session.specs.Moves.{SessionMatches, ReachesMachine}
use Rattle.cm_importing.specs.declared.fault.ImportFault.{ImportFault}
use Rattle.cm_importing.specs.declared.fault.ImportFault.TheVariants as fault
use Rattle.cm_importing.specs.declared.outcome.Outcome.TheVariants.{Refused}
use Rattle.cm_importing.specs.Outcomes.{outcome_alone}
use Rattle.cm_importing.specs.Feeds.{FeedEvent, Given, Told, NoMore, Logs, Group}
use Rattle.cm_importing.specs.Feeds.{group_events}
use Rattle.cm_importing.specs.Groups.{Pause, pause, IsReady, defines, StoresGroup, LosesGroup}

-- Whichever machine the session goes with, everything stored and the device working: what is done
-- between the two pauses leads the machine to another one, and the session goes with that one.
abbrev pub ImportsFrom : {D : Type 0} → (Pause D → Pause D → Type 0) → Session D → Session D
    → Type 0
ImportsFrom Does old new =
    (k : Machine) → SessionMatches k old → IsReady k
    → ReachesMachine
    (λ next. Does (pause k old.committer.disk) (pause next new.committer.disk))
    (λ next. SessionMatches next new)

-- ---- one turn

-- the feed gave no classes, or gave a group which wasn't asked for
abbrev pub IsUnasked : List FeedEvent → Type 0
IsUnasked rest = (rest ≡ []) ⊎ ((classes : List (List ℕ)) × (rest ≡ Given classes ∷ []))

-- The next group of the feed is stored, and then the feed is told what became of its classes; or
-- there is none. If the device fails in it, nothing is told.
abbrev pub RunsTurn : {D : Type 0} → (D → D → (List ℕ → Type 0) → Type 0) → Sizes → List ℕ
    → Option (List FeedEvent) → Option (List FeedEvent) → Result Bool ImportFault → Pause D
    → Pause D → Type 0
RunsTurn Leaves sizes loader before after (Ok true) old new =
    (group : Group)
    × StoresGroup Leaves sizes (defines loader group.classes) group.outcomes old new
    × Logs before after (Given group.classes ∷ Told group.outcomes ∷ [])
    × IsReady new.machine
RunsTurn Leaves sizes loader before after (Ok false) old new =
    Logs before after (NoMore ∷ []) × (new ≡ old)
RunsTurn Leaves sizes loader before after (Err fault.Device) old new =
    (classes : List (List ℕ)) × Logs before after (Given classes ∷ [])
    × LosesGroup Leaves sizes (defines loader classes) old new
RunsTurn Leaves sizes loader before after (Err fault.NoMemory) old new =
    (rest : List FeedEvent) × IsUnasked rest × Logs before after rest × (new ≡ old)
RunsTurn Leaves sizes loader before after (Err (fault.Open f)) old new = ⊥
RunsTurn Leaves sizes loader before after (Err (fault.Loader r)) old new = ⊥

-- ---- groups

-- groups of classes are imported into this loader, one after another
abbrev pub ImportsEach : {D : Type 0} → (D → D → (List ℕ → Type 0) → Type 0) → Sizes → List ℕ
    → List Group → Pause D → Pause D → Type 0
ImportsEach Leaves sizes loader [] old new = new ≡ old
ImportsEach {D = D} Leaves sizes loader (group ∷ groups) old new =
    (next : Pause D)
    × StoresGroup Leaves sizes (defines loader group.classes) group.outcomes old next
    × ImportsEach Leaves sizes loader groups next new

-- Groups were imported, each as the feed gave it, and once a group was stored the feed was told
-- what became of its classes. These events follow.
pub record ImportsGroups {D : Type 0} (Leaves : D → D → (List ℕ → Type 0) → Type 0)
    (sizes : Sizes) (loader : List ℕ) (before after : Option (List FeedEvent))
    (events : List FeedEvent) (old new : Pause D) : Type 0 where
  pub groups : List Group
  pub stored : ImportsEach Leaves sizes loader groups old new
  pub logged : Logs before after (group_events groups ++ events)

-- nothing more was done
pub record EndsBefore {D : Type 0} (Leaves : D → D → (List ℕ → Type 0) → Type 0)
    (sizes : Sizes) (loader : List ℕ) (before after : Option (List FeedEvent)) (old new : Pause D)
    : Type 0 where
  pub rest : List FeedEvent
  pub imported : ImportsGroups Leaves sizes loader before after rest old new
  pub unasked : IsUnasked rest
  pub ready : IsReady new.machine

-- the device failed in the group that the feed gave last, and nothing was told of that one
pub record EndsIn {D : Type 0} (Leaves : D → D → (List ℕ → Type 0) → Type 0)
    (sizes : Sizes) (loader : List ℕ) (before after : Option (List FeedEvent)) (old new : Pause D)
    : Type 0 where
  pub classes : List (List ℕ)
  pub between : Pause D
  pub imported : ImportsGroups Leaves sizes loader before after (Given classes ∷ []) old between
  pub lost : LosesGroup Leaves sizes (defines loader classes) between new

-- all that the feed gave was imported, with the number of the last command; or why not
abbrev pub RunsFeed : {D : Type 0} → (D → D → (List ℕ → Type 0) → Type 0) → Sizes → List ℕ
    → Option (List FeedEvent) → Option (List FeedEvent) → Result ℕ ImportFault → Pause D
    → Pause D → Type 0
RunsFeed Leaves sizes loader before after (Ok number) old new =
    ImportsGroups Leaves sizes loader before after (NoMore ∷ []) old new × IsReady new.machine
    × (number ≡ accepted_to new.machine)
RunsFeed Leaves sizes loader before after (Err fault.Device) old new =
    EndsIn Leaves sizes loader before after old new
RunsFeed Leaves sizes loader before after (Err fault.NoMemory) old new =
    EndsBefore Leaves sizes loader before after old new
RunsFeed Leaves sizes loader before after (Err (fault.Open f)) old new = ⊥
RunsFeed Leaves sizes loader before after (Err (fault.Loader r)) old new = ⊥

-- ---- the loader

abbrev pub IsThere : Result ℕ Refusal → Type 0
IsThere (Ok number) = Unit {0}
IsThere (Err r) = r ≡ refusal.LoaderExists

-- the answer to a loader that was asked for
abbrev pub TellsLoader : Result ℕ Refusal → Result (Unit {0}) ImportFault → Type 0
TellsLoader answer (Ok done) = IsThere answer
TellsLoader answer (Err (fault.Loader r)) = (answer ≡ Err r) × (r ≢ refusal.LoaderExists)
TellsLoader answer (Err fault.Device) = ⊥
TellsLoader answer (Err fault.NoMemory) = ⊥
TellsLoader answer (Err (fault.Open f)) = ⊥

-- the loader is added, unless it is there
pub record AddsLoader {D : Type 0} (Leaves : D → D → (List ℕ → Type 0) → Type 0) (sizes : Sizes)
    (loader : List ℕ) (old new : Pause D) : Type 0 where
  pub answer : Result ℕ Refusal
  pub there : IsThere answer
  pub stored : StoresGroup Leaves sizes (AddLoader loader ∷ []) (outcome_alone answer ∷ []) old new

-- ---- a whole run

-- the loader is added, unless it is there; or why not
abbrev pub RunsLoader : {D : Type 0} → (D → D → (List ℕ → Type 0) → Type 0) → Sizes → List ℕ
    → Result (Unit {0}) ImportFault → Pause D → Pause D → Type 0
RunsLoader Leaves sizes loader (Ok done) old new =
    AddsLoader Leaves sizes loader old new × IsReady new.machine
RunsLoader Leaves sizes loader (Err fault.Device) old new =
    LosesGroup Leaves sizes (AddLoader loader ∷ []) old new
RunsLoader Leaves sizes loader (Err (fault.Loader r)) old new =
    (r ≢ refusal.LoaderExists)
    × StoresGroup Leaves sizes (AddLoader loader ∷ []) (Refused r ∷ []) old new
RunsLoader Leaves sizes loader (Err fault.NoMemory) old new = ⊥
RunsLoader Leaves sizes loader (Err (fault.Open f)) old new = ⊥

-- it isn't, and nothing was asked of the feed
pub record EndsAtLoader {D : Type 0} (Leaves : D → D → (List ℕ → Type 0) → Type 0)
    (sizes : Sizes) (loader : List ℕ) (before after : Option (List FeedEvent)) (f : ImportFault)
    (old new : Pause D) : Type 0 where
  pub ran : RunsLoader Leaves sizes loader (Err f) old new
  pub unasked : after ≡ before

-- the loader is there, and then the feed's classes are imported
pub record RunsWithLoader {D : Type 0} (Leaves : D → D → (List ℕ → Type 0) → Type 0)
    (sizes : Sizes) (loader : List ℕ) (before after : Option (List FeedEvent))
    (result : Result ℕ ImportFault) (old new : Pause D) : Type 0 where
  pub between : Pause D
  pub added : AddsLoader Leaves sizes loader old between
  pub ran : RunsFeed Leaves sizes loader before after result between new

-- the whole run
abbrev pub Runs : {D : Type 0} → (D → D → (List ℕ → Type 0) → Type 0) → Sizes → List ℕ
    → Option (List FeedEvent) → Option (List FeedEvent) → Result ℕ ImportFault → Pause D → Pause D
    → Type 0
Runs Leaves sizes loader before after (Ok number) old new =
    RunsWithLoader Leaves sizes loader before after (Ok number) old new
Runs Leaves sizes loader before after (Err fault.Device) old new =
    EndsAtLoader Leaves sizes loader before after fault.Device old new
    ⊎ RunsWithLoader Leaves sizes loader before after (Err fault.Device) old new
Runs Leaves sizes loader before after (Err fault.NoMemory) old new =
    RunsWithLoader Leaves sizes loader before after (Err fault.NoMemory) old new
Runs Leaves sizes loader before after (Err (fault.Loader r)) old new =
    EndsAtLoader Leaves sizes loader before after (fault.Loader r) old new
Runs Leaves sizes loader before after (Err (fault.Open f)) old new = ⊥

-- ---- on a disk

-- What the disk's bytes stand for was opened, and this came of it. Whatever a crash leaves of the
-- disk at the end stands for all that was acknowledged, and nothing that wasn't handed out.
pub record RunsOnDisk {D : Type 0} (view : View D) (disk left : D)
    (Came : Sizes → Pause D → Pause D → Type 0) : Type 0 where
  pub sizes : Sizes
  pub base : Base
  pub arenas : Arenas
  pub stands : Stands sizes (view.contents disk) base.state arenas base.number
  pub opened : D
  pub opening : OpensThrough view disk opened ⊥
  pub machine : Machine
  pub came : Came sizes (pause (machine_from base) opened) (pause machine left)
  pub images : EachImage (view.contents left) (view.unsynced left)
      (StandsForSome sizes machine)

-- it wasn't opened, and nothing was asked of the feed
pub record IsUnopened {D : Type 0} (view : View D) (disk left : D)
    (before after : Option (List FeedEvent)) (f : OpenFault) : Type 0 where
  pub fault_is : IsFaultIn f (verdict (view.contents disk))
  pub opening : OpensThrough view disk left (f ≡ open_fault.Device)
  pub unasked : after ≡ before

abbrev pub Imports : {D : Type 0} → View D → List ℕ → Option (List FeedEvent)
    → Option (List FeedEvent) → D → Result ℕ ImportFault → D → Type 0
Imports view loader before after disk (Err (fault.Open f)) left =
    IsUnopened view disk left before after f
Imports view loader before after disk result left =
    RunsOnDisk view disk left
    (λ sizes. Runs (LeavesOnly view) sizes loader before after result)
