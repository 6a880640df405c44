-- How much of what was received is durable, and what waits to be stored.
use Rattle.std.specs.Prelude.{◌≡◌, ℕ, ◌+◌, ◌<◌, ◌≤◌, Bool, true, false, List, [], ◌++◌, length}
use Rattle.std.specs.Prelude.{Option, Some, None, Result, Ok, Err}
use Rattle.cm_group.specs.Groups.{Carried, Handed}
use Rattle.cm_commit.specs.Offers.{rows_after_group}
use Rattle.cm_commit.specs.States.{Work, Storing, Trimming, CommitterState}
use Rattle.cm_handover.specs.Carrying.{GroupMayFollow}
use Rattle.cm_cache.specs.declared.board_view.Seen.{Seen}
use Rattle.cm_cache.specs.declared.channel.Base.{Base}
use Rattle.cm_cache.specs.declared.channel.Message.{Message}
use Rattle.cm_cache.specs.Channel.{entries_of, is_open}

-- the entries of a group that waits
abbrev pub waiting : Option Handed → List Carried
waiting None = []
waiting (Some group) = group.entries

-- a group that waits continues these entries
abbrev pub WaitsOn : Base → List Carried → Option Handed → Type 0
WaitsOn base before None = Unit {0}
WaitsOn base before (Some group) = GroupMayFollow base.sizes base.rows base.number before group

-- these entries are committed
pub record HasCommitted {D : Type 0} (base : Base) (done : List Carried) (s : CommitterState D)
    : Type 0
  where
    pub sizes : s.sizes ≡ base.sizes
    pub rows : s.rows ≡ rows_after_group base.rows done
    pub number : s.number ≡ base.number + length done

-- ---- while groups are stored

-- the committer, what was received, what the Board says, the group that is stored next, one that
-- came after it, and whether the End came
pub record FlushingState (D : Type 0) : Type 0 where
  pub committer : CommitterState D
  pub received : List Message
  pub posted : Seen
  pub next : Option Handed
  pub behind : Option Handed
  pub over : Bool

-- how the code keeps it
abbrev pub flushing_of : {D : Type 0} → CommitterState D → List Message → Seen → Option Handed
    → Option Handed → Bool → FlushingState D
flushing_of committer received posted next behind over = record {
  committer = committer;
  received = received;
  posted = posted;
  next = next;
  behind = behind;
  over = over;
}

-- What was received is what is committed, then the group that is stored next, then the one after
-- it. The Board says what is committed.
pub record IsFlushing {D : Type 0} (base : Base) (failed : ℕ) (failures : D → ℕ)
    (f : FlushingState D) : Type 0 where
  pub done : List Carried
  pub all : entries_of f.received ≡ done ++ (waiting f.next ++ waiting f.behind)
  pub at : HasCommitted base done f.committer
  pub sound : f.committer.broken ≡ false
  pub idle : f.committer.underway ≡ None
  pub says : f.posted ≡ record { receipt = record { number = f.committer.number }; broken = false }
  pub next_on : WaitsOn base done f.next
  pub behind_on : WaitsOn base (done ++ waiting f.next) f.behind
  pub ended : f.over ≡ true → is_open f.received ≡ false
  pub later : failed ≤ failures f.committer.disk

-- ---- when no more groups are stored

pub record EndedState (D : Type 0) : Type 0 where
  pub committer : CommitterState D
  pub received : List Message
  pub posted : Seen
  pub over : Bool

-- how the code keeps it
abbrev pub ended_of : {D : Type 0} → CommitterState D → List Message → Seen → Bool → EndedState D
ended_of committer received posted over =
    record { committer = committer; received = received; posted = posted; over = over }

-- the group under way, if there is one, is the oldest that isn't committed
abbrev pub IsOldest : Option Work → List Carried → Type 0
IsOldest None rest = Unit {0}
IsOldest (Some Trimming) rest = Unit {0}
IsOldest (Some (Storing group)) rest = (more : List Carried) × (rest ≡ group.entries ++ more)

-- What was received is what is committed, which the Board says, and a remainder. There is a
-- remainder only if the device failed, and the Board says that too.
pub record IsEnded {D : Type 0} (base : Base) (failed : ℕ) (failures : D → ℕ)
    (e : EndedState D) : Type 0 where
  pub done : List Carried
  pub rest : List Carried
  pub all : entries_of e.received ≡ done ++ rest
  pub at : HasCommitted base done e.committer
  pub says : e.posted.receipt.number ≡ e.committer.number
  pub oldest : IsOldest e.committer.underway rest
  pub whole : e.committer.broken ≡ false → (rest ≡ []) × (e.posted.broken ≡ false)
  pub told : e.committer.broken ≡ true → e.posted.broken ≡ true
  pub ended : e.over ≡ true → is_open e.received ≡ false
  pub later : failed ≤ failures e.committer.disk
  pub cause : e.committer.broken ≡ true → failed < failures e.committer.disk

-- more was received, and nothing else happened
pub record OnlyReceives {D : Type 0} (old new : FlushingState D) : Type 0 where
  pub same : new.committer ≡ old.committer
  pub posted : new.posted ≡ old.posted
  pub more : List Message
  pub received : new.received ≡ old.received ++ more

-- the disk once a group was stored, or the device failed
abbrev pub disk_after : {D : Type 0} → Result (FlushingState D) (EndedState D) → D
disk_after (Ok f) = f.committer.disk
disk_after (Err e) = e.committer.disk

-- what was received by then, and the number on the Board
abbrev pub received_after : {D : Type 0} → Result (FlushingState D) (EndedState D) → List Message
received_after (Ok f) = f.received
received_after (Err e) = e.received

abbrev pub posted_after : {D : Type 0} → Result (FlushingState D) (EndedState D) → ℕ
posted_after (Ok f) = f.posted.receipt.number
posted_after (Err e) = e.posted.receipt.number
