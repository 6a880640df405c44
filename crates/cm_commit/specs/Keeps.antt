-- The invariant of a committer.
use Rattle.std.specs.Prelude.{◌≡◌, ℕ, ◌^◌, ◌≤◌, max, Bool, true, false, List, [], length}
use Rattle.std.specs.Prelude.{Option, Some, None}
use Rattle.std.specs.List.{AllByRecursion}
use Rattle.cm_disk.specs.Disk.{View, Unsynced, IsDurable}
use Rattle.cm_pool.specs.Geometry.{Sizes}
use Rattle.cm_layout.specs.declared.row.Row.{Row}
use Rattle.cm_layout.specs.declared.row.Row.TheVariants.{Loader, Class}
use Rattle.cm_layout.specs.Offsets.{half_size, root_at, root_size}
use Rattle.cm_layout.specs.Rows.{bare}
use Rattle.cm_layout.specs.Frames.{entry_version}
use Rattle.cm_layout.specs.Framing.{Framing, IsRightFraming, Matches}
use Rattle.cm_guards.specs.Guards.{EachImage}
use Rattle.cm_guards.specs.Stages.{Stage, StagesStand, leaves}
use Rattle.cm_group.specs.Groups.{Handed, IsGroup, AreRight, entries_in}
use Rattle.cm_rows.specs.Rows.{LiveRows}
use Rattle.cm_state.specs.State.{words_show}
use Rattle.cm_state.specs.Entries.{AreCacheRows}
use Rattle.cm_commit.specs.declared.journal_end.JournalEnd.{JournalEnd}
use Rattle.cm_commit.specs.Committed.{Committed, journal_of}
use Rattle.cm_commit.specs.Checkpoints.{ready_for}
use Rattle.cm_commit.specs.Offers.{MayCome, rows_after_group, committed_after}
use Rattle.cm_commit.specs.GroupPlans.{whole_roots, roots_of_entries}
use Rattle.cm_commit.specs.Guarding.{ContentsShow, HoldsCommitted}
use Rattle.cm_commit.specs.States.{Work, Storing, Trimming, CommitterState, journal_at}
use Rattle.cm_commit.specs.Trims.{roots_of_rows}

-- a class's record has as many words as its row says
abbrev pub HasItsWords : Row (List ℕ) → Type 0
HasItsWords (Loader r) = Unit {0}
HasItsWords (Class r words) = length words ≡ r.place.words

abbrev pub AreCounted : List (Row (List ℕ)) → Type 0
AreCounted rows = AllByRecursion HasItsWords rows

-- Contents hold the cache of these rows, and the journal continues there: they match a framing
-- whose halves are as the journal says, the half that counts is of this version, the file has this
-- many whole roots, and all of it is durable.
pub record IsHeld (contents : List ℕ) (unsynced : Unsynced) (journal : JournalEnd)
    (rows : List (Row (List ℕ))) (roots version : ℕ) : Type 0 where
  pub durable : IsDurable contents unsynced
  pub framing : Framing
  pub version_is : framing.head.version ≡ version
  pub journal_is : journal ≡ journal_of (record {
    sizes = journal.geometry;
    rows = rows;
    number = journal.number;
    framing = framing;
  })
  pub right : IsRightFraming journal.geometry framing rows journal.number
  pub matches : Matches journal.geometry framing rows contents
  pub cache : AreCacheRows words_show journal.geometry journal.number rows
  pub records : AreRight rows
  pub number_is : journal.number ≤ 2 ^ 63
  pub roots_are : roots ≡ whole_roots journal.geometry (length contents)

-- ---- the committer's own

-- the rows after what is under way, without their records
abbrev pub rows_then : List (Row (List ℕ)) → Option Work → List (Row (List ℕ))
rows_then rows None = rows
rows_then rows (Some Trimming) = rows
rows_then rows (Some (Storing group)) = rows_after_group rows group.entries

-- how many whole roots the file has once the group is written
abbrev pub roots_then : ℕ → Handed → ℕ
roots_then roots group = max roots (roots_of_entries (entries_in group.entries))

-- nothing is under way
pub record IsIdle (c : Committed) (roots : ℕ) (broken : Bool) (contents : List ℕ)
    (unsynced : Unsynced) : Type 0 where
  pub sound : broken ≡ false
  pub durable : IsDurable contents unsynced
  pub shows : ContentsShow c contents
  pub roots_are : roots ≡ whole_roots c.sizes (length contents)

-- what holds of the disk between two calls, or after one that failed
abbrev pub StandsBroken : Bool → Committed → Committed → ℕ → List Stage → List ℕ → Unsynced → Type 0
StandsBroken false c next long left contents unsynced =
    StagesStand (HoldsCommitted c) (ContentsShow next) long left contents unsynced
StandsBroken true c next long left contents unsynced =
    EachImage contents unsynced (leaves left (HoldsCommitted c) (ContentsShow next))

-- a group is under way
pub record IsBusy (c : Committed) (roots : ℕ) (group : Handed) (left : List Stage) (broken : Bool)
    (contents : List ℕ) (unsynced : Unsynced) : Type 0 where
  pub is : IsGroup group
  pub next : MayCome c.sizes c.rows c.number group
  pub counted : AreCounted c.rows
  pub some : (left ≡ []) → ⊥
  pub long : ℕ
  pub roots_are : roots_then roots group ≡ whole_roots c.sizes long
  pub stands : StandsBroken broken c (committed_after (ready_for c group.entries) group) long left
      contents unsynced

-- a trim is under way, which leaves the roots that rows use
pub record IsTrimming (c : Committed) (roots : ℕ) (left : List Stage) (broken : Bool)
    (contents : List ℕ) (unsynced : Unsynced) : Type 0 where
  pub some : (left ≡ []) → ⊥
  pub roots_are : roots ≡ roots_of_rows c.rows
  pub stands : StandsBroken broken c c (root_at c.sizes roots) left contents unsynced

abbrev pub StandsDuring : Committed → ℕ → Option Work → List Stage → Bool → List ℕ → Unsynced
    → Type 0
StandsDuring c roots None left broken contents unsynced = IsIdle c roots broken contents unsynced
StandsDuring c roots (Some Trimming) left broken contents unsynced =
    IsTrimming c roots left broken contents unsynced
StandsDuring c roots (Some (Storing group)) left broken contents unsynced =
    IsBusy c roots group left broken contents unsynced

-- how many bytes a root or a half has, whichever has more
abbrev pub most_written : Sizes → ℕ
most_written sizes = max (root_size sizes) (half_size sizes)

-- What is committed is a cache of these rows, all records of which are right, and the journal
-- continues where a framing of it in the newest version ends.
pub record IsCommitted (journal : JournalEnd) (sizes : Sizes) (rows : List (Row (List ℕ)))
    (number : ℕ) : Type 0 where
  pub framing : Framing
  pub newest : framing.head.version ≡ entry_version
  pub journal_is : journal ≡ journal_of (record {
    sizes = sizes;
    rows = rows;
    number = number;
    framing = framing;
  })
  pub right : IsRightFraming sizes framing rows number
  pub cache : AreCacheRows words_show sizes number rows
  pub records : AreRight rows
  pub number_is : number ≤ 2 ^ 63

-- Beside it the committer keeps the rows after what is under way, without their records, and a
-- buffer with room for what is written at once.
pub record IsKeptBeside (sizes kept_sizes : Sizes) (rows : List (Row (List ℕ)))
    (next : LiveRows (Unit {0})) (room : ℕ) : Type 0 where
  pub sizes_are : kept_sizes ≡ sizes
  pub next_is : next ≡ record { sizes = sizes; rows = bare rows }
  pub room_is : most_written sizes ≤ room

-- And the disk is as what is under way, if anything is, has left it by now.
pub record IsCommitter {D : Type 0} (view : View D)
    (s : CommitterState D) (sizes : Sizes) (next : LiveRows (Unit {0}))
    (roots room : ℕ) : Type 0 where
  pub is : IsCommitted (journal_at s) s.sizes s.rows s.number
  pub beside : IsKeptBeside s.sizes sizes (rows_then s.rows s.underway) next room
  pub at : StandsDuring
      (record { sizes = s.sizes; rows = s.rows; number = s.number; framing = is.framing })
      roots s.underway s.left s.broken (view.contents s.disk) (view.unsynced s.disk)
