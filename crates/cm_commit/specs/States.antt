-- How contracts describe a committer, and what a crash may leave of it.
use Rattle.std.specs.Prelude.{◌≡◌, ℕ, ◌+◌, Bool, true, false, List, Option, Some, None, length}
use Rattle.std.specs.Prelude.{nat_lt, min, Result, Ok, Err}
use Rattle.cm_disk.specs.Disk.{View}
use Rattle.cm_record.specs.Layout.{lay}
use Rattle.cm_pool.specs.Geometry.{Sizes}
use Rattle.cm_layout.specs.declared.half.Half.{Half}
use Rattle.cm_layout.specs.declared.row.Row.{Row}
use Rattle.cm_layout.specs.Rows.{rows_with, bare}
use Rattle.cm_group.specs.Groups.{Handed}
use Rattle.cm_state.specs.State.{CacheState}
use Rattle.cm_state.specs.Stands.{Arenas, Stands}
use Rattle.cm_guards.specs.Stages.{Stage, leaves}
use Rattle.cm_commit.specs.declared.journal_end.JournalEnd.{JournalEnd}
use Rattle.cm_commit.specs.Offers.{MayCome, rows_after_group}
use Rattle.cm_commit.specs.GroupPlans.{plan_of, whole_roots}
use Rattle.cm_commit.specs.Trims.{roots_of_rows, trim_plan}

-- what is under way: a group is stored, or the file is truncated after the roots that rows use
pub data Work : Type 0 where
  Storing : Handed → Work
  Trimming : Work

-- A committer: its disk; the region's sizes; the rows that are committed, each class with the words
-- of its record; the number of the last command; the half of the journal that counts, the slot
-- where it ends and its epoch, and whether the gate of the other half is open; what is under way,
-- and the stages of it that are left. It is broken once the device failed.
pub record CommitterState (D : Type 0) : Type 0 where
  pub disk : D
  pub sizes : Sizes
  pub rows : List (Row (List ℕ))
  pub number : ℕ
  pub half : Half
  pub end : ℕ
  pub epoch : ℕ
  pub other_open : Bool
  pub underway : Option Work
  pub left : List Stage
  pub broken : Bool

-- where its journal continues
abbrev pub journal_at : {D : Type 0} → CommitterState D → JournalEnd
journal_at s = record {
  geometry = s.sizes;
  half = s.half;
  end = s.end;
  epoch = s.epoch;
  other_open = s.other_open;
  number = s.number;
}

-- no group is under way
abbrev pub NoGroup : Option Work → Type 0
NoGroup None = Unit {0}
NoGroup (Some Trimming) = Unit {0}
NoGroup (Some (Storing group)) = ⊥

-- neither broken nor busy
pub record IsFree {D : Type 0} (s : CommitterState D) : Type 0 where
  pub sound : s.broken ≡ false
  pub idle : s.underway ≡ None

-- a committer that is neither broken nor busy takes a group that may come next
pub record TakesGroup {D : Type 0} (s : CommitterState D) (group : Handed) : Type 0 where
  pub sound : s.broken ≡ false
  pub idle : s.underway ≡ None
  pub next : MayCome s.sizes s.rows s.number group

-- the committer once it has taken a group, with the stages of the group's plan left
abbrev pub with_taken : {D : Type 0} → View D → CommitterState D → Handed → CommitterState D
with_taken view s group = record s {
  underway = Some (Storing group);
  left = plan_of (journal_at s) (bare s.rows) (whole_roots s.sizes (length (view.contents s.disk)))
      group.entries;
}

-- the file holds whole roots after the last one that rows use, of those that it may have
abbrev pub has_spare_roots : {D : Type 0} → View D → CommitterState D → Bool
has_spare_roots view s =
    nat_lt (roots_of_rows s.rows)
    (min (whole_roots s.sizes (length (view.contents s.disk))) s.sizes.roots)

-- the committer once a trim has begun, with the stages that cut these roots off left
abbrev pub with_trim : {D : Type 0} → CommitterState D → CommitterState D
with_trim s =
    record s { underway = Some Trimming; left = trim_plan s.sizes (roots_of_rows s.rows) }

-- A trim is refused exactly if the committer is broken or busy, and otherwise begins exactly if
-- there are roots to spare.
abbrev pub BeginsTrim : {D E : Type 0} → View D → CommitterState D → Result Bool E
    → CommitterState D → Type 0
BeginsTrim view old (Ok true) new =
    IsFree old × (has_spare_roots view old ≡ true) × (new ≡ with_trim old)
BeginsTrim view old (Ok false) new =
    IsFree old × (has_spare_roots view old ≡ false) × (new ≡ old)
BeginsTrim view old (Err e) new = (IsFree old → ⊥) × (new ≡ old)

-- ---- what contents denote

-- The contents denote the cache of these rows and this number: the state and the arenas of classes
-- whose records the rows have.
pub record ShowsCache (sizes : Sizes) (rows : List (Row (List ℕ))) (number : ℕ)
    (contents : List ℕ) : Type 0 where
  pub state : CacheState
  pub arenas : Arenas
  pub stands : Stands sizes contents state arenas number
  pub records : rows_with lay stands.rows ≡ rows

abbrev pub ShowsCommitted : {D : Type 0} → CommitterState D → List ℕ → Type 0
ShowsCommitted s contents = ShowsCache s.sizes s.rows s.number contents

-- the contents show what is committed, with the group that is under way if there is one
abbrev pub ShowsWith : {D : Type 0} → CommitterState D → Option Work → List ℕ → Type 0
ShowsWith s None contents = ShowsCommitted s contents
ShowsWith s (Some Trimming) contents = ShowsCommitted s contents
ShowsWith s (Some (Storing group)) contents =
    ShowsCache s.sizes (rows_after_group s.rows group.entries) (s.number + length group.entries)
    contents

-- what a crash may leave: what is committed; once the bytes before the group's gate are durable,
-- either that or what is committed with the group
abbrev pub MayLeave : {D : Type 0} → CommitterState D → List ℕ → Type 0
MayLeave s image = leaves s.left (ShowsCommitted s) (ShowsWith s s.underway) image
