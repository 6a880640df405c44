-- What one step of a committer does.
use Rattle.std.specs.Prelude.{◌≡◌, ℕ, ◌+◌, ◌≤◌, ◌<◌, Bool, true, false, [], length, Some, None}
use Rattle.std.specs.Prelude.{Result, Ok, Err, List}
use Rattle.cm_disk.specs.Disk.{Unsynced, IsDurable}
use Rattle.cm_pool.specs.Geometry.{Sizes}
use Rattle.cm_layout.specs.Offsets.{root_at}
use Rattle.cm_layout.specs.Rows.{bare}
use Rattle.cm_group.specs.declared.receipt.Receipt.{Receipt}
use Rattle.cm_group.specs.Groups.{Handed, slots_taken}
use Rattle.cm_commit.specs.declared.progress.Progress.{Progress}
use Rattle.cm_commit.specs.declared.progress.Progress.TheVariants.{Idle, Working, Done, Trimmed}
use Rattle.cm_commit.specs.declared.progress.AdvanceFault.{AdvanceFault}
use Rattle.cm_commit.specs.declared.progress.AdvanceFault.TheVariants.{Device, Broken}
use Rattle.cm_guards.specs.Stages.{calls_left, after_call}
use Rattle.cm_commit.specs.declared.journal_end.JournalEnd.{JournalEnd}
use Rattle.cm_commit.specs.Offers.{rows_after_group}
use Rattle.cm_commit.specs.Checkpoints.{target_of}
use Rattle.cm_commit.specs.States.{Storing, Trimming, CommitterState, journal_at}
use Rattle.cm_commit.specs.Trims.{roots_of_rows}

-- nothing is left: no call, no change
pub record Rests {D : Type 0} (old new : CommitterState D) : Type 0 where
  pub sound : old.broken ≡ false
  pub none : old.left ≡ []
  pub stays : new ≡ old

-- one call is made, and others are left
pub record Works {D : Type 0} (old new : CommitterState D) : Type 0 where
  pub sound : old.broken ≡ false
  pub more : 2 ≤ calls_left old.left
  pub new_is : new ≡ record old { disk = new.disk; left = after_call old.left }

-- the committer once a group is committed that was written where this journal ends
abbrev pub with_committed : {D : Type 0} → CommitterState D → JournalEnd → Handed → D
    → CommitterState D
with_committed s to group disk = record s {
  disk = disk;
  rows = rows_after_group s.rows group.entries;
  number = s.number + length group.entries;
  half = to.half;
  end = to.end + 1 + slots_taken group.entries;
  epoch = to.epoch;
  other_open = to.other_open;
  underway = None;
  left = [];
}

-- the last call is made: the group is committed, and its last number is returned
pub record Finishes {D : Type 0} (old : CommitterState D) (receipt : Receipt)
    (new : CommitterState D) : Type 0 where
  pub sound : old.broken ≡ false
  pub last : calls_left old.left ≡ 1
  pub group : Handed
  pub underway : old.underway ≡ Some (Storing group)
  pub told : receipt.number ≡ old.number + length group.entries
  pub new_is : new ≡ with_committed old
      (target_of (journal_at old) (bare old.rows) group.entries) group new.disk

-- the last call of a trim is made, and the number of roots that rows use is returned
pub record Trims {D : Type 0} (old : CommitterState D) (roots : ℕ)
    (new : CommitterState D) : Type 0 where
  pub sound : old.broken ≡ false
  pub last : calls_left old.left ≡ 1
  pub underway : old.underway ≡ Some Trimming
  pub told : roots ≡ roots_of_rows old.rows
  pub new_is : new ≡ record old { disk = new.disk; underway = None; left = [] }

-- the call failed
pub record CallFails {D : Type 0} (old new : CommitterState D) : Type 0 where
  pub sound : old.broken ≡ false
  pub some : 1 ≤ calls_left old.left
  pub new_is : new ≡ record old { disk = new.disk; broken = true }

-- an earlier call failed: no call, no change
pub record StaysBroken {D : Type 0} (old new : CommitterState D) : Type 0 where
  pub broken : old.broken ≡ true
  pub stays : new ≡ old

abbrev pub Advances : {D : Type 0} → CommitterState D → Result Progress AdvanceFault
    → CommitterState D → Type 0
Advances old (Ok Idle) new = Rests old new
Advances old (Ok Working) new = Works old new
Advances old (Ok (Done receipt)) new = Finishes old receipt new
Advances old (Ok (Trimmed roots)) new = Trims old roots new
Advances old (Err Device) new = CallFails old new
Advances old (Err Broken) new = StaysBroken old new

-- If nothing is left, or an earlier call failed, no device call is made. Otherwise exactly one is
-- made, and it fails exactly if a device fault is returned.
abbrev pub CallsDevice : {D : Type 0} → (D → D → Bool → Type 0) → D → Result Progress AdvanceFault
    → D → Type 0
CallsDevice called old (Ok Idle) new = new ≡ old
CallsDevice called old (Ok Working) new = called old new true
CallsDevice called old (Ok (Done receipt)) new = called old new true
CallsDevice called old (Ok (Trimmed roots)) new = called old new true
CallsDevice called old (Err Device) new = called old new false
CallsDevice called old (Err Broken) new = new ≡ old

-- after a trim the file ends with the last root that rows use, and all of it is durable
abbrev pub EndsBehind : Sizes → List ℕ → Unsynced → Result Progress AdvanceFault → Type 0
EndsBehind sizes contents unsynced (Ok Idle) = Unit {0}
EndsBehind sizes contents unsynced (Ok Working) = Unit {0}
EndsBehind sizes contents unsynced (Ok (Done receipt)) = Unit {0}
EndsBehind sizes contents unsynced (Ok (Trimmed roots)) =
    (length contents ≡ root_at sizes roots) × IsDurable contents unsynced
EndsBehind sizes contents unsynced (Err fault) = Unit {0}

-- The count of failures doesn't fall, and a device fault is returned only if it rose.
abbrev pub IsDevice : Result Progress AdvanceFault → Type 0
IsDevice (Ok progress) = ⊥
IsDevice (Err Device) = Unit {0}
IsDevice (Err Broken) = ⊥

pub record HasRisen (before now : ℕ) (result : Result Progress AdvanceFault) : Type 0 where
  pub later : before ≤ now
  pub device : IsDevice result → before < now
