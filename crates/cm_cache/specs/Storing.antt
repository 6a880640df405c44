-- A group is stored by its device calls, one after another.
use Rattle.std.specs.Prelude.{◌≡◌, ℕ, ◌+◌, true, false, List, length, Some, None}
use Rattle.cm_group.specs.Groups.{Handed}
use Rattle.cm_guards.specs.Gates.{OneOf}
use Rattle.cm_guards.specs.Stages.{calls_left}
use Rattle.cm_commit.specs.Offers.{rows_after_group}
use Rattle.cm_commit.specs.States.{Storing, CommitterState, ShowsCommitted, ShowsWith}

-- what is committed is the same
pub record SameCommitted {D : Type 0} (old new : CommitterState D) : Type 0 where
  pub sizes : new.sizes ≡ old.sizes
  pub rows : new.rows ≡ old.rows
  pub number : new.number ≡ old.number

-- the group is under way, and calls for it are left
pub record IsUnderway {D : Type 0} (old : CommitterState D) (group : Handed)
    (new : CommitterState D) : Type 0 where
  pub same : SameCommitted old new
  pub sound : new.broken ≡ false
  pub group_is : new.underway ≡ Some (Storing group)
  pub some : ℕ
  pub left : calls_left new.left ≡ some + 1

-- the group is committed, and its last number is returned
pub record IsCommittedGroup {D : Type 0} (old : CommitterState D) (group : Handed) (told : ℕ)
    (new : CommitterState D) : Type 0 where
  pub sizes : new.sizes ≡ old.sizes
  pub rows : new.rows ≡ rows_after_group old.rows group.entries
  pub number : new.number ≡ old.number + length group.entries
  pub sound : new.broken ≡ false
  pub idle : new.underway ≡ None
  pub is_told : told ≡ new.number

-- the device failed while the group was under way
pub record IsLeftBroken {D : Type 0} (old : CommitterState D) (group : Handed)
    (new : CommitterState D) : Type 0 where
  pub same : SameCommitted old new
  pub broken : new.broken ≡ true
  pub group_is : new.underway ≡ Some (Storing group)

-- the image shows what is committed, without this group or with all of it
abbrev pub ShowsEither : {D : Type 0} → CommitterState D → Handed → List ℕ → Type 0
ShowsEither s group image =
    OneOf (ShowsCommitted s) (ShowsWith s (Some (Storing group))) image
