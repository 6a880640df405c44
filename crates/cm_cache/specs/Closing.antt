-- What a cache that ran leaves: what was handed over, how much of it is durable, and what the
-- passes counted.
use Rattle.std.specs.Prelude.{◌≡◌, ℕ, ◌+◌, ◌-◌, ◌<◌, ◌≤◌, ◌++◌, true, List, length, take}
use Rattle.std.specs.List.{All, Contains, sum_by}
use Rattle.cm_disk.specs.Disk.{Unsynced}
use Rattle.cm_group.specs.Groups.{Carried}
use Rattle.cm_guards.specs.Guards.{EachImage}
use Rattle.cm_commit.specs.Offers.{rows_after_group}
use Rattle.cm_commit.specs.States.{ShowsCache}
use Rattle.cm_handover.specs.Ahead.{AllFollow}
use Rattle.cm_cache.specs.declared.board_view.Seen.{Seen}
use Rattle.cm_cache.specs.declared.channel.Base.{Base}
use Rattle.cm_cache.specs.declared.channel.Message.{Message}
use Rattle.cm_cache.specs.Channel.{OutgoingState, entries_of, AreApart}
use Rattle.cm_cache.specs.Handing.{AreHanded}
use Rattle.cm_cache.specs.Shared.{PassState, numbers_of_passes}

-- ---- counting

-- how many commands were handed over, how many passes aren't back, and how many commands were
-- accepted through those that are
pub record TallyState : Type 0 where
  pub handed : ℕ
  pub missing : ℕ
  pub of_passes : ℕ

-- These passes came back: none has seen more on the Board than what was posted, none is marked
-- unless a failure was, all changes of each were sent, and no two of them have one number.
pub record AreTaken (base : Base) (old : TallyState) (posted : Seen) (settled : OutgoingState)
    (passes : List PassState) (new : TallyState) (now : Seen) (after : OutgoingState)
    : Type 0 where
  pub handed : new.handed ≡ old.handed
  pub missing : new.missing + length passes ≡ old.missing
  pub of_passes : new.of_passes ≡ old.of_passes + sum_by (λ (p : PassState). p.share) passes
  pub posted_is : now ≡ posted
  pub seen : All (λ (p : PassState). p.seen.receipt.number ≤ posted.receipt.number) passes
  pub marked : All (λ (p : PassState). p.marked ≡ true → posted.broken ≡ true) passes
  pub sent_is : after.sent ≡ settled.sent
  pub owned_is : after.owned ≡ settled.owned ++ numbers_of_passes passes
  pub apart : AreApart settled.owned → AreApart after.owned
  pub counted : All (λ (p : PassState). length p.changes ≡ p.share) passes
  pub changes : All (λ (p : PassState). AreHanded base (entries_of settled.sent) p.changes) passes

-- ---- images

-- The image holds what was opened with a beginning of these entries, at least this many.
pub record ShowsBeginning (base : Base) (all : List Carried) (least : ℕ)
    (image : List ℕ) : Type 0 where
  pub stored : ℕ
  pub from : least ≤ stored
  pub to : stored ≤ length all
  pub shows : ShowsCache base.sizes (rows_after_group base.rows (take stored all))
      (base.number + stored) image

-- The image holds what was opened with a beginning of what was received, with all commands that the
-- Board says are durable.
abbrev pub ShowsPosted : Base → List Message → Seen → List ℕ → Type 0
ShowsPosted base received posted image =
    ShowsBeginning base (entries_of received) (posted.receipt.number - base.number) image

-- `handed` commands were handed over, each of which may follow those before it. Whatever a crash
-- leaves holds a beginning of them, with at least as many as are committed.
pub record LeavesBeginning (base : Base) (handed committed : ℕ) (contents : List ℕ)
    (unsynced : Unsynced) : Type 0 where
  pub all : List Carried
  pub count : length all ≡ handed
  pub follow : AllFollow base.sizes base.rows base.number all
  pub images : EachImage contents unsynced (ShowsBeginning base all committed)

-- each of as many numbers after this one
abbrev pub HasEachNumber : ℕ → ℕ → List ℕ → Type 0
HasEachNumber first count numbers = (k : ℕ) → k < count → Contains numbers (first + k + 1)

-- All changes of each of these passes, as many as its share says, are among those commands, each at
-- its number, and no two have one number. If no pass is missing, each of those commands is a change
-- of one of them.
pub record HoldsChanges (base : Base) (handed committed missing : ℕ) (passes : List PassState)
    (contents : List ℕ) (unsynced : Unsynced) : Type 0 where
  pub leaves : LeavesBeginning base handed committed contents unsynced
  pub counted : All (λ (p : PassState). length p.changes ≡ p.share) passes
  pub changes : All (λ (p : PassState). AreHanded base leaves.all p.changes) passes
  pub apart : AreApart (numbers_of_passes passes)
  pub whole : missing ≡ 0 → HasEachNumber base.number handed (numbers_of_passes passes)
