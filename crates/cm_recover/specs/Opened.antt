-- The result of opening a file: the accepted cache and its committer, both with what the file
-- stands for.
use Rattle.std.specs.Prelude.{◌≡◌, ◌<◌, ◌≤◌, ◌⊎◌, ◌^◌, ℕ, List, [], ◌∷◌, length, None, Bool}
use Rattle.std.specs.Prelude.{Result, Ok, Err, IfOk, IfErr, true, false, nat_lt, if◌then◌else◌}
use Rattle.std.specs.FinMap as map
use Rattle.cm_class.specs.declared.class_file.ClassFile.{ClassFile}
use Rattle.cm_pool.specs.Geometry.{IsGeometry}
use Rattle.cm_record.specs.Layout.{lay, limit}
use Rattle.cm_layout.specs.declared.row.Row.{Row}
use Rattle.cm_layout.specs.declared.row.Row.TheVariants.{Loader, Class}
use Rattle.cm_layout.specs.Rows.{rows_with, bare}
use Rattle.cm_layout.specs.Frames.{entry_version}
use Rattle.cm_layout.specs.Laws.{IsNewest}
use Rattle.cm_layout.specs.Framing.{Framing, IsRightFraming, Matches}
use Rattle.cm_disk.specs.Disk.{View, Unsynced, IsImage, IsWithin, IsDurable}
use Rattle.cm_guards.specs.Calls.{LeavesOnly}
use Rattle.cm_state.specs.Stands.{Stands, Arenas}
use Rattle.cm_state.specs.State.{words_show}
use Rattle.cm_state.specs.Entries.{AreCacheRows}
use Rattle.cm_verdict.specs.Verdict.{Standing, state_in, arenas_in, verdict}
use Rattle.cm_front.specs.Front.{FrontState}
use Rattle.cm_group.specs.Groups.{AreRight}
use Rattle.cm_front.specs.Arenas.{chunks_owned}
use Rattle.cm_front.specs.Restoring.{Restores}
use Rattle.cm_commit.specs.States.{CommitterState, ShowsCache}
use Rattle.cm_commit.specs.declared.journal_end.JournalEnd.{JournalEnd}
use Rattle.cm_commit.specs.Checkpoints.{renewed_journal}
use Rattle.cm_commit.specs.Committed.{end_slot}
use Rattle.cm_verdict.specs.Opening.{IsFaultIn, other_is_open}
use Rattle.cm_recover.specs.declared.opening.NotOpened.{NotOpened}
use Rattle.cm_verdict.specs.declared.fault.OpenFault.TheVariants as open_fault

-- from each loader's name to the chunks of its arena in the accepted cache
abbrev pub arenas_by_name : List (Row ClassFile) → FrontState → Arenas
arenas_by_name [] front = map.empty
arenas_by_name (Loader r ∷ rows) front =
    map.insert (arenas_by_name rows front) r.name (chunks_owned front r.number)
arenas_by_name (Class r c ∷ rows) front = arenas_by_name rows front

-- no record is longer than the limit
abbrev pub AreShort : List (Row (List ℕ)) → Type 0
AreShort [] = Unit {0}
AreShort (Loader r ∷ rows) = AreShort rows
AreShort (Class r words ∷ rows) = (length words ≤ limit) × AreShort rows

-- what a file stands for is what its contents frame, with rows of a cache
pub record OpensStanding (contents : List ℕ) (s : Standing) (rows : List (Row (List ℕ))) : Type 0
  where
    pub framing : Framing
    pub counting_is : framing.counting ≡ s.found.half
    pub head_is : framing.head ≡ s.found.head
    pub end_is : end_slot framing ≡ s.found.end
    pub right : IsRightFraming s.found.sizes framing rows s.found.number
    pub matches : Matches s.found.sizes framing rows contents
    pub cache : AreCacheRows words_show s.found.sizes s.found.number rows
    pub records : AreRight rows
    pub number_is : s.found.number ≤ 2 ^ 63
    pub lawful : IsGeometry s.found.sizes

-- where the journal continues in a file of these contents
abbrev pub found_journal : List ℕ → Standing → JournalEnd
found_journal contents s = record {
  geometry = s.found.sizes;
  half = s.found.half;
  end = s.found.end;
  epoch = s.found.head.epoch;
  other_open = other_is_open s.found.sizes s.found.half contents;
  number = s.found.number;
}

-- the half that counts is of version 1
abbrev pub is_older : Standing → Bool
is_older s = nat_lt s.found.head.version entry_version

-- where it continues once the file is opened: in the other half, if that was written anew
abbrev pub opened_journal : List ℕ → Standing → JournalEnd
opened_journal contents s =
    if is_older s then renewed_journal (found_journal contents s) (bare (rows_with lay s.rows))
    else found_journal contents s

-- The contents stand for a cache, and both parts have its rows with the words of their records, and
-- its number. The accepted cache has the arenas that the contents stand for, and nothing to hand
-- out; the committer has nothing under way.
pub record Opens {D : Type 0} (contents : List ℕ) (front : FrontState)
    (committer : CommitterState D)
    : Type 0 where
  pub standing : Standing
  pub verdict_is : verdict contents ≡ Ok standing
  pub stands : Stands standing.found.sizes contents (state_in standing) (arenas_in standing)
      standing.found.number
  pub front_is : Restores
      (record { sizes = standing.found.sizes; rows = rows_with lay standing.rows })
      standing.found.number front
  pub arenas_are : arenas_by_name standing.rows front ≡ arenas_in standing
  pub committer_is : committer ≡ record {
    disk = committer.disk;
    sizes = standing.found.sizes;
    rows = rows_with lay standing.rows;
    number = standing.found.number;
    half = (opened_journal contents standing).half;
    end = (opened_journal contents standing).end;
    epoch = (opened_journal contents standing).epoch;
    other_open = (opened_journal contents standing).other_open;
    underway = None;
    left = [];
    broken = false;
  }

-- ---- the device

-- A run of calls that sync and read: the contents stay, no more is unsynced after it, at each
-- moment a crash leaves what it might have left before, and a fault is returned exactly if the
-- device failed during the run.
pub record SyncsAndReads {D : Type 0} (view : View D) (old new : D)
    (Faulted : Type 0) : Type 0 where
  pub contents_stay : view.contents new ≡ view.contents old
  pub no_more : IsWithin (view.unsynced old) (view.unsynced new)
  pub images : LeavesOnly view old new (IsImage (view.contents old) (view.unsynced old))
  pub later : view.failures old ≤ view.failures new
  pub cause : Faulted → view.failures old < view.failures new
  pub no_cause : (Faulted → ⊥) → view.failures new ≡ view.failures old

-- The contents stand for a cache whose half that counts is of version 1: the file is upgraded when
-- it is opened.
pub record IsOlderFile (contents : List ℕ) : Type 0 where
  pub standing : Standing
  pub verdict_is : verdict contents ≡ Ok standing
  pub older : is_older standing ≡ true

-- the image stands for the cache that the contents stand for
pub record StandsForSame (contents image : List ℕ) : Type 0 where
  pub standing : Standing
  pub verdict_is : verdict contents ≡ Ok standing
  pub shows : ShowsCache standing.found.sizes (rows_with lay standing.rows) standing.found.number
      image

-- A crash leaves what it might have left before, or what stands for the same cache.
abbrev pub LeavesSame : List ℕ → Unsynced → List ℕ → Type 0
LeavesSame contents unsynced image =
    IsImage contents unsynced image ⊎ StandsForSame contents image

-- a fault is returned exactly if the device failed
pub record TellsDevice (before now : ℕ) (Faulted : Type 0) : Type 0 where
  pub later : before ≤ now
  pub cause : Faulted → before < now
  pub no_cause : (Faulted → ⊥) → now ≡ before

-- What opening does to the disk. Unless the file is of version 1, it is a run of calls that sync
-- and read. At each moment a crash leaves what it might have left before, or what stands for the
-- same cache.
pub record OpensThrough {D : Type 0} (view : View D) (old new : D)
    (Faulted : Type 0) : Type 0 where
  pub reads_alone : (IsOlderFile (view.contents old) → ⊥) → SyncsAndReads view old new Faulted
  pub images : LeavesOnly view old new (LeavesSame (view.contents old) (view.unsynced old))
  pub later : view.failures old ≤ view.failures new
  pub cause : Faulted → view.failures old < view.failures new
  pub no_cause : (Faulted → ⊥) → view.failures new ≡ view.failures old

-- the disk after it was opened, or handed back
abbrev pub disk_after : {D : Type 0} → Result (FrontState × CommitterState D) (NotOpened D) → D
disk_after (Ok opened) = opened.1.disk
disk_after (Err not_opened) = not_opened.disk

abbrev pub MeetsDevice : {A D : Type 0} → Result A (NotOpened D) → Type 0
MeetsDevice (Ok opened) = ⊥
MeetsDevice (Err not_opened) = not_opened.fault ≡ open_fault.Device

-- What a file is opened to, and what opening does to its disk.
pub record OpensFile {D : Type 0} (view : View D) (disk : D)
    (result : Result (FrontState × CommitterState D) (NotOpened D)) : Type 0 where
  pub opened : IfOk result (λ p. Opens (view.contents disk) p.0 p.1)
  pub same : IfOk result (λ p. StandsForSame (view.contents disk) (view.contents p.1.disk))
  pub newest : IfOk result (λ p. IsNewest (view.contents p.1.disk))
  pub stored : IfOk result
      (λ p. IsDurable (view.contents p.1.disk) (view.unsynced p.1.disk))
  pub fault : IfErr result (λ e. IsFaultIn e.fault (verdict (view.contents disk)))
  pub run : OpensThrough view disk (disk_after result) (MeetsDevice result)
