-- What a cache that was opened, used and closed leaves.
use Rattle.std.specs.Prelude.{◌≡◌, ℕ, ◌+◌, ◌<◌, ◌≤◌, ◌⊎◌, nat_le, if◌then◌else◌, false, List, []}
use Rattle.std.specs.Prelude.{◌∷◌, length, slice_index_or, vec_len, Result, Ok, Err}
use Rattle.std.specs.Global.{Vec}
use Rattle.std.specs.List.{All, sum_by}
use Rattle.cm_record.specs.Layout.{lay}
use Rattle.cm_layout.specs.Rows.{rows_with}
use Rattle.cm_disk.specs.Disk.{View}
use Rattle.cm_state.specs.Stands.{Stands}
use Rattle.cm_verdict.specs.Verdict.{Standing, state_in, arenas_in, verdict}
use Rattle.cm_commit.specs.States.{CommitterState}
use Rattle.cm_commands.specs.declared.refusal.Refusal.{Refusal}
use Rattle.cm_commands.specs.declared.refusal.Refusal.TheVariants as refusal
use Rattle.cm_verdict.specs.declared.fault.OpenFault.{OpenFault}
use Rattle.cm_verdict.specs.declared.fault.OpenFault.TheVariants as open_fault
use Rattle.cm_recover.specs.Opened.{OpensThrough}
use Rattle.cm_verdict.specs.Opening.{IsFaultIn}
use Rattle.cm_cache.specs.declared.channel.Base.{Base}
use Rattle.cm_cache.specs.Closing.{LeavesBeginning, HoldsChanges}
use Rattle.cm_cache.specs.Shared.{PassState, most_passes}
use Rattle.cm_cache.specs.Starting.{base_of}
use Rattle.cm_library.specs.declared.counts.Counts.{Counts}

-- the rows with the words of their records, and the number, that a file stands for
abbrev pub base_in : Standing → Base
base_in standing = record {
  sizes = standing.found.sizes;
  rows = rows_with lay standing.rows;
  number = standing.found.number;
}

-- ---- opening

-- The disk stood for a cache, which was opened.
pub record HasOpened {D : Type 0} (view : View D) (begun : D) : Type 0 where
  pub standing : Standing
  pub verdict_is : verdict (view.contents begun) ≡ Ok standing
  pub stands : Stands standing.found.sizes (view.contents begun) (state_in standing)
      (arenas_in standing) standing.found.number
  pub opened : D
  pub opening : OpensThrough view begun opened ⊥

-- this is the committer of the cache that the disk stood for, with the disk as opening left it
pub record IsOpened {D : Type 0} (view : View D) (begun : D) (committer : CommitterState D)
    : Type 0 where
  pub opens : HasOpened view begun
  pub disk_is : opens.opened ≡ committer.disk
  pub base_is : base_of committer ≡ base_in opens.standing
  pub failures_are : view.failures committer.disk ≡ view.failures begun

-- The cache wasn't opened, for a fault in the file's contents, the device's or an allocation's: the
-- disk is as opening left it.
pub record IsNotOpened {D : Type 0} (view : View D) (begun ended : D)
    (fault : OpenFault) : Type 0 where
  pub fault_is : IsFaultIn fault (verdict (view.contents begun))
  pub run : OpensThrough view begun ended (fault ≡ open_fault.Device)

-- ---- running

-- A cache that was opened with these rows is closed. Whatever a crash leaves of the disk holds them
-- with a beginning of the commands that were accepted, at least those that count as committed. All
-- changes of each pass are among these commands, each at its number, and if no pass is missing,
-- each of these commands is one of their changes. The passes are those that it was started with,
-- except for those that are missing. If no call of the disk failed, all commands are committed, and
-- no pass is marked.
pub record HasClosed {D : Type 0} (view : View D) (base : Base) (failures drawn : ℕ)
    (passes : List PassState) (counts : Counts) (disk : D) : Type 0 where
  pub shares : counts.of_passes ≡ sum_by (λ (p : PassState). p.share) passes
  pub counted : counts.of_passes ≤ counts.handed
  pub missing : counts.missing + length passes ≡ drawn
  pub all_back : counts.missing ≡ 0 → counts.of_passes ≡ counts.handed
  pub receipts : All (λ (p : PassState). p.seen.receipt.number ≤ base.number + counts.committed)
      passes
  pub images : LeavesBeginning base counts.handed counts.committed (view.contents disk)
      (view.unsynced disk)
  pub changes : HoldsChanges base counts.handed counts.committed counts.missing passes
      (view.contents disk) (view.unsynced disk)
  pub whole : view.failures disk ≡ failures → counts.committed ≡ counts.handed
  pub sure : view.failures disk ≡ failures → All (λ (p : PassState). p.marked ≡ false) passes

-- Work was done on a cache that was started with these rows and as many passes as `drawn` says,
-- and the cache is closed. These are the passes that came back.
pub record Closes {D : Type 0} (view : View D) (Keeps : List PassState → Type 0) (base : Base)
    (failures drawn : ℕ) (counts : Counts) (disk : D) : Type 0 where
  pub passes : List PassState
  pub keeps : Keeps passes
  pub closes : HasClosed view base failures drawn passes counts disk

-- The disk's cache was opened, and closed once work was done on it through `drawn` passes.
pub record RunsWork {D : Type 0} (view : View D) (Keeps : List PassState → Type 0) (drawn : ℕ)
    (begun : D) (counts : Counts) (disk : D) : Type 0 where
  pub opens : HasOpened view begun
  pub done : Closes view Keeps (base_in opens.standing) (view.failures begun) drawn counts disk

-- what holds of a work's output and of its pass, which is the only one
abbrev pub KeepsAlone : {T : Type 0} → (T → PassState → Type 0) → T → List PassState → Type 0
KeepsAlone keeps output passes =
    (pass : PassState) × (passes ≡ pass ∷ []) × keeps output pass

-- the fact holds of the elements at each place of two lists, which are as long
abbrev pub EachTwo : {A B : Type 0} → (A → B → Type 0) → List A → List B → Type 0
EachTwo {A} {B} Holds xs ys =
    (length ys ≡ length xs)
    × ((k : ℕ) (x : A) (y : B) → k < length xs
    → Holds (slice_index_or xs k x) (slice_index_or ys k y))

-- what holds of each work, of its output and of its pass: the outputs and the passes are in the
-- order of the works, one of each for each work
abbrev pub KeepsEach : {W T : Type 0} → (W → T → PassState → Type 0) → List W → List T
    → List PassState → Type 0
KeepsEach keeps [] [] [] = Unit {0}
KeepsEach keeps [] [] (pass ∷ passes) = ⊥
KeepsEach keeps [] (output ∷ outputs) passes = ⊥
KeepsEach keeps (work ∷ works) [] passes = ⊥
KeepsEach keeps (work ∷ works) (output ∷ outputs) [] = ⊥
KeepsEach keeps (work ∷ works) (output ∷ outputs) (pass ∷ passes) =
    keeps work output pass × KeepsEach keeps works outputs passes

-- with how many passes a cache is started for these works: one for each, none if they are too many
abbrev pub passes_for : ℕ → ℕ
passes_for works = if nat_le works most_passes then works else 0

-- why there are no outputs of works: an allocation failed, or they are too many
abbrev pub WhyNone : ℕ → Refusal → Type 0
WhyNone works r = (r ≡ refusal.NoMemory) ⊎ ((r ≡ refusal.NumbersSpent) × (most_passes < works))

-- what is returned of works: the output of each, or why there is none
abbrev pub KeepsWorks : {W T : Type 0} → (W → T → PassState → Type 0) → Vec W
    → Result (Vec T) Refusal → List PassState → Type 0
KeepsWorks keeps works (Ok outputs) passes = KeepsEach keeps works.items outputs.items passes
KeepsWorks keeps works (Err r) passes = WhyNone (vec_len works) r
