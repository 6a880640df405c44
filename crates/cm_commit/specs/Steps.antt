-- The steps that a committer takes through a checkpoint and a group's plan.
use Rattle.std.specs.Prelude.{◌≡◌, ℕ, zero, suc, ◌+◌, ◌-◌, ◌*◌, ◌^◌, ◌<◌, ◌≤◌, Bool, true, false}
use Rattle.std.specs.Prelude.{List, [], ◌∷◌, ◌++◌, drop, Option}
use Rattle.std.specs.Prelude.{Some, None, length}
use Rattle.std.specs.List.{flat_map, AllByRecursion}
use Rattle.cm_pool.specs.Geometry.{Sizes, IsGeometry}
use Rattle.cm_pool.specs.declared.place.Place.{Place}
use Rattle.cm_layout.specs.Offsets.{slot_at, half_at, root_size}
use Rattle.cm_layout.specs.Slots.{open_gate, row_slots, entry_slots}
use Rattle.cm_layout.specs.declared.row.Row.{Row}
use Rattle.cm_layout.specs.Rows.{slots_of_rows, bare}
use Rattle.cm_layout.specs.Rules.{row_limit}
use Rattle.cm_layout.specs.Frames.{BareRow}
use Rattle.cm_layout.specs.Framing.{other_half}
use Rattle.cm_group.specs.Groups.{Carried, Handed, entries_in, slots_taken}
use Rattle.cm_commit.specs.declared.journal_end.JournalEnd.{JournalEnd}
use Rattle.cm_commit.specs.declared.step.CommitStep.{CommitStep}
use Rattle.cm_commit.specs.declared.step.CommitStep.TheVariants as step
use Rattle.cm_commit.specs.declared.step.CheckpointStep.{CheckpointStep}
use Rattle.cm_commit.specs.declared.step.CheckpointStep.TheVariants as checkpoint
use Rattle.cm_commit.specs.declared.step.TrimStep.{TrimStep}
use Rattle.cm_commit.specs.declared.step.TrimStep.TheVariants as trim
use Rattle.cm_commit.specs.declared.step.PlanStep.{PlanStep}
use Rattle.cm_commit.specs.declared.step.PlanStep.TheVariants as plan
use Rattle.cm_guards.specs.Plans.{Write}
use Rattle.cm_guards.specs.Stages.{Stage, Store, Turn, MakeDurable}
use Rattle.cm_commit.specs.Checkpoints.{next_head, half_write, half_stages, checkpoint_of}
use Rattle.cm_commit.specs.Checkpoints.{target_of}
use Rattle.cm_commit.specs.GroupPlans.{writes_left, writes_of, all_writes, roots_of_entries}
use Rattle.cm_commit.specs.States.{Work, Storing, Trimming, CommitterState}
use Rattle.cm_commit.specs.Trims.{trim_plan}

-- the gate of the next group
abbrev pub next_gate : JournalEnd → ℕ
next_gate j = slot_at j.geometry j.half j.end

-- what entries write from a record of one of them on
abbrev pub writes_from : ℕ → ℕ → List Carried → List (Place × List ℕ)
writes_from entry n [] = []
writes_from zero n (c ∷ carried) = drop n (writes_of c.entry c.moved) ++ all_writes carried
writes_from (suc entry) n (c ∷ carried) = writes_from entry n carried

-- the stages that are left at a step
abbrev pub stages_at : JournalEnd → Handed → CommitStep → List Stage
stages_at j group (step.Grow roots) =
    Store (writes_left j.geometry j.half j.end j.number group.entries roots
    (all_writes group.entries))
    ∷ Turn (next_gate j) open_gate ∷ []
stages_at j group (step.Write entry n) =
    Store (writes_left j.geometry j.half j.end j.number group.entries
    (roots_of_entries (entries_in group.entries)) (writes_from entry n group.entries))
    ∷ Turn (next_gate j) open_gate ∷ []
stages_at j group step.Sync = Store [] ∷ Turn (next_gate j) open_gate ∷ []
stages_at j group step.Gate = Turn (next_gate j) open_gate ∷ []
stages_at j group step.LastSync = MakeDurable ∷ []
stages_at j group step.Done = []

-- the half that a checkpoint writes, and its gate
abbrev pub renewed_half : JournalEnd → List BareRow → List Stage
renewed_half j rows =
    half_stages j.geometry (other_half j.half) (next_head j.epoch j.number rows) rows

abbrev pub half_gate : JournalEnd → ℕ
half_gate j = half_at j.geometry (other_half j.half)

abbrev pub renewed_write : JournalEnd → List BareRow → Write
renewed_write j rows =
    half_write j.geometry (other_half j.half) (next_head j.epoch j.number rows) rows

-- the sync after what shuts the other half's gate, which was open or not
abbrev pub shut_sync : Bool → Stage
shut_sync true = MakeDurable
shut_sync false = Store []

-- the stages of a checkpoint that are left at a step
abbrev pub checkpoint_left : JournalEnd → List BareRow → CheckpointStep → List Stage
checkpoint_left j rows checkpoint.Shut = checkpoint_of j rows
checkpoint_left j rows checkpoint.SyncShut = shut_sync j.other_open ∷ renewed_half j rows
checkpoint_left j rows checkpoint.Write = renewed_half j rows
checkpoint_left j rows checkpoint.SyncWritten = Store [] ∷ Turn (half_gate j) open_gate ∷ []
checkpoint_left j rows checkpoint.Open = Turn (half_gate j) open_gate ∷ []
checkpoint_left j rows checkpoint.SyncOpened = MakeDurable ∷ []

-- the same for the next step, with none left at the end
abbrev pub checkpoint_rest : JournalEnd → List BareRow → Option CheckpointStep → List Stage
checkpoint_rest j rows None = []
checkpoint_rest j rows (Some at) = checkpoint_left j rows at

-- The stages of a group that are left at a step, given where the journal continued before it, its
-- live rows, and how many whole roots the file had.
abbrev pub plan_left : JournalEnd → List BareRow → ℕ → Handed → PlanStep → List Stage
plan_left j rows roots group (plan.Checkpoint at) =
    checkpoint_left j rows at
    ++ stages_at (target_of j rows group.entries) group (step.Grow roots)
plan_left j rows roots group (plan.Group s) = stages_at (target_of j rows group.entries) group s
plan_left j rows roots group (plan.Trim at) = []

-- the stages of a trim that leaves this many roots
abbrev pub trim_left : Sizes → ℕ → TrimStep → List Stage
trim_left sizes roots trim.Cut = trim_plan sizes roots
trim_left sizes roots trim.Sync = Store [] ∷ []

-- the same for the next step, with none left at the end
abbrev pub trim_rest : Sizes → ℕ → Option TrimStep → List Stage
trim_rest sizes roots None = []
trim_rest sizes roots (Some at) = trim_left sizes roots at

-- the stages left if no group is under way, but a trim may be
abbrev pub ungrouped_left : Sizes → ℕ → PlanStep → List Stage
ungrouped_left sizes roots (plan.Checkpoint at) = []
ungrouped_left sizes roots (plan.Group s) = []
ungrouped_left sizes roots (plan.Trim at) = trim_left sizes roots at

abbrev pub stages_left : JournalEnd → List BareRow → ℕ → Option Handed → PlanStep → List Stage
stages_left j rows roots None s = ungrouped_left j.geometry roots s
stages_left j rows roots (Some group) s = plan_left j rows roots group s

-- what is under way, by the group and the next step
abbrev pub ungrouped_work : PlanStep → Option Work
ungrouped_work (plan.Checkpoint at) = None
ungrouped_work (plan.Group s) = None
ungrouped_work (plan.Trim at) = Some Trimming

abbrev pub work_of : Option Handed → PlanStep → Option Work
work_of None s = ungrouped_work s
work_of (Some group) s = Some (Storing group)

-- the state of a committer with these parts
abbrev pub committer_of : {D : Type 0} → D → JournalEnd → List (Row (List ℕ)) → ℕ → Option Handed
    → PlanStep → Bool → CommitterState D
committer_of disk j rows roots group s broken = record {
  disk = disk;
  sizes = j.geometry;
  rows = rows;
  number = j.number;
  half = j.half;
  end = j.end;
  epoch = j.epoch;
  other_open = j.other_open;
  underway = work_of group s;
  left = stages_left j (bare rows) roots group s;
  broken = broken;
}

-- the step isn't one of a trim
abbrev pub is_trim : PlanStep → Bool
is_trim (plan.Checkpoint at) = false
is_trim (plan.Group s) = false
is_trim (plan.Trim at) = true

-- ---- what the writes of a checkpoint need

-- the half that a checkpoint writes has room for the rows, and its head's numbers fit
pub record FitsHalf (j : JournalEnd) (rows : List BareRow) : Type 0 where
  pub lawful : IsGeometry j.geometry
  pub few : slots_of_rows rows ≤ row_limit j.geometry
  pub size : length (flat_map row_slots rows) ≡ 64 * slots_of_rows rows
  pub epoch : j.epoch + 1 < 2 ^ 64
  pub number : j.number < 2 ^ 64

-- ---- what the writes of a group need

-- no record has more bytes than this
abbrev pub AreSmall : ℕ → List (Place × List ℕ) → Type 0
AreSmall size writes = AllByRecursion (λ w. 8 * length w.1 ≤ size) writes

-- each record lies at an offset of 32 bits
abbrev pub HaveOffsets : List (Place × List ℕ) → Type 0
HaveOffsets writes = AllByRecursion (λ w. w.0.offset < 2 ^ 32 - 1) writes

-- the writes of a group fit the region, there are fewer than 2^32 of them, and a root has room for
-- the bytes of each
pub record FitsJournal (j : JournalEnd) (group : Handed) : Type 0 where
  pub lawful : IsGeometry j.geometry
  pub small : AreSmall (root_size j.geometry) (all_writes group.entries)
  pub few : length (all_writes group.entries) < 2 ^ 32
  pub offsets : HaveOffsets (all_writes group.entries)
  pub roots : roots_of_entries (entries_in group.entries) ≤ j.geometry.roots
  pub number : j.number < 2 ^ 63
  pub room : j.end + slots_taken group.entries < j.geometry.slots
  pub size : length (flat_map entry_slots (entries_in group.entries))
      ≡ 64 * slots_taken group.entries
