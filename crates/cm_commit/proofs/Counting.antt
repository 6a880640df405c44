-- How many device calls a plan is.
-- For `calls_at`, `plans_have_steps`.
use Rattle.std.proofs.Common.{◌≡◌, ℕ, zero, suc, ◌+◌, ◌-◌, Bool, true, false, cond, List, [], ◌∷◌}
use Rattle.std.proofs.Common.{◌++◌, length, arith, refl}
use Rattle.std.proofs.lemmas.List.{length-append, length-map}
use Rattle.cm_pool.specs.Geometry.{Sizes}
use Rattle.cm_pool.specs.declared.place.Place.{Place}
use Rattle.cm_layout.specs.declared.half.Half.{Half}
use Rattle.cm_layout.specs.Rows.{bare}
use Rattle.cm_layout.specs.Frames.{BareRow}
use Rattle.cm_guards.specs.Stages.{calls_left}
use Rattle.cm_guards.proofs.{calls_left-append}
use Rattle.cm_group.specs.Groups.{Carried, Handed, entries_in}
use Rattle.cm_commit.specs.declared.journal_end.JournalEnd.{JournalEnd}
use Rattle.cm_commit.specs.declared.step.CommitStep.TheVariants as step
use Rattle.cm_commit.specs.declared.step.CheckpointStep.{CheckpointStep}
use Rattle.cm_commit.specs.declared.step.CheckpointStep.TheVariants as checkpoint
use Rattle.cm_commit.specs.Committed.{journal_of}
use Rattle.cm_commit.specs.Checkpoints.{is_due, renewed_journal, checkpoint_of, shut_stages}
use Rattle.cm_commit.specs.Steps.{stages_at, writes_from, half_gate, renewed_half, shut_sync}
use Rattle.cm_commit.specs.Steps.{checkpoint_left}
use Rattle.cm_commit.specs.GroupPlans.{root_writes, all_writes, record_writes, place_write}
use Rattle.cm_commit.specs.GroupPlans.{whole_roots, slots_write, roots_of_entries}
use Rattle.cm_commit.specs.GroupPlans.{plan_at, plan_of}
use Rattle.cm_commit.specs.Laws.{PlansHaveSteps}

root-count : (sizes : Sizes) (from n : ℕ) → length (root_writes sizes from n) ≡ n
root-count sizes from zero = omega arith
root-count sizes from (suc n) = omega (arith, root-count sizes (from + 1) n)

writes-count : (sizes : Sizes) (writes : List (Place × List ℕ))
    → length (record_writes sizes writes) ≡ length writes
writes-count sizes writes =
    length-map writes (λ (w : Place × List ℕ). place_write sizes w.0 w.1)

-- how many calls of a group are left while it is written
pub calls_write : (j : JournalEnd) (group : Handed) (entry n : ℕ)
    → calls_left (stages_at j group (step.Write entry n))
    ≡ length (writes_from entry n group.entries) + 4
calls_write j group entry n =
    let needed = roots_of_entries (entries_in group.entries) in
    let zeros = root_writes j.geometry needed (needed - needed) in
    let unwritten = writes_from entry n group.entries in
    let records = record_writes j.geometry unwritten in
    let slots = slots_write j.geometry j.half j.end j.number (entries_in group.entries) ∷ [] in
    omega (
      arith,
      length-append (zeros ++ records) slots,
      length-append zeros records,
      writes-count j.geometry unwritten,
      root-count j.geometry needed (needed - needed),
    )

-- how many are left before its first call
pub group_counts : (sizes : Sizes) (half : Half) (slot n roots : ℕ) (carried : List Carried)
    → calls_left (plan_at sizes half slot n roots carried)
    ≡ 4 + (roots_of_entries (entries_in carried) - roots) + length (all_writes carried)
group_counts sizes half slot n roots carried =
    let more = roots_of_entries (entries_in carried) - roots in
    let zeros = root_writes sizes roots more in
    let records = record_writes sizes (all_writes carried) in
    let slots = slots_write sizes half slot n (entries_in carried) ∷ [] in
    omega (
      arith,
      length-append (zeros ++ records) slots,
      length-append zeros records,
      writes-count sizes (all_writes carried),
      root-count sizes roots more,
    )

checkpoint_counts : (j : JournalEnd) (rows : List BareRow) → calls_left (checkpoint_of j rows) ≡ 6
checkpoint_counts j rows = by_test j.other_open
  where
    by_test : (t : Bool)
        → calls_left (shut_stages t (half_gate j) ++ renewed_half j rows) ≡ 6
    by_test true = refl
    by_test false = refl

-- how many calls a group takes, with a checkpoint if there is one
pub plan_counts : (j : JournalEnd) (rows : List BareRow) (roots : ℕ) (carried : List Carried)
    → calls_left (plan_of j rows roots carried)
    ≡ 4 + (roots_of_entries (entries_in carried) - roots)
    + length (all_writes carried) + cond (is_due j carried) 6 0
plan_counts j rows roots carried = by_test (is_due j carried)
  where
    by_test : (t : Bool)
        → calls_left (cond t (checkpoint_of j rows) []
        ++ plan_at (cond t (renewed_journal j rows) j).geometry
        (cond t (renewed_journal j rows) j).half (cond t (renewed_journal j rows) j).end
        (cond t (renewed_journal j rows) j).number roots carried)
        ≡ 4 + (roots_of_entries (entries_in carried) - roots)
        + length (all_writes carried) + cond t 6 0
    by_test true =
        let r = renewed_journal j rows in
        let all = calls_left-append (checkpoint_of j rows)
        (plan_at r.geometry r.half r.end r.number roots carried) in
        omega (
          arith,
          all,
          checkpoint_counts j rows,
          group_counts r.geometry r.half r.end r.number roots carried,
        )
    by_test false =
        omega (arith, group_counts j.geometry j.half j.end j.number roots carried)

pub plans_have_steps : PlansHaveSteps
plans_have_steps c len carried =
    plan_counts (journal_of c) (bare c.rows) (whole_roots c.sizes len) carried

-- how many calls of a checkpoint are left
pub checkpoint_calls : (j : JournalEnd) (rows : List BareRow) (at : CheckpointStep)
    → calls_left (checkpoint_left j rows at) ≡ elim at [
      | checkpoint.Shut ↦ 6
      | checkpoint.SyncShut ↦ 5
      | checkpoint.Write ↦ 4
      | checkpoint.SyncWritten ↦ 3
      | checkpoint.Open ↦ 2
      | checkpoint.SyncOpened ↦ 1
    ]
checkpoint_calls j rows checkpoint.Shut = checkpoint_counts j rows
checkpoint_calls j rows checkpoint.SyncShut = by_test j.other_open
  where
    by_test : (t : Bool) → calls_left (shut_sync t ∷ renewed_half j rows) ≡ 5
    by_test true = refl
    by_test false = refl
checkpoint_calls j rows checkpoint.Write = refl
checkpoint_calls j rows checkpoint.SyncWritten = refl
checkpoint_calls j rows checkpoint.Open = refl
checkpoint_calls j rows checkpoint.SyncOpened = refl
