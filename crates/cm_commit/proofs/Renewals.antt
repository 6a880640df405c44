-- The journal is written anew, one device call after another: at each moment a crash leaves what is
-- committed.
-- For `make_calls`, `renew`.
use Rattle.std.proofs.Common.{◌≡◌, ℕ, ◌+◌, List, [], length, Option, Some, None, refl}
use Rattle.std.proofs.Common.{sym, ap, subst, ◌∙◌, arith, append-nil}
use Rattle.std.specs.Prelude.{Result, Ok, Err, IsOk, IsErrAnd}
use Rattle.cm_disk.specs.Disk.{View, OnlyNow, Unsynced, IsSound}
use Rattle.cm_layout.specs.declared.row.Row.{Row}
use Rattle.cm_layout.specs.Rows.{bare, slots_of_rows}
use Rattle.cm_layout.specs.Frames.{IsGoodHead, entry_version}
use Rattle.cm_layout.specs.Laws.{IsFramed}
use Rattle.cm_guards.specs.Calls.{LeavesOnly}
use Rattle.cm_guards.specs.Stages.{Stage, StagesStand, IsReady, CallsOnce, TakesCall, after_call}
use Rattle.cm_guards.specs.Stages.{leaves}
use Rattle.cm_guards.proofs.{ready_stands, takes_call, call_done, call_moments, leaves_more}
use Rattle.cm_guards.proofs.{leaves_none, leaves_on, leaves_one, leaves_so, durable_images}
use Rattle.cm_commit.specs.declared.journal_end.JournalEnd.{JournalEnd}
use Rattle.cm_commit.specs.declared.step.CheckpointStep.{CheckpointStep}
use Rattle.cm_commit.specs.declared.step.CheckpointStep.TheVariants as checkpoint
use Rattle.cm_commit.specs.Committed.{Committed, journal_of}
use Rattle.cm_commit.specs.Checkpoints.{renewed, renewed_framing, renewed_journal}
use Rattle.cm_commit.specs.Checkpoints.{checkpoint_of, checkpoint_plan, shut_stages}
use Rattle.cm_commit.specs.GroupPlans.{whole_roots}
use Rattle.cm_commit.specs.Guarding.{ContentsShow, HoldsCommitted, IsCommitted}
use Rattle.cm_commit.specs.Keeps.{IsHeld}
use Rattle.cm_commit.specs.Laws.{IsRenewed}
use Rattle.cm_commit.specs.Renewals.{MayRenew}
use Rattle.cm_commit.specs.Steps.{FitsHalf, checkpoint_left, checkpoint_rest, half_gate}
use Rattle.cm_commit.proofs.Advancing.{of_ok, some_behind}
use Rattle.cm_commit.proofs.Journals.{half_fits}
use Rattle.cm_commit.proofs.NewHalves.{good_head}
use Rattle.cm_commit.proofs.Renewing.{checkpoints_renew}

module _ (contents : List ℕ) (unsynced : Unsynced) (journal : JournalEnd)
    (rows : List (Row (List ℕ))) (may : MayRenew contents unsynced journal rows) where
  abbrev pub kept : Committed
  kept = record {
    sizes = journal.geometry;
    rows = rows;
    number = journal.number;
    framing = may.held.framing;
  }

  right : IsCommitted kept
  right = may.held.right

  journal_is : journal ≡ journal_of kept
  journal_is = may.held.journal_is

  head : IsGoodHead kept.sizes (renewed_framing kept).head
  head =
      let epoch = ap (λ (j : JournalEnd). j.epoch) journal_is in
      good_head kept right (omega (arith, epoch, may.epoch))

  is_renewed : IsRenewed kept contents
  is_renewed = checkpoints_renew kept contents right head may.held.matches

  ready : IsReady (HoldsCommitted kept) (ContentsShow (renewed kept)) (length contents)
      (checkpoint_plan kept)
      contents
  ready =
      subst (λ (plan : List Stage). IsReady (HoldsCommitted kept) (ContentsShow (renewed kept))
      (length contents)
      plan contents) (append-nil (checkpoint_plan kept))
      (is_renewed.before (renewed kept) (length contents) []
      (record { holds = is_renewed.shows; size = is_renewed.size }))

  -- what holds of a disk if these stages are left
  abbrev pub Stand : List Stage → List ℕ → Unsynced → Type 0
  Stand left now loose =
      StagesStand (HoldsCommitted kept) (ContentsShow (renewed kept)) (length contents) left now
      loose

  pub first_stands : Stand (checkpoint_of journal (bare rows)) contents unsynced
  first_stands =
      subst (λ (j : JournalEnd). Stand (checkpoint_of j (bare rows)) contents unsynced)
      (sym journal_is)
      (ready_stands (HoldsCommitted kept) (ContentsShow (renewed kept)) (length contents)
      (checkpoint_plan kept)
      contents unsynced may.held.durable ready)

  pub half : FitsHalf journal (bare rows)
  half =
      subst (λ (j : JournalEnd). FitsHalf j (bare rows)) (sym journal_is) (half_fits kept right)

  abbrev pub Frames : List ℕ → Type 0
  Frames image = IsFramed journal.geometry image rows journal.number

  pub held_frames : (image : List ℕ) → HoldsCommitted kept image → Frames image
  held_frames image held = record {
    framing = held.framing;
    right = held.right;
    matches = held.matches;
  }

  shown_frames : (image : List ℕ) → ContentsShow (renewed kept) image → Frames image
  shown_frames image shows = record {
    framing = renewed_framing kept;
    right = is_renewed.right;
    matches = shows;
  }

  -- what is framed at entry
  framed_here : Frames contents
  framed_here = record {
    framing = may.held.framing;
    right = right;
    matches = may.held.matches;
  }

  pub some_left : (at : CheckpointStep) → checkpoint_left journal (bare rows) at ≡ [] → ⊥
  some_left checkpoint.Shut e =
      some_behind (shut_stages journal.other_open (half_gate journal)) _ _ e
  some_left checkpoint.SyncShut e = absurd (cc)
  some_left checkpoint.Write e = absurd (cc)
  some_left checkpoint.SyncWritten e = absurd (cc)
  some_left checkpoint.Open e = absurd (cc)
  some_left checkpoint.SyncOpened e = absurd (cc)

  -- the same if the next step is known, or there is none
  stands_at : (next : Option CheckpointStep) (at : CheckpointStep) → next ≡ Some at
      → (now : List ℕ) (loose : Unsynced)
      → Stand (checkpoint_rest journal (bare rows) next) now loose
      → Stand (checkpoint_left journal (bare rows) at) now loose
  stands_at next at is now loose =
      subst (λ (o : Option CheckpointStep). Stand (checkpoint_rest journal (bare rows) o) now loose)
      is

  stands_end : (next : Option CheckpointStep)
      → ((at : CheckpointStep) → next ≡ Some at → ⊥)
      → (now : List ℕ) (loose : Unsynced)
      → Stand (checkpoint_rest journal (bare rows) next) now loose
      → Stand [] now loose
  stands_end None none now loose stands = stands
  stands_end (Some at) none now loose stands = absurd (none at refl)

  -- ---- one call

  module _ {D E : Type 0} (view : View D) (only_now : OnlyNow view) (old new : D)
      (next : Option CheckpointStep) (at : CheckpointStep) (is : next ≡ Some at)
      (r : Result (Option CheckpointStep) E)
      (stands : Stand (checkpoint_rest journal (bare rows) next) (view.contents old)
      (view.unsynced old))
      (call : CallsOnce view (checkpoint_left journal (bare rows) at) old new r) where
    abbrev left : List Stage
    left = checkpoint_left journal (bare rows) at

    here : Stand left (view.contents old) (view.unsynced old)
    here = stands_at next at is (view.contents old) (view.unsynced old) stands

    pub frames_on : (first : D) → LeavesOnly view first old Frames
        → LeavesOnly view first new Frames
    frames_on first so_far =
        leaves_on view first old new Frames so_far
        (leaves_more view old new (leaves left (HoldsCommitted kept) (ContentsShow (renewed kept)))
        Frames
        (λ image l. leaves_one left Frames image
        (leaves_so left (HoldsCommitted kept) (ContentsShow (renewed kept)) Frames Frames
        held_frames shown_frames
        image l))
        (call_moments view only_now (HoldsCommitted kept) (ContentsShow (renewed kept))
        (length contents) old new r
        left here call))

    pub stands_on : (s : Option CheckpointStep) → r ≡ Ok s
        → checkpoint_rest journal (bare rows) s ≡ after_call left
        → Stand (checkpoint_rest journal (bare rows) s) (view.contents new) (view.unsynced new)
    stands_on s e next =
        subst (λ (l : List Stage). Stand l (view.contents new) (view.unsynced new)) (sym next)
        (of_ok r (Stand (after_call left) (view.contents new) (view.unsynced new)) s e
        (call_done view only_now (HoldsCommitted kept) (ContentsShow (renewed kept))
        (length contents) old new r
        left here call))

  -- the next call can be made
  pub takes : (next : Option CheckpointStep) (at : CheckpointStep) → next ≡ Some at
      → (now : List ℕ) (loose : Unsynced) → IsSound now loose
      → Stand (checkpoint_rest journal (bare rows) next) now loose
      → TakesCall (checkpoint_left journal (bare rows) at) (length now)
  takes next at is now loose sound stands =
      takes_call (HoldsCommitted kept) (ContentsShow (renewed kept)) (length contents)
      (checkpoint_left journal (bare rows) at) now loose sound (some_left at)
      (stands_at next at is now loose stands)

  -- ---- the end

  renewed_is : renewed_journal journal (bare rows) ≡ journal_of (renewed kept)
  renewed_is =
      let end : 1 + slots_of_rows (bare rows) ≡ 1 + slots_of_rows (bare rows) + 0 = omega arith in
      ap (λ (j : JournalEnd). renewed_journal j (bare rows)) journal_is
      ∙ (λ i. record (journal_of (renewed kept)) { end = end i })

  held_so : (now : List ℕ) (loose : Unsynced) → Stand [] now loose
      → IsHeld now loose (renewed_journal journal (bare rows)) rows
      (whole_roots journal.geometry (length contents)) entry_version
  held_so now loose stands = record {
    durable = stands.durable;
    framing = renewed_framing kept;
    version_is = refl;
    journal_is = renewed_is;
    right = is_renewed.right;
    matches = stands.ready.holds;
    cache = may.held.cache;
    records = may.held.records;
    number_is = may.held.number_is;
    roots_are = ap (whole_roots journal.geometry) (sym stands.ready.size);
  }

  pub held_then : (next : Option CheckpointStep)
      → ((at : CheckpointStep) → next ≡ Some at → ⊥)
      → (now : List ℕ) (loose : Unsynced)
      → Stand (checkpoint_rest journal (bare rows) next) now loose
      → IsHeld now loose (renewed_journal journal (bare rows)) rows
      (whole_roots journal.geometry (length contents)) entry_version
  held_then next none now loose stands =
      held_so now loose (stands_end next none now loose stands)

-- before the first call a crash leaves what is framed at entry
pub nothing_left : {D : Type 0} (view : View D) → OnlyNow view → (disk : D) (journal : JournalEnd)
    (rows : List (Row (List ℕ)))
    → MayRenew (view.contents disk) (view.unsynced disk) journal rows
    → LeavesOnly view disk disk (λ image. IsFramed journal.geometry image rows journal.number)
nothing_left view only_now disk journal rows may =
    let frames = λ (image : List ℕ). IsFramed journal.geometry image rows journal.number in
    leaves_none view only_now disk frames
    (durable_images frames (view.contents disk) (view.unsynced disk) may.held.durable
    (framed_here (view.contents disk) (view.unsynced disk) journal rows may))

pub no_ok : {T E : Type 0} (r : Result T E) (P : E → Type 0) → IsErrAnd r P → IsOk r → ⊥
no_ok (Ok x) P failed ok = failed
no_ok (Err e) P failed ok = absurd (cc)
