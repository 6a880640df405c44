-- Runs for which it isn't said here when they report a fault: only that failures rise or stay.
-- For `check_to`, `list_to`.
use Rattle.std.proofs.Common.{◌≡◌, ◌<◌, ◌≤◌, ℕ, arith}
use Rattle.cm_disk.specs.Disk.{View}
use Rattle.cm_guards.specs.Calls.{Reads}
use Rattle.cm_recover.specs.Opened.{SyncsAndReads, OpensThrough}

same_count : (before now : ℕ) → before ≤ now → (before < now → ⊥) → now ≡ before
same_count before now le none = omega (arith, le, none)

module _ {D : Type 0} (view : View D) (old new : D) (F : Type 0) where
  pub reads_rose : Reads view old new F
      → Reads view old new (view.failures old < view.failures new)
  reads_rose run = record {
    contents_stay = run.contents_stay;
    unsynced_stay = run.unsynced_stay;
    images = run.images;
    later = run.later;
    cause = λ rose. rose;
    no_cause = λ none. same_count (view.failures old) (view.failures new) run.later none;
  }

  syncs_rose : SyncsAndReads view old new F
      → SyncsAndReads view old new
      (view.failures old < view.failures new)
  syncs_rose run = record {
    contents_stay = run.contents_stay;
    no_more = run.no_more;
    images = run.images;
    later = run.later;
    cause = λ rose. rose;
    no_cause = λ none. same_count (view.failures old) (view.failures new) run.later none;
  }

  pub opens_rose : OpensThrough view old new F
      → OpensThrough view old new (view.failures old < view.failures new)
  opens_rose run = record {
    reads_alone = λ newest. syncs_rose (run.reads_alone newest);
    images = run.images;
    later = run.later;
    cause = λ rose. rose;
    no_cause = λ none. same_count (view.failures old) (view.failures new) run.later none;
  }
