-- The device calls of a checkpoint, one after another.
-- For `calls_at`, `make_call`, `make_checkpoint_call`, `shut`.
use Rattle.std.proofs.Common.{◌≡◌, ℕ, Bool, true, false, List, ◌∷◌, ◌++◌, refl}
use Rattle.std.specs.Prelude.{Result}
use Rattle.cm_disk.specs.Disk.{View}
use Rattle.cm_disk.specs.Calls.{SyncsOnce}
use Rattle.cm_guards.specs.Stages.{Stage, CallsOnce, TakesCall, TakesWrite}
use Rattle.cm_guards.specs.Stages.{MakesWrite, gate_write, after_call}
use Rattle.cm_commit.specs.Checkpoints.{shut_stages, shut_gate}
use Rattle.cm_commit.specs.Steps.{shut_sync}

-- ---- the other half's gate, open or not

pub shut_takes : (t : Bool) (gate : ℕ) (more : List Stage) (len : ℕ) → t ≡ true
    → TakesCall (shut_stages t gate ++ more) len → TakesWrite (gate_write gate shut_gate) len
shut_takes true gate more len e takes = takes
shut_takes false gate more len e takes = absurd (cc)

pub shut_behind : (t : Bool) (gate : ℕ) (more : List Stage)
    → shut_sync t ∷ more ≡ after_call (shut_stages t gate ++ more)
shut_behind true gate more = refl
shut_behind false gate more = refl

pub sync_behind : (t : Bool) (more : List Stage) → more ≡ after_call (shut_sync t ∷ more)
sync_behind true more = refl
sync_behind false more = refl

module _ {D T E : Type 0} (view : View D) (old new : D)
    (r : Result T E) where
  pub shut_written : (t : Bool) (gate : ℕ) (more : List Stage) → t ≡ true
      → MakesWrite view (gate_write gate shut_gate) old new
      r
      → CallsOnce view (shut_stages t gate ++ more) old new
      r
  shut_written true gate more e call = call
  shut_written false gate more e call = absurd (cc)

  pub shut_synced : (t : Bool) (gate : ℕ) (more : List Stage) → t ≡ false
      → SyncsOnce view old new r
      → CallsOnce view (shut_stages t gate ++ more) old new
      r
  shut_synced true gate more e call = absurd (cc)
  shut_synced false gate more e call = call

  pub synced_after : (t : Bool) (more : List Stage)
      → SyncsOnce view old new r
      → CallsOnce view (shut_sync t ∷ more) old new r
  synced_after true more call = call
  synced_after false more call = call
