-- What runs of device calls leave after a crash at any moment inside them.
use Rattle.std.specs.Prelude.{◌≡◌, ◌<◌, ◌≤◌, ◌⊎◌, ℕ, List}
use Rattle.cm_disk.specs.Disk.{View, IsImage}

-- A crash at any moment since `old` leaves contents for which the fact holds.
pub record LeavesOnly {D : Type 0} (view : View D)
    (old new : D) (P : List ℕ → Type 0) : Type 0 where
  pub later : view.moment old ≤ view.moment new
  pub each : (image : List ℕ) → view.left_since new (view.moment old) image → P image
  -- the same for a run that began earlier
  pub before : (t : ℕ) (image : List ℕ) → t ≤ view.moment old → view.left_since new t image
      → view.left_since old t image ⊎ P image

-- A run of calls that only read: nothing changes, at each moment a crash leaves what it might have
-- left before them, and a fault is reported exactly if the device failed in them.
pub record Reads {D : Type 0} (view : View D) (old new : D)
    (Faulted : Type 0) : Type 0 where
  pub contents_stay : view.contents new ≡ view.contents old
  pub unsynced_stay : view.unsynced new ≡ view.unsynced old
  pub images : LeavesOnly view old new (IsImage (view.contents old) (view.unsynced old))
  pub later : view.failures old ≤ view.failures new
  pub cause : Faulted → view.failures old < view.failures new
  pub no_cause : (Faulted → ⊥) → view.failures new ≡ view.failures old
