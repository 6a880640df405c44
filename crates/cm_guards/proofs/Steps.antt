-- What one device call leaves at each moment, and what the disk holds after it: one line for each
-- step of a committer over any disk.
-- On `LeavesOnly`, `Guard`, `Guards`, for crates above.
use Rattle.std.proofs.Common.{◌≡◌, ◌≤◌, ℕ, List, [], ◌∷◌, length, inl, arith, sym, ap, subst, take}
use Rattle.std.proofs.Common.{◌∙◌}
use Rattle.std.proofs.lemmas.List.{length-take-le}
use Rattle.std.specs.Prelude.{Result, Ok, Err, OnOk, OnErr}
use Rattle.cm_disk.specs.Disk.{View, OnlyNow, Unsynced, IsImage, IsDurable, widened, shortened}
use Rattle.cm_disk.specs.Calls.{Passes, WritesOnce, CutsOnce, SyncsOnce, overwritten, IsTorn, IsCut}
use Rattle.cm_disk.proofs.{overwritten_torn}
use Rattle.cm_guards.specs.Guards.{Guard, Guards, Keeps, EachImage, IsApart}
use Rattle.cm_guards.specs.Gates.{OneOf, Turns}
use Rattle.cm_guards.specs.Calls.{LeavesOnly}
use Rattle.cm_guards.specs.Laws.{Stays}
use Rattle.cm_guards.proofs.Kept.{guarded_images, keeps_durable}
use Rattle.cm_guards.proofs.Gated.{turned_during, turned_after, turned, durable_images}
use Rattle.cm_guards.proofs.Held.{holds_during_writes, holds_during_cuts, holds_after_writes}
use Rattle.cm_guards.proofs.Held.{holds_after_cuts}
use Rattle.cm_guards.proofs.Left.{one_call, leaves_on, leaves_more}

-- what is there after a write, whether it succeeded or failed
pub torn_either : {T E : Type 0} (r : Result T E) (at : ℕ) (bytes old new : List ℕ)
    → at ≤ length old → OnOk r (new ≡ overwritten at bytes old)
    → OnErr r (IsTorn at (length bytes) old new) → IsTorn at (length bytes) old new
torn_either (Ok x) at bytes old new le done torn = overwritten_torn at bytes old new le done
torn_either (Err e) at bytes old new le done torn = torn

module _ {D : Type 0} (view : View D)
    (only_now : OnlyNow view) (old new : D) where
  -- a write apart from what is guarded
  pub write_leaves : (g : Guard) (P : List ℕ → Type 0) (at n : ℕ) → Guards g P
      → Keeps g (view.contents old) (view.unsynced old) → IsApart g at n → P (view.contents old)
      → Passes view old new
      (IsImage (view.contents old) (widened at n (view.unsynced old)))
      → LeavesOnly view old new P
  write_leaves g P at n guards keeps apart holds time =
      one_call view only_now old new (widened at n (view.unsynced old)) P
      time (guarded_images g P (view.contents old) (view.unsynced old) guards keeps holds)
      (holds_during_writes P g at n (view.contents old) (view.unsynced old) guards keeps apart
      holds)

  -- a cut after what is guarded
  pub cut_leaves : (g : Guard) (P : List ℕ → Type 0) (len : ℕ) → Guards g P
      → Keeps g (view.contents old) (view.unsynced old) → g.needs ≤ len → P (view.contents old)
      → Passes view old new
      (IsImage (view.contents old) (shortened len (view.unsynced old)))
      → LeavesOnly view old new P
  cut_leaves g P len guards keeps behind holds time =
      one_call view only_now old new (shortened len (view.unsynced old)) P
      time (guarded_images g P (view.contents old) (view.unsynced old) guards keeps holds)
      (holds_during_cuts P g len (view.contents old) (view.unsynced old) guards keeps behind holds)

  -- a gate's byte
  pub gate_leaves : (P Q : List ℕ → Type 0) (gate byte : ℕ) → Turns P Q gate byte
      (view.contents old)
      → IsDurable (view.contents old) (view.unsynced old) → P (view.contents old)
      → Passes view old new
      (IsImage (view.contents old) (widened gate (length (byte ∷ [])) (view.unsynced old)))
      → LeavesOnly view old new (OneOf P Q)
  gate_leaves P Q gate byte turns durable holds time =
      one_call view only_now old new (widened gate 1 (view.unsynced old))
      (OneOf P Q) time
      (durable_images (OneOf P Q) (view.contents old) (view.unsynced old) durable
      (record { which = inl holds }))
      (turned_during P Q gate byte (view.contents old) (view.unsynced old) turns durable)

  -- a sync, or a read
  pub sync_leaves : (P : List ℕ → Type 0) → EachImage (view.contents old) (view.unsynced old) P
      → Passes view old new
      (IsImage (view.contents old) (view.unsynced old)) → LeavesOnly view old new P
  sync_leaves P at_entry time =
      one_call view only_now old new (view.unsynced old) P time at_entry
      at_entry

-- what holds after a write apart from what is guarded, whether it succeeded or failed
pub stays_written : {D T E : Type 0} (view : View D) (r : Result T E) (g : Guard)
    (P : List ℕ → Type 0) (at : ℕ) (bytes : List ℕ) (old new : D)
    → WritesOnce view at bytes old new r → Guards g P
    → Keeps g (view.contents old) (view.unsynced old) → IsApart g at (length bytes)
    → P (view.contents old) → at ≤ length (view.contents old)
    → Stays g P (view.contents new) (view.unsynced new)
stays_written view r g P at bytes old new write guards keeps apart holds le =
    holds_after_writes P g at (length bytes) (view.contents old) (view.contents new)
    (view.unsynced old) (view.unsynced new) guards keeps apart holds
    (torn_either r at bytes (view.contents old) (view.contents new) le write.written write.torn)
    write.opens

-- what is there after a cut, whether it succeeded or failed
pub cut_either : {T E : Type 0} (r : Result T E) (len : ℕ) (old new : List ℕ) → len ≤ length old
    → OnOk r (new ≡ take len old) → OnErr r (IsCut len old new) → IsCut len old new
cut_either (Ok x) len old new le done between =
    let size : length new ≡ len = ap length done ∙ length-take-le len old le in
    record {
      no_shorter = omega (arith, size);
      no_longer = omega (arith, size, le);
      front = done ∙ ap (λ (n : ℕ). take n old) (sym size);
    }
cut_either (Err e) len old new le done between = between

pub stays_cut : {D T E : Type 0} (view : View D) (r : Result T E) (g : Guard) (P : List ℕ → Type 0)
    (len : ℕ) (old new : D) → CutsOnce view len old new r → Guards g P
    → Stays g P (view.contents old) (view.unsynced old) → g.needs ≤ len
    → len ≤ length (view.contents old)
    → Stays g P (view.contents new) (view.unsynced new)
stays_cut view r g P len old new call guards stays behind le =
    holds_after_cuts P g len (view.contents old) (view.contents new) (view.unsynced old)
    (view.unsynced new) guards stays.keeps behind stays.holds
    (cut_either r len (view.contents old) (view.contents new) le call.cut call.between)
    call.shortens

-- what holds of each image after a gate's byte, whether the write succeeded or failed
pub gate_images : {D T E : Type 0} (view : View D) (r : Result T E) (P Q : List ℕ → Type 0)
    (gate byte : ℕ) (old new : D) → WritesOnce view gate (byte ∷ []) old new r
    → Turns P Q gate byte (view.contents old) → IsDurable (view.contents old) (view.unsynced old)
    → EachImage (view.contents new) (view.unsynced new) (OneOf P Q)
gate_images view r P Q gate byte old new write turns durable =
    let inside : gate ≤ length (view.contents old) = omega (arith, turns.inside) in
    turned_after P Q gate byte (view.contents old) (view.contents new) (view.unsynced old)
    (view.unsynced new) turns durable
    (torn_either r gate (byte ∷ []) (view.contents old) (view.contents new) inside write.written
    write.torn)
    write.opens

-- ---- runs of steps

synced_stays : {T E : Type 0} (r : Result T E) (g : Guard) (P : List ℕ → Type 0)
    (old new : List ℕ) (before after : Unsynced) → Stays g P old before → new ≡ old
    → OnOk r (IsDurable new after) → OnErr r (after ≡ before) → Stays g P new after
synced_stays (Ok x) g P old new before after stays same done failed = record {
  keeps = keeps_durable g new after stays.keeps.ends
      (omega (arith, stays.keeps.long, ap length same)) done;
  holds = subst P (sym same) stays.holds;
}
synced_stays (Err e) g P old new before after stays same done failed =
    rw (same, failed) stays

-- what holds after a sync, whether it succeeded or failed
pub stays_synced : {D T E : Type 0} (view : View D) (r : Result T E) (g : Guard)
    (P : List ℕ → Type 0) (old new : D) → SyncsOnce view old new r
    → Stays g P (view.contents old) (view.unsynced old) → Stays g P (view.contents new)
    (view.unsynced new)
stays_synced view r g P old new sync stays =
    synced_stays r g P (view.contents old) (view.contents new) (view.unsynced old)
    (view.unsynced new) stays sync.same sync.durable sync.not_durable

synced_images : {T E : Type 0} (r : Result T E) (P : List ℕ → Type 0) (old new : List ℕ)
    (before after : Unsynced) → P old → EachImage old before P → new ≡ old
    → OnOk r (IsDurable new after) → OnErr r (after ≡ before) → EachImage new after P
synced_images (Ok x) P old new before after holds at_entry same done failed =
    durable_images P new after done (subst P (sym same) holds)
synced_images (Err e) P old new before after holds at_entry same done failed =
    rw (same, failed) at_entry

-- what holds of each image after a sync, whether it succeeded or failed
pub images_synced : {D T E : Type 0} (view : View D) (r : Result T E) (P : List ℕ → Type 0)
    (old new : D) → SyncsOnce view old new r → P (view.contents old)
    → EachImage (view.contents old) (view.unsynced old) P → EachImage (view.contents new)
    (view.unsynced new) P
images_synced view r P old new sync holds at_entry =
    synced_images r P (view.contents old) (view.contents new) (view.unsynced old)
    (view.unsynced new) holds at_entry sync.same sync.durable sync.not_durable

-- if a guarded fact holds of the contents, it holds of each image
pub stays_images : (g : Guard) (P : List ℕ → Type 0) (contents : List ℕ) (unsynced : Unsynced)
    → Guards g P → Stays g P contents unsynced → EachImage contents unsynced P
stays_images g P contents unsynced guards stays =
    guarded_images g P contents unsynced guards stays.keeps stays.holds

module _ {D : Type 0} (view : View D)
    (only_now : OnlyNow view) where
  -- a sync after a run
  pub run_then_sync : (first old new : D) (P : List ℕ → Type 0)
      → LeavesOnly view first old P → EachImage (view.contents old) (view.unsynced old) P
      → Passes view old new
      (IsImage (view.contents old) (view.unsynced old))
      → LeavesOnly view first new P
  run_then_sync first old new P run at_entry time =
      leaves_on view first old new P run
      (sync_leaves view only_now old new P at_entry time)

module _ {D : Type 0} (view : View D)
    (P Q : List ℕ → Type 0) where
  -- a run that leaves the first of two facts
  pub leaves_first : (old new : D) → LeavesOnly view old new P
      → LeavesOnly view old new (OneOf P Q)
  leaves_first old new run =
      leaves_more view old new P (OneOf P Q)
      (λ image holds. record { which = inl holds })
      run

  -- the same, followed by a run that leaves either
  pub leaves_first_then : (a b c : D) → LeavesOnly view a b P
      → LeavesOnly view b c (OneOf P Q)
      → LeavesOnly view a c (OneOf P Q)
  leaves_first_then a b c first second =
      leaves_on view a b c (OneOf P Q) (leaves_first a b first) second

-- ---- what a function that makes such steps should cite

pub ruleset writing = (stays_written)

pub ruleset cutting = (stays_cut, stays_images)

pub ruleset syncing = (stays_synced, stays_images, run_then_sync)

pub ruleset gating = (gate_images, turned)

pub ruleset settling = (images_synced, run_then_sync, durable_images)

pub ruleset turning = (leaves_first, leaves_first_then)
