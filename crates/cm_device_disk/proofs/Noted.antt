-- Time passes over a recorded call as the disk model says.
-- For `Disk::sync`, `Disk::write_at`, `DeviceDiskDisk::cut`.
use Rattle.std.proofs.Common.{◌≡◌, ◌≤◌, ◌+◌, ℕ, List, [], ◌∷◌, length, take, ap, sym, ◌∙◌}
use Rattle.std.proofs.Common.{subst, refl, arith}
use Rattle.std.proofs.lemmas.List.{length-take-le}
use Rattle.cm_disk.specs.Disk.{Unsynced, IsImage, IsWithin, widened, shortened}
use Rattle.cm_disk.specs.Calls.{IsTorn, IsCut, Elapses}
use Rattle.cm_disk.specs.Moments.{Moment, LeftSince}
use Rattle.cm_disk.proofs.{elapses_write, elapses_cut, elapses_sync, wider, narrow}
use Rattle.cm_disk.proofs.{overwritten_torn}
use Rattle.cm_device_disk.specs.declared.history.Call.{Call}
use Rattle.cm_device_disk.specs.declared.history.Call.TheVariants.{Wrote, NotWritten, Cut, NotCut}
use Rattle.cm_device_disk.specs.declared.history.Call.TheVariants.{Synced}
use Rattle.cm_device_disk.specs.State.{DiskState, moment_unsynced, IsSoundState, opened, lowered}
use Rattle.cm_device_disk.specs.State.{stored}
use Rattle.cm_device_disk.specs.Calls.{CallLeaves, CallFollows, after, gone}

-- time passes from a state to the next; `most` is what may be unsynced during the call
abbrev pub Passes : Unsynced → DiskState → DiskState → Type 0
Passes most old new =
    Elapses (length old.moments) (length new.moments)
    (LeftSince old.now.bytes (moment_unsynced old.now) old.moments)
    (LeftSince new.now.bytes (moment_unsynced new.now) new.moments) (IsImage old.now.bytes most)

-- nothing else is open in addition but the write's range
opened_within : (at n : ℕ) (now : Moment)
    → IsWithin (widened at n (moment_unsynced now)) (moment_unsynced (opened at n now))
opened_within at n now =
    narrow now.ranges (opened at n now).ranges now.least now.least now.greatest
    (opened at n now).greatest at n refl refl refl

passes_write : (at n failures : ℕ) (old : DiskState) (left : List ℕ)
    → IsTorn at n old.now.bytes left
    → Passes (widened at n (moment_unsynced old.now)) old
    (record (gone (opened at n old.now) left old) { failures = failures })
passes_write at n failures old left torn =
    let m : Moment = opened at n old.now in
    let within = opened_within at n old.now in
    elapses_write at n old.now.bytes left (moment_unsynced old.now) (moment_unsynced m) old.moments
    (m ∷ old.moments) m refl refl
    (wider old.now.ranges m.ranges old.now.least m.least old.now.greatest m.greatest at n refl refl
    refl) within torn within

passes_cut : (len failures : ℕ) (old : DiskState) (left : List ℕ) → IsCut len old.now.bytes left
    → Passes (shortened len (moment_unsynced old.now)) old
    (record (gone (lowered len old.now) left old) { failures = failures })
passes_cut len failures old left cut =
    let m : Moment = lowered len old.now in
    let within : IsWithin (shortened len (moment_unsynced old.now)) (moment_unsynced m) =
    record { positions = λ i e. e; least = omega arith; greatest = omega arith } in
    elapses_cut len old.now.bytes left (moment_unsynced old.now) (moment_unsynced m) old.moments
    (m ∷ old.moments) m refl refl
    (record { positions = λ i e. e; least = omega arith; greatest = omega arith }) within cut within

taken_is_cut : (len : ℕ) (old left : List ℕ) → len ≤ length old → left ≡ take len old
    → IsCut len old left
taken_is_cut len old left le e =
    let size : length left ≡ len = ap length e ∙ length-take-le len old le in
    record {
      no_shorter = omega (arith, size);
      no_longer = omega (arith, size);
      front = e ∙ ap (λ (n : ℕ). take n old) (sym size);
    }

passes_sync : (old : DiskState) (left : List ℕ) → IsSoundState old → left ≡ old.now.bytes
    → Passes (moment_unsynced old.now) old (record (gone old.now left old) { now = stored left })
passes_sync old left sound e =
    let size : length left ≡ length old.now.bytes = ap length e in
    elapses_sync old.now.bytes left (moment_unsynced old.now) (moment_unsynced (stored left))
    old.moments (old.now ∷ old.moments) old.now refl refl refl e
    (record {
      positions = λ i none. absurd (cc);
      least = omega (arith, sound.least, size);
      greatest = omega (arith, sound.greatest, size);
    })

-- what holds for each state that may follow a call holds for the one that did
carried : (P : DiskState → Type 0) (call : Call) (bytes : List ℕ) (old new : DiskState)
    → CallFollows call bytes old new
    → ((left : List ℕ) → CallLeaves call bytes old.now.bytes left → P (after call bytes left old))
    → P new
carried P call bytes old new follows each =
    subst P (sym follows.state) (each new.now.bytes follows.left)

pub wrote : (at : ℕ) (bytes : List ℕ) (old new : DiskState) → at ≤ length old.now.bytes
    → CallFollows (Wrote at) bytes old new
    → Passes (widened at (length bytes) (moment_unsynced old.now)) old new
wrote at bytes old new le follows =
    carried (Passes (widened at (length bytes) (moment_unsynced old.now)) old) (Wrote at) bytes old
    new follows
    (λ left e. passes_write at (length bytes) old.failures old left
    (overwritten_torn at bytes old.now.bytes left le e))

pub not_written : (at : ℕ) (bytes : List ℕ) (old new : DiskState)
    → CallFollows (NotWritten at) bytes old new
    → Passes (widened at (length bytes) (moment_unsynced old.now)) old new
not_written at bytes old new follows =
    carried (Passes (widened at (length bytes) (moment_unsynced old.now)) old) (NotWritten at) bytes
    old new follows
    (λ left torn. passes_write at (length bytes) (old.failures + 1) old left torn.0)

pub wrote_within : (at : ℕ) (bytes : List ℕ) (old new : DiskState)
    → CallFollows (Wrote at) bytes old new
    → IsWithin (widened at (length bytes) (moment_unsynced old.now)) (moment_unsynced new.now)
wrote_within at bytes old new follows =
    carried (λ (s : DiskState). IsWithin (widened at (length bytes) (moment_unsynced old.now))
    (moment_unsynced s.now)) (Wrote at) bytes old new follows
    (λ left e. opened_within at (length bytes) old.now)

pub not_written_within : (at : ℕ) (bytes : List ℕ) (old new : DiskState)
    → CallFollows (NotWritten at) bytes old new
    → IsWithin (widened at (length bytes) (moment_unsynced old.now)) (moment_unsynced new.now)
not_written_within at bytes old new follows =
    carried (λ (s : DiskState). IsWithin (widened at (length bytes) (moment_unsynced old.now))
    (moment_unsynced s.now)) (NotWritten at) bytes old new follows
    (λ left torn. opened_within at (length bytes) old.now)

pub was_cut : (len : ℕ) (old new : DiskState) → len ≤ length old.now.bytes
    → CallFollows (Cut len) [] old new → Passes (shortened len (moment_unsynced old.now)) old new
was_cut len old new le follows =
    carried (Passes (shortened len (moment_unsynced old.now)) old) (Cut len) [] old new follows
    (λ left e. passes_cut len old.failures old left (taken_is_cut len old.now.bytes left le e))

pub not_cut : (len : ℕ) (old new : DiskState) → len ≤ length old.now.bytes
    → CallFollows (NotCut len) [] old new → Passes (shortened len (moment_unsynced old.now)) old new
not_cut len old new le follows =
    carried (Passes (shortened len (moment_unsynced old.now)) old) (NotCut len) [] old new follows
    (λ left cut. passes_cut len (old.failures + 1) old left (cut le))

pub synced : (old new : DiskState) → IsSoundState old → CallFollows Synced [] old new
    → Passes (moment_unsynced old.now) old new
synced old new sound follows =
    carried (Passes (moment_unsynced old.now) old) Synced [] old new follows
    (λ left e. passes_sync old left sound e)
