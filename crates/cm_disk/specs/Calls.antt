-- What the calls of a disk do to its bytes, and how time passes during a call.
-- Source: the project's own model of a disk, docs/CRASH.md.
use Rattle.std.specs.Prelude.{◌≡◌, ◌<◌, ◌≤◌, ◌⊎◌, ◌+◌, ◌*◌, ℕ, max, List, ◌++◌, length, take, drop}
use Rattle.std.specs.Prelude.{Result, IsErr, IsOk, OnOk, OnErr}
use Rattle.cm_words.specs.Bytes.{packed_into}
use Rattle.cm_disk.specs.Disk.{View, IsImage, IsDurable, IsWithin, widened, shortened}

-- a call of a disk, with its arguments: a read has a place and a number of bytes, taking words a
-- place and a number of words
pub data DiskCall : Type 0 where
  Len : DiskCall
  Read : ℕ → ℕ → DiskCall
  Take : ℕ → ℕ → DiskCall
  Write : ℕ → List ℕ → DiskCall
  Cut : ℕ → DiskCall
  Sync : DiskCall

-- the old bytes with the range from `at` on overwritten; the range may extend past the old end
abbrev pub overwritten : ℕ → List ℕ → List ℕ → List ℕ
overwritten at bytes old = take at old ++ bytes ++ drop (at + length bytes) old

-- the words in 8 * count bytes from `at` on, the lowest byte of each first
abbrev pub words_in : ℕ → ℕ → List ℕ → List ℕ
words_in at count contents = packed_into count (take (8 * count) (drop at contents))

-- A write of n bytes was begun: its range holds any bytes, those outside are unchanged, and the
-- length is any from the old one to the one that the write makes.
pub record IsTorn (at n : ℕ) (old new : List ℕ) : Type 0 where
  pub before : take at new ≡ take at old
  pub after : drop (at + n) new ≡ drop (at + n) old
  pub no_shorter : length old ≤ length new
  pub no_longer : length new ≤ max (length old) (at + n)

-- A cut to a length was begun: the length is any from that one to the old one.
pub record IsCut (len : ℕ) (old new : List ℕ) : Type 0 where
  pub no_shorter : len ≤ length new
  pub no_longer : length new ≤ length old
  pub front : new ≡ take (length new) old

-- Time passes over one call. What a crash since t may have left is what it might have left before
-- the call, or what it may leave during the call; and what it might have left before is still
-- possible.
pub record Elapses (before now : ℕ) (past since : ℕ → List ℕ → Type 0)
    (during : List ℕ → Type 0) : Type 0 where
  pub later : before ≤ now
  pub nothing_else : (t : ℕ) (image : List ℕ) → t ≤ before → since t image → past t image
      ⊎ during image
  pub keeps : (t : ℕ) (image : List ℕ) → t ≤ before → past t image → since t image

-- A fault is reported exactly if the device failed in this call.
pub record HasCause {T E : Type 0} (before now : ℕ) (result : Result T E) : Type 0 where
  pub later : before ≤ now
  pub fault : IsErr result → before < now
  pub no_fault : IsOk result → now ≡ before

-- ---- one call of a disk, whatever kind of disk it is

-- time passes over a call, during which a crash may leave these images
abbrev pub Passes : {D : Type 0} → View D → D → D → (List ℕ → Type 0) → Type 0
Passes view old new during =
    Elapses (view.moment old) (view.moment new) (view.left_since old) (view.left_since new) during

-- a length, a read, or words that are taken
pub record LooksOnce {D T E : Type 0} (view : View D) (old new : D)
    (result : Result T E) : Type 0 where
  pub same : view.contents new ≡ view.contents old
  pub kept : view.unsynced new ≡ view.unsynced old
  pub time : Passes view old new (IsImage (view.contents old) (view.unsynced old))
  pub cause : HasCause (view.failures old) (view.failures new) result

-- a write of these bytes to that place
pub record WritesOnce {D T E : Type 0} (view : View D) (at : ℕ) (bytes : List ℕ) (old new : D)
    (result : Result T E) : Type 0 where
  pub written : OnOk result (view.contents new ≡ overwritten at bytes (view.contents old))
  pub torn : OnErr result (IsTorn at (length bytes) (view.contents old) (view.contents new))
  pub opens : IsWithin (widened at (length bytes) (view.unsynced old)) (view.unsynced new)
  pub time : Passes view old new
      (IsImage (view.contents old) (widened at (length bytes) (view.unsynced old)))
  pub cause : HasCause (view.failures old) (view.failures new) result

-- a cut to that length
pub record CutsOnce {D T E : Type 0} (view : View D) (len : ℕ) (old new : D)
    (result : Result T E) : Type 0 where
  pub cut : OnOk result (view.contents new ≡ take len (view.contents old))
  pub between : OnErr result (IsCut len (view.contents old) (view.contents new))
  pub shortens : IsWithin (shortened len (view.unsynced old)) (view.unsynced new)
  pub time : Passes view old new
      (IsImage (view.contents old) (shortened len (view.unsynced old)))
  pub cause : HasCause (view.failures old) (view.failures new) result

-- a sync
pub record SyncsOnce {D T E : Type 0} (view : View D) (old new : D)
    (result : Result T E) : Type 0 where
  pub durable : OnOk result (IsDurable (view.contents new) (view.unsynced new))
  pub not_durable : OnErr result (view.unsynced new ≡ view.unsynced old)
  pub same : view.contents new ≡ view.contents old
  pub time : Passes view old new (IsImage (view.contents old) (view.unsynced old))
  pub cause : HasCause (view.failures old) (view.failures new) result
