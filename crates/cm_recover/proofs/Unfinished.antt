-- What a crash may leave of a file until all but its gate is durable, and what it passes through.
-- For `NewFile::open`, `NewFile::store`, `format`.
use Rattle.std.proofs.Common.{◌≡◌, ◌≤◌, ℕ, zero, suc, Bool, List, refl, ap, subst, inl, inr, arith}
use Rattle.std.specs.Prelude.{max, Result, Ok, Err, IsErr, is_ok}
use Rattle.cm_pool.specs.Geometry.{Sizes}
use Rattle.cm_layout.specs.Offsets.{roots_at}
use Rattle.cm_disk.specs.Disk.{OnlyNow, View, Unsynced, IsImage, IsDurable, IsWithin, widened}
use Rattle.cm_disk.specs.Calls.{Passes}
use Rattle.cm_guards.specs.Guards.{EachImage}
use Rattle.cm_guards.specs.Calls.{LeavesOnly}
use Rattle.cm_guards.proofs.{one_call, leaves_on, run_then_sync}
use Rattle.cm_recover.specs.NewFile.{shut_bytes, IsNoneOrEmpty}
use Rattle.cm_recover.specs.Making.{IsUnfinished, CallsAtMost, FormatsThrough}
use Rattle.cm_recover.proofs.Shut.{shut_is_no_cache}

-- anything may be left that isn't too long
unfinished : (sizes : Sizes) (before unsynced : Unsynced) (contents : List ℕ)
    → unsynced.greatest ≤ max before.greatest (roots_at sizes)
    → EachImage contents unsynced (IsUnfinished sizes before)
unfinished sizes before unsynced contents short = record {
  each = λ image is. record {
    bytes = is.bytes;
    no_longer = omega (arith, is.no_longer, short);
    no_cache = shut_is_no_cache image;
  };
}

-- ---- calls

module _ {D : Type 0} (called : D → D → Bool → Type 0) where
  no_calls : (n : ℕ) (disk : D) → CallsAtMost called n disk disk
  no_calls zero disk = refl
  no_calls (suc n) disk = inl refl

  -- one call, whatever it returns
  pub calls_once : {T E : Type 0} (r : Result T E) (n : ℕ) (old new : D) → called old new (is_ok r)
      → CallsAtMost called (suc n) old new
  calls_once (Ok x) n old new call = inr (inr (new, call, no_calls n new))
  calls_once (Err e) n old new call = inr (inl call)

  -- one call that succeeded, and others after it
  pub calls_on : {T E : Type 0} (r : Result T E) (x : T) (n : ℕ) (old next new : D) → r ≡ Ok x
      → called old next (is_ok r) → CallsAtMost called n next new
      → CallsAtMost called (suc n) old new
  calls_on r x n old next new done call others =
      inr (inr (next, subst (λ (b : Bool). called old next b) (ap is_ok done) call, others))

-- ---- moments

module _ {D : Type 0} (view : View D)
    (only_now : OnlyNow view) (sizes : Sizes) where
  -- the disk's length is requested
  pub unfinished_asked : (old new : D)
      → Passes view old new
      (IsImage (view.contents old) (view.unsynced old))
      → LeavesOnly view old new (IsUnfinished sizes (view.unsynced old))
  unfinished_asked old new time =
      let here = unfinished sizes (view.unsynced old) (view.unsynced old) (view.contents old)
      (omega arith) in
      one_call view only_now old new (view.unsynced old)
      (IsUnfinished sizes (view.unsynced old)) time here here

  -- the whole file is written
  pub unfinished_written : (old new : D) (n : ℕ) → n ≡ roots_at sizes
      → Passes view old new
      (IsImage (view.contents old) (widened 0 n (view.unsynced old)))
      → LeavesOnly view old new (IsUnfinished sizes (view.unsynced old))
  unfinished_written old new n long time =
      one_call view only_now old new (widened 0 n (view.unsynced old))
      (IsUnfinished sizes (view.unsynced old)) time
      (unfinished sizes (view.unsynced old) (view.unsynced old) (view.contents old) (omega arith))
      (unfinished sizes (view.unsynced old) (widened 0 n (view.unsynced old)) (view.contents old)
      (omega (arith, long)))

  -- the file is then synced
  pub unfinished_synced : (first old new : D) (n : ℕ) → n ≡ roots_at sizes
      → IsWithin (widened 0 n (view.unsynced first)) (view.unsynced old)
      → Passes view first old
      (IsImage (view.contents first) (widened 0 n (view.unsynced first)))
      → Passes view old new
      (IsImage (view.contents old) (view.unsynced old))
      → LeavesOnly view first new (IsUnfinished sizes (view.unsynced first))
  unfinished_synced first old new n long within writing syncing =
      run_then_sync view only_now first old new
      (IsUnfinished sizes (view.unsynced first)) (unfinished_written first old n long writing)
      (unfinished sizes (view.unsynced first) (view.unsynced old) (view.contents old)
      (omega (arith, long, within.greatest)))
      syncing

  -- its length is requested, and then the file is stored
  pub unfinished_on : (first old new : D) (file_sizes : Sizes) → file_sizes ≡ sizes
      → view.unsynced old ≡ view.unsynced first
      → Passes view first old
      (IsImage (view.contents first) (view.unsynced first))
      → LeavesOnly view old new (IsUnfinished file_sizes (view.unsynced old))
      → LeavesOnly view first new (IsUnfinished sizes (view.unsynced first))
  unfinished_on first old new file_sizes same kept time run =
      leaves_on view first old new (IsUnfinished sizes (view.unsynced first))
      (unfinished_asked first old time)
      (subst (λ u. LeavesOnly view old new (IsUnfinished sizes u)) kept
      (subst (λ s. LeavesOnly view old new (IsUnfinished s (view.unsynced old))) same run))

  module _ (called : D → D → Bool → Type 0) where
    -- a fault before anything was written
    pub ends_asked : {A T E F : Type 0} (asked : Result A F) (result : Result T E) (old new : D)
        → IsErr result → called old new (is_ok asked)
        → Passes view old new
        (IsImage (view.contents old) (view.unsynced old))
        → FormatsThrough view called sizes old new result
    ends_asked asked result old new faulted call time =
        record {
          course = inl (record {
            faulted = faulted;
            calls = calls_once called asked 2 old new call;
            images = unfinished_asked old new time;
          });
        }

    -- a fault before it was stored
    pub ends_unstored : {T E : Type 0} (result : Result T E) (first old new : D)
        (file_sizes : Sizes) → IsErr result → CallsAtMost called 3 first new
        → file_sizes ≡ sizes → view.unsynced old ≡ view.unsynced first
        → Passes view first old
        (IsImage (view.contents first) (view.unsynced first))
        → LeavesOnly view old new (IsUnfinished file_sizes (view.unsynced old))
        → FormatsThrough view called sizes first new result
    ends_unstored result first old new file_sizes faulted calls same kept time run =
        record {
          course = inl (record {
            faulted = faulted;
            calls = calls;
            images = unfinished_on first old new file_sizes same kept time run;
          });
        }

    -- the file was stored shut, and then opened
    pub passes_shut : {T E : Type 0} (result : Result T E) (first old between new : D)
        (file_sizes : Sizes) → CallsAtMost called 3 first between
        → CallsAtMost called 2 between new → file_sizes ≡ sizes → view.unsynced old ≡ view.unsynced
        first
        → Passes view first old
        (IsImage (view.contents first) (view.unsynced first))
        → LeavesOnly view old between (IsUnfinished file_sizes (view.unsynced old))
        → view.contents between ≡ shut_bytes file_sizes
        → IsDurable (view.contents between) (view.unsynced between)
        → LeavesOnly view between new (IsNoneOrEmpty file_sizes)
        → FormatsThrough view called sizes first new result
    passes_shut result first old between new file_sizes three two same kept time run shut stored
        later =
        record {
          course = inr (record {
            between = between;
            shut = subst (λ s. view.contents between ≡ shut_bytes s) same shut;
            stored = stored;
            first_calls = three;
            before = unfinished_on first old between file_sizes same kept time run;
            last_calls = two;
            after = subst (λ s. LeavesOnly view between new (IsNoneOrEmpty s)) same
                later;
          });
        }
