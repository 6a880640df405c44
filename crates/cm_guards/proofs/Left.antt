-- What a crash leaves at the moments inside runs of calls.
-- For `reads_change_nothing`, `runs_leave_a_claim` and others.
use Rattle.std.proofs.Common.{◌⊎◌, ℕ, List, ⊎_elim, inl, inr, arith, refl, ◌∙◌, subst}
use Rattle.std.specs.Prelude.{Result, Ok, Err, IsOk, IsErr}
use Rattle.cm_disk.specs.Disk.{View, OnlyNow, Unsynced, IsImage}
use Rattle.cm_disk.specs.Calls.{Passes, LooksOnce}
use Rattle.cm_guards.specs.Guards.{EachImage}
use Rattle.cm_guards.specs.Calls.{LeavesOnly, Reads}

no_err_is_ok : {T E : Type 0} (r : Result T E) → (IsErr r → ⊥) → IsOk r
no_err_is_ok (Ok x) none = refl
no_err_is_ok (Err e) none = absurd (none refl)

module _ {D : Type 0} (view : View D) where
  -- one call
  pub one_call : OnlyNow view
      → (old new : D) (during : Unsynced) (P : List ℕ → Type 0)
      → Passes view old new
      (IsImage (view.contents old) during)
      → EachImage (view.contents old) (view.unsynced old) P → EachImage (view.contents old) during P
      → LeavesOnly view old new P
  one_call only_now old new during P time at_entry inside = record {
    later = time.later;
    each = λ image left.
        ⊎_elim (λ past. at_entry.each image (only_now old image past))
        (λ now. inside.each image now) (time.nothing_else (view.moment old) image (omega arith)
        left);
    before = λ t image le left.
        ⊎_elim (λ past. inl past) (λ now. inr (inside.each image now))
        (time.nothing_else t image le left);
  }

  -- no call
  pub leaves_none : OnlyNow view
      → (disk : D) (P : List ℕ → Type 0) → EachImage (view.contents disk) (view.unsynced disk) P
      → LeavesOnly view disk disk P
  leaves_none only_now disk P images = record {
    later = omega arith;
    each = λ image left. images.each image (only_now disk image left);
    before = λ t image le left. inl left;
  }

  -- two runs, one after the other
  pub leaves_on : (a b c : D) (P : List ℕ → Type 0) → LeavesOnly view a b P
      → LeavesOnly view b c P → LeavesOnly view a c P
  leaves_on a b c P first second = record {
    later = omega (arith, first.later, second.later);
    each = λ image left.
        ⊎_elim (λ past. first.each image past) (λ here. here)
        (second.before (view.moment a) image first.later left);
    before = λ t image le left.
        ⊎_elim (λ past. first.before t image le past) (λ here. inr here)
        (second.before t image (omega (arith, le, first.later)) left);
  }

  -- the same with a weaker fact
  pub leaves_more : (old new : D) (P Q : List ℕ → Type 0) → ((image : List ℕ) → P image → Q image)
      → LeavesOnly view old new P → LeavesOnly view old new Q
  leaves_more old new P Q more leaves = record {
    later = leaves.later;
    each = λ image left. more image (leaves.each image left);
    before = λ t image le left.
        ⊎_elim (λ past. inl past) (λ here. inr (more image here)) (leaves.before t image le left);
  }

  pub no_read : (disk : D)
      → OnlyNow view
      → Reads view disk disk ⊥
  no_read disk only_now = record {
    contents_stay = refl;
    unsynced_stay = refl;
    images = leaves_none only_now disk
        (IsImage (view.contents disk) (view.unsynced disk)) (record { each = λ image is. is });
    later = omega arith;
    cause = λ none. absurd none;
    no_cause = λ none. refl;
  }

  pub one_read : {T E : Type 0} (old new : D) (result : Result T E)
      → OnlyNow view
      → LooksOnce view old new result
      → Reads view old new (IsErr result)
  one_read old new result only_now look = record {
    contents_stay = look.same;
    unsynced_stay = look.kept;
    images = one_call only_now old new (view.unsynced old)
        (IsImage (view.contents old) (view.unsynced old)) look.time
        (record { each = λ image is. is }) (record { each = λ image is. is });
    later = look.cause.later;
    cause = look.cause.fault;
    no_cause = λ none. look.cause.no_fault (no_err_is_ok result none);
  }

  pub reads_on : (a b c : D) (F G : Type 0)
      → Reads view a b F
      → Reads view b c G
      → Reads view a c (F ⊎ G)
  reads_on a b c F G first second = record {
    contents_stay = second.contents_stay ∙ first.contents_stay;
    unsynced_stay = second.unsynced_stay ∙ first.unsynced_stay;
    images = leaves_on a b c (IsImage (view.contents a) (view.unsynced a)) first.images
        (leaves_more b c (IsImage (view.contents b) (view.unsynced b))
        (IsImage (view.contents a) (view.unsynced a))
        (λ image is. subst (λ (u : Unsynced). IsImage (view.contents a) u image) first.unsynced_stay
        (subst (λ (xs : List ℕ). IsImage xs (view.unsynced b) image) first.contents_stay is))
        second.images);
    later = omega (arith, first.later, second.later);
    cause = λ faulted.
        ⊎_elim (λ f. let rose = first.cause f in omega (arith, rose, second.later))
        (λ g. let rose = second.cause g in omega (arith, rose, first.later)) faulted;
    no_cause = λ none.
        second.no_cause (λ g. none (inr g)) ∙ first.no_cause (λ f. none (inl f));
  }

  -- the same with its faults described differently
  pub reads_as : (a b : D) (F G : Type 0) → (G → F) → (F → G)
      → Reads view a b F
      → Reads view a b G
  reads_as a b F G less more reads = record {
    contents_stay = reads.contents_stay;
    unsynced_stay = reads.unsynced_stay;
    images = reads.images;
    later = reads.later;
    cause = λ faulted. reads.cause (less faulted);
    no_cause = λ none. reads.no_cause (λ f. none (more f));
  }

  -- a read after a run of reads that met no fault
  pub read_after : {T E : Type 0} (first old new : D) (F : Type 0) (result : Result T E)
      → OnlyNow view
      → Reads view first old F
      → LooksOnce view old new result → (F → ⊥)
      → Reads view first new (IsErr result)
  read_after first old new F result only_now run look none =
      reads_as first new (F ⊎ IsErr result) (IsErr result) (λ faulted. inr faulted)
      (λ faulted. ⊎_elim (λ f. absurd (none f)) (λ here. here) faulted)
      (reads_on first old new F (IsErr result) run
      (one_read old new result only_now look))

  -- a read after a run of reads, if the run continues
  pub read_more : {T E : Type 0} (first old new : D) (F : Type 0) (result : Result T E)
      → OnlyNow view
      → Reads view first old F
      → LooksOnce view old new result → (F → ⊥) → (IsErr result → ⊥)
      → Reads view first new ⊥
  read_more first old new F result only_now run look none done =
      reads_as first new (IsErr result) ⊥ (λ fault. absurd fault) done
      (read_after first old new F result only_now run look none)

pub ruleset reading = (no_read, one_read, read_after, read_more)
