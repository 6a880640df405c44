-- A file is synced and read, and upgraded if it is of version 1.
-- For `upgrade`, `open`.
use Rattle.std.proofs.Common.{◌≡◌, ℕ, List, inl, inr, sym, ap, subst, ◌∙◌, arith}
use Rattle.cm_disk.specs.Disk.{View, IsImage}
use Rattle.cm_guards.specs.Calls.{LeavesOnly}
use Rattle.cm_guards.proofs.{leaves_on, leaves_more}
use Rattle.cm_recover.specs.Opened.{SyncsAndReads, OpensThrough, IsOlderFile, StandsForSame}
use Rattle.cm_recover.specs.Opened.{LeavesSame, TellsDevice}

module _ {D : Type 0} (view : View D) where
  -- a file that isn't upgraded
  pub reads_through : (old new : D) (F : Type 0) → SyncsAndReads view old new F
      → OpensThrough view old new F
  reads_through old new F run = record {
    reads_alone = λ newest. run;
    images = leaves_more view old new (IsImage (view.contents old) (view.unsynced old))
        (LeavesSame (view.contents old) (view.unsynced old)) (λ image is. inl is) run.images;
    later = run.later;
    cause = run.cause;
    no_cause = run.no_cause;
  }

  -- a file that may be upgraded, after it was read
  pub moves_through : (old mid new : D) (F G : Type 0) → (F → ⊥) → SyncsAndReads view old mid F
      → ((IsOlderFile (view.contents mid) → ⊥) → new ≡ mid)
      → LeavesOnly view mid new (StandsForSame (view.contents mid))
      → TellsDevice (view.failures mid) (view.failures new) G
      → OpensThrough view old new G
  moves_through old mid new F G none run no_call images cause = record {
    reads_alone = λ newest.
        let same : new ≡ mid =
        no_call (λ older. newest (subst IsOlderFile run.contents_stay older)) in
        subst (λ (d : D). SyncsAndReads view old d G) (sym same) (record {
          contents_stay = run.contents_stay;
          no_more = run.no_more;
          images = run.images;
          later = run.later;
          cause = λ g.
              let rose = cause.cause g in
              let still = ap view.failures same in
              absurd (omega (arith, rose, still));
          no_cause = λ never. run.no_cause none;
        });
    images = leaves_on view old mid new (LeavesSame (view.contents old) (view.unsynced old))
        (leaves_more view old mid (IsImage (view.contents old) (view.unsynced old))
        (LeavesSame (view.contents old) (view.unsynced old)) (λ image is. inl is) run.images)
        (leaves_more view mid new (StandsForSame (view.contents mid))
        (LeavesSame (view.contents old) (view.unsynced old))
        (λ image stands. inr (subst (λ (l : List ℕ). StandsForSame l image) run.contents_stay
        stands)) images);
    later = omega (arith, run.later, cause.later);
    cause = λ g. let rose = cause.cause g in omega (arith, rose, run.later);
    no_cause = λ never. cause.no_cause never ∙ run.no_cause none;
  }

  -- the same, with the fault in another result
  pub through_as : (old new : D) (F G : Type 0) → (F → G) → (G → F) → OpensThrough view old new F
      → OpensThrough view old new G
  through_as old new F G to from through = record {
    reads_alone = λ newest.
        let run = through.reads_alone newest in
        record {
          contents_stay = run.contents_stay;
          no_more = run.no_more;
          images = run.images;
          later = run.later;
          cause = λ g. run.cause (from g);
          no_cause = λ none. run.no_cause (λ f. none (to f));
        };
    images = through.images;
    later = through.later;
    cause = λ g. through.cause (from g);
    no_cause = λ none. through.no_cause (λ f. none (to f));
  }

  -- both, with the fault in another result, over the same disk
  pub then_through : (old mid new end : D) (F G H : Type 0) → (F → ⊥)
      → SyncsAndReads view old mid F
      → ((IsOlderFile (view.contents mid) → ⊥) → new ≡ mid)
      → LeavesOnly view mid new (StandsForSame (view.contents mid))
      → TellsDevice (view.failures mid) (view.failures new) G
      → end ≡ new → (G → H) → (H → G) → OpensThrough view old end H
  then_through old mid new end F G H none run no_call images cause same to from =
      subst (λ (d : D). OpensThrough view old d H) (sym same)
      (through_as old new G H to from
      (moves_through old mid new F G none run no_call images cause))
