-- How time passes over one call of an in-memory disk, which records a moment before it changes its
-- bytes.
-- For `SimDisk::store`, `SimDiskDisk::cut`, `SimDiskDisk::sync` and others.
use Rattle.std.proofs.Common.{◌≡◌, ◌≤◌, ◌⊎◌, ◌+◌, ◌-◌, ℕ, suc, List, ◌∷◌, length, ◌∙◌, inl, inr}
use Rattle.std.proofs.Common.{⊎_elim, ap, sym, subst, refl, arith}
use Rattle.std.specs.Prelude.{◌||◌, ◌++◌, [], max, false}
use Rattle.std.specs.List.{list_any}
use Rattle.std.proofs.lemmas.List.Folds.{list_any-append}
use Rattle.std.proofs.lemmas.Bool.{or_cases, or_left, or_right}
use Rattle.cm_disk.specs.declared.medium.OpenRange.{OpenRange}
use Rattle.cm_disk.specs.Disk.{is_among, Unsynced, IsImage, IsWithin, widened, shortened}
use Rattle.cm_disk.specs.Calls.{IsTorn, IsCut, Elapses}
use Rattle.cm_disk.specs.Moments.{Moment, MayLeave, LeftAtOne, noted_since, unsynced_of}
use Rattle.cm_disk.specs.Moments.{is_in_range}
use Rattle.cm_disk.specs.Moments.{LeftSince}
use Rattle.cm_disk.proofs.Images.{within, after_write, after_cut}

abbrev pub unsynced_at : Moment → Unsynced
unsynced_at m = unsynced_of m.ranges m.least m.greatest

-- one more moment
one_more : (t : ℕ) (m : Moment) (moments : List Moment) → t ≤ length moments
    → noted_since t (m ∷ moments) ≡ m ∷ noted_since t moments
one_more t m moments le =
    let e : length (m ∷ moments) - t ≡ suc (length moments - t) = omega arith in rw e refl

-- the recorded moment allows what could be left before it, and what can be left afterwards could be
-- left during the call
pub elapses : (bytes bytes' : List ℕ) (u u' : Unsynced) (moments moments' : List Moment)
    (m : Moment) (during : List ℕ → Type 0) → moments' ≡ m ∷ moments
    → ((image : List ℕ) → IsImage bytes u image → MayLeave m image)
    → ((image : List ℕ) → MayLeave m image → during image)
    → ((image : List ℕ) → IsImage bytes' u' image → during image)
    → Elapses (length moments) (length moments') (LeftSince bytes u moments) (LeftSince bytes' u'
    moments')
    during
elapses bytes bytes' u u' moments moments' m during e covers allowed after =
    let since : (t : ℕ) → t ≤ length moments → noted_since t moments' ≡ m ∷ noted_since t moments =
    λ t le. rw e (one_more t m moments le) in
    record {
      later = omega (arith, ap length e);
      nothing_else = λ t image le. ⊎_elim (λ now. inr (after image now))
          (λ left. let parts : MayLeave m image ⊎ LeftAtOne (noted_since t moments) image =
          subst (λ (ms : List Moment). LeftAtOne ms image) (since t le) left in
          ⊎_elim (λ here. inr (allowed image here)) (λ old. inl (inr old)) parts);
      keeps = λ t image le past.
          inr (subst (λ (ms : List Moment). LeftAtOne ms image) (sym (since t le))
          (⊎_elim (λ now. inl (covers image now)) (λ old. inr old) past));
    }

pub elapses_write : (at n : ℕ) (bytes bytes' : List ℕ) (u u' : Unsynced)
    (moments moments' : List Moment) (m : Moment) → moments' ≡ m ∷ moments → m.bytes ≡ bytes
    → IsWithin (unsynced_at m) u → IsWithin (widened at n u) (unsynced_at m)
    → IsTorn at n bytes bytes' → IsWithin (widened at n u) u'
    → Elapses (length moments) (length moments') (LeftSince bytes u moments) (LeftSince bytes' u'
    moments')
    (IsImage bytes (widened at n u))
elapses_write at n bytes bytes' u u' moments moments' m e same wider narrow torn w =
    elapses bytes bytes' u u' moments moments' m (IsImage bytes (widened at n u)) e
    (λ image is. within m.bytes (unsynced_at m) u image wider (rw same is))
    (λ image may. within bytes (widened at n u) (unsynced_at m) image narrow (rw (← same) may))
    (λ image is. after_write at n bytes bytes' u u' image torn w is)

pub elapses_cut : (len : ℕ) (bytes bytes' : List ℕ) (u u' : Unsynced)
    (moments moments' : List Moment) (m : Moment) → moments' ≡ m ∷ moments → m.bytes ≡ bytes
    → IsWithin (unsynced_at m) u → IsWithin (shortened len u) (unsynced_at m)
    → IsCut len bytes bytes' → IsWithin (shortened len u) u'
    → Elapses (length moments) (length moments') (LeftSince bytes u moments) (LeftSince bytes' u'
    moments')
    (IsImage bytes (shortened len u))
elapses_cut len bytes bytes' u u' moments moments' m e same wider narrow cut w =
    elapses bytes bytes' u u' moments moments' m (IsImage bytes (shortened len u)) e
    (λ image is. within m.bytes (unsynced_at m) u image wider (rw same is))
    (λ image may. within bytes (shortened len u) (unsynced_at m) image narrow (rw (← same) may))
    (λ image is. after_cut len bytes bytes' u u' image cut w is)

pub elapses_sync : (bytes bytes' : List ℕ) (u u' : Unsynced) (moments moments' : List Moment)
    (m : Moment) → moments' ≡ m ∷ moments → m.bytes ≡ bytes
    → unsynced_at m ≡ u → bytes' ≡ bytes → IsWithin u u'
    → Elapses (length moments) (length moments') (LeftSince bytes u moments) (LeftSince bytes' u'
    moments')
    (IsImage bytes u)
elapses_sync bytes bytes' u u' moments moments' m e same at_m stay w =
    elapses bytes bytes' u u' moments moments' m (IsImage bytes u) e
    (λ image is. rw (same, at_m) is)
    (λ image may. rw (← same, ← at_m) may)
    (λ image is. within bytes u u' image w (rw (← stay) is))

-- once a range is opened
module _ (ranges ranges' : List OpenRange) (least least' greatest greatest' at n : ℕ)
    (opened : ranges' ≡ ranges ++ record { start = at; end = at + n } ∷ []) (stays : least' ≡ least)
    (grows : greatest' ≡ max greatest (at + n)) where
  abbrev before : Unsynced
  before = unsynced_of ranges least greatest

  abbrev after : Unsynced
  after = unsynced_of ranges' least' greatest'

  opens : (i : ℕ) → after.is_open i ≡ (before.is_open i || (is_among at n i || false))
  opens i = ap (list_any (is_in_range i)) opened ∙ list_any-append (is_in_range i) ranges
      (record { start = at; end = at + n } ∷ [])

  pub wider : IsWithin after before
  wider = record {
    positions = λ i e. opens i ∙ or_left (before.is_open i) (is_among at n i || false) e;
    least = omega arith;
    greatest = omega arith;
  }

  pub narrow : IsWithin (widened at n before) after
  narrow = record {
    positions = λ i e. ⊎_elim (λ old. or_left (before.is_open i) (is_among at n i) old)
        (λ new. ⊎_elim (λ here. or_right (before.is_open i) (is_among at n i) here)
        (λ none. absurd (cc)) (or_cases (is_among at n i) false new))
        (or_cases (before.is_open i) (is_among at n i || false) (sym (opens i) ∙ e));
    least = omega arith;
    greatest = omega arith;
  }
