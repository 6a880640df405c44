-- What is guarded stays, in each image too, while other bytes are written or cut.
-- For `cuts_behind_keep_a_claim`, `gates_turn_claims`, `guarded_claim_holds_of_each_image` and
-- others.
use Rattle.std.proofs.Common.{◌≡◌, ◌<◌, ◌≤◌, ℕ, Bool, true, false, List, length, get_or}
use Rattle.std.proofs.Common.{sym, ◌∙◌, ap, arith}
use Rattle.std.specs.Prelude.{◌||◌}
use Rattle.std.proofs.lemmas.Bool.{false≢true}
use Rattle.std.proofs.lemmas.List.{get_or-take}
use Rattle.cm_disk.specs.Disk.{Unsynced, IsImage, IsWithin, IsDurable, widened, shortened}
use Rattle.cm_disk.specs.Disk.{is_among}
use Rattle.cm_disk.specs.Calls.{IsTorn, IsCut}
use Rattle.cm_disk.proofs.{false_before, torn_same}
use Rattle.cm_guards.specs.Guards.{Guard, Agrees, Guards, Keeps, EachImage, IsApart, IsBounded}

-- an image agrees with the contents
pub image_agrees : (g : Guard) (contents : List ℕ) (unsynced : Unsynced) (image : List ℕ)
    → Keeps g contents unsynced → IsImage contents unsynced image → Agrees g contents image
image_agrees g contents unsynced image keeps is = record {
  long = omega (arith, keeps.least, is.no_shorter);
  same = λ i guarded.
      let within = keeps.ends i guarded in
      sym (is.same i (omega (arith, keeps.least, within)) (keeps.closed i guarded));
}

-- a guarded fact of the contents holds of each image
pub guarded_images : (g : Guard) (P : List ℕ → Type 0) (contents : List ℕ) (unsynced : Unsynced)
    → Guards g P → Keeps g contents unsynced → P contents → EachImage contents unsynced P
guarded_images g P contents unsynced guards keeps holds = record {
  each = λ image is.
      guards.carries contents image keeps.long (image_agrees g contents unsynced image keeps is)
      holds;
}

neither : (a b : Bool) → a ≡ false → b ≡ false → (a || b) ≡ false
neither true b e f = absurd (false≢true (sym e))
neither false b e f = f

-- ---- a write apart from what is guarded

-- while the write runs
pub keeps_during : (g : Guard) (at n : ℕ) (contents : List ℕ) (unsynced : Unsynced) → IsApart g at n
    → Keeps g contents unsynced → Keeps g contents (widened at n unsynced)
keeps_during g at n contents unsynced apart keeps = record {
  ends = keeps.ends;
  least = keeps.least;
  long = keeps.long;
  closed = λ i guarded.
      neither (unsynced.is_open i) (is_among at n i) (keeps.closed i guarded)
      (apart.apart i guarded);
}

-- the same if no more is unsynced
pub keeps_within : (g : Guard) (contents : List ℕ) (most unsynced : Unsynced)
    → IsWithin most unsynced → Keeps g contents most → Keeps g contents unsynced
keeps_within g contents most unsynced within keeps = record {
  ends = keeps.ends;
  least = omega (arith, keeps.least, within.least);
  long = keeps.long;
  closed = λ i guarded.
      false_before (unsynced.is_open i) (most.is_open i) (within.positions i)
      (keeps.closed i guarded);
}

-- the same for other contents that agree
keeps_agreed : (g : Guard) (old new : List ℕ) (unsynced : Unsynced) → Agrees g old new
    → Keeps g old unsynced → Keeps g new unsynced
keeps_agreed g old new unsynced agrees keeps = record {
  ends = keeps.ends;
  least = keeps.least;
  long = agrees.long;
  closed = keeps.closed;
}

-- what the write leaves, whether it succeeded or failed
pub write_agrees : (g : Guard) (at n : ℕ) (old new : List ℕ) → g.needs ≤ length old → IsApart g at n
    → IsTorn at n old new → Agrees g old new
write_agrees g at n old new long apart torn = record {
  long = omega (arith, long, torn.no_shorter);
  same = λ i guarded. sym (torn_same at n old new torn false i (apart.apart i guarded));
}

pub keeps_write : (g : Guard) (at n : ℕ) (old new : List ℕ) (before after : Unsynced)
    → IsApart g at n → IsTorn at n old new → IsWithin (widened at n before) after
    → Keeps g old before → Keeps g new after
keeps_write g at n old new before after apart torn within keeps =
    keeps_agreed g old new after (write_agrees g at n old new keeps.long apart torn)
    (keeps_within g old (widened at n before) after within
    (keeps_during g at n old before apart keeps))

-- ---- a cut after what is guarded

pub keeps_shortened : (g : Guard) (len : ℕ) (contents : List ℕ) (unsynced : Unsynced)
    → g.needs ≤ len → Keeps g contents unsynced → Keeps g contents (shortened len unsynced)
keeps_shortened g len contents unsynced behind keeps = record {
  ends = keeps.ends;
  least = omega (arith, keeps.least, behind);
  long = keeps.long;
  closed = keeps.closed;
}

pub cut_agrees : (g : Guard) (len : ℕ) (old new : List ℕ) → IsBounded g → g.needs ≤ len
    → IsCut len old new → Agrees g old new
cut_agrees g len old new ends behind cut = record {
  long = omega (arith, behind, cut.no_shorter);
  same = λ i guarded.
      let lt : i < length new = omega (arith, ends i guarded, behind, cut.no_shorter) in
      sym (ap (λ (xs : List ℕ). get_or xs i 0) cut.front ∙ get_or-take (length new) old i 0 lt);
}

pub keeps_cut : (g : Guard) (len : ℕ) (old new : List ℕ) (before after : Unsynced) → g.needs ≤ len
    → IsCut len old new → IsWithin (shortened len before) after → Keeps g old before
    → Keeps g new after
keeps_cut g len old new before after behind cut within keeps =
    keeps_agreed g old new after (cut_agrees g len old new keeps.ends behind cut)
    (keeps_within g old (shortened len before) after within
    (keeps_shortened g len old before behind keeps))

-- ---- a sync

pub keeps_durable : (g : Guard) (contents : List ℕ) (unsynced : Unsynced) → IsBounded g
    → g.needs ≤ length contents → IsDurable contents unsynced → Keeps g contents unsynced
keeps_durable g contents unsynced ends long durable = record {
  ends = ends;
  least = omega (arith, long, durable.least);
  long = long;
  closed = λ i guarded. durable.none_open i;
}
