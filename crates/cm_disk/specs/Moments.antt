-- The state that an in-memory disk models, with the moments that it has had.
use Rattle.std.specs.Prelude.{◌≡◌, ◌⊎◌, ◌-◌, ◌&&◌, nat_lt, nat_le, ℕ, zero, suc, Bool, List, []}
use Rattle.std.specs.Prelude.{◌∷◌, length, take}
use Rattle.std.specs.List.{list_any}
use mathlib.Core.Logic.{inl, inr}
use Rattle.std.proofs.Common.{arith}
use Rattle.cm_disk.specs.declared.medium.OpenRange.{OpenRange}
use Rattle.cm_disk.specs.Disk.{Unsynced, IsImage}

abbrev pub is_in_range : ℕ → OpenRange → Bool
is_in_range i range = nat_le range.start i && nat_lt i range.end

-- what may not be durable, if these ranges are open
abbrev pub unsynced_of : List OpenRange → ℕ → ℕ → Unsynced
unsynced_of ranges least greatest = record {
  is_open = λ i. list_any (is_in_range i) ranges;
  least = least;
  greatest = greatest;
}

-- a moment of a disk: its bytes, and what may not have been durable
pub record Moment : Type 0 where
  pub bytes : List ℕ
  pub ranges : List OpenRange
  pub least : ℕ
  pub greatest : ℕ

abbrev pub MayLeave : Moment → List ℕ → Type 0
MayLeave moment image =
    IsImage moment.bytes (unsynced_of moment.ranges moment.least moment.greatest) image

-- a crash at one of these moments may have left the image
abbrev pub LeftAtOne : List Moment → List ℕ → Type 0
LeftAtOne [] image = ⊥
LeftAtOne (moment ∷ moments) image = MayLeave moment image ⊎ LeftAtOne moments image

-- of moments, listed newest first, those since the moment that was recorded as number t (counted
-- from 0)
abbrev pub noted_since : ℕ → List Moment → List Moment
noted_since t moments = take (length moments - t) moments

-- what a crash may leave of these bytes now, or might have left at a moment since number t
abbrev pub LeftSince : List ℕ → Unsynced → List Moment → ℕ → List ℕ → Type 0
LeftSince bytes unsynced moments t image =
    IsImage bytes unsynced image ⊎ LeftAtOne (noted_since t moments) image

none_noted : (moments : List Moment) (k : ℕ) (image : List ℕ) → k ≡ 0
    → LeftAtOne (take k moments) image → ⊥
none_noted moments zero image e left = left
none_noted moments (suc k) image e left = absurd (omega arith)

-- since the last moment there is no other
pub none_since_now : {P : Type 0} (moments : List Moment) (image : List ℕ) → P
    ⊎ LeftAtOne (noted_since (length moments) moments) image → P
none_since_now moments image (inl now) = now
none_since_now moments image (inr left) =
    absurd (none_noted moments (length moments - length moments) image (omega arith) left)
