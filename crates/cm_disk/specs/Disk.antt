-- The disk model: what a disk holds now, what of it may not be durable, and what a crash may leave.
-- Source: the project's own model of a disk, docs/CRASH.md.
use Rattle.std.specs.Prelude.{◌≡◌, ◌≤◌, ◌<◌, ◌+◌, ◌^◌, ℕ, Bool, true, false, ◌&&◌, ◌||◌, nat_lt}
use Rattle.std.specs.Prelude.{nat_le, min, max, List, length, get_or}

-- What may not be durable: the positions that were opened since the last successful sync, and the
-- least and the greatest length that the disk had since then.
pub record Unsynced : Type 0 where
  pub is_open : ℕ → Bool
  pub least : ℕ
  pub greatest : ℕ

abbrev pub IsBytes : List ℕ → Type 0
IsBytes xs = (i : ℕ) → i < length xs → get_or xs i 0 < 256

-- A crash may leave the image. Its length is one that the disk may have. A byte at an open
-- position, or at or past the least length, may be any byte; all others are those of the contents.
pub record IsImage (contents : List ℕ) (unsynced : Unsynced) (image : List ℕ) : Type 0 where
  pub no_shorter : unsynced.least ≤ length image
  pub no_longer : length image ≤ unsynced.greatest
  pub bytes : IsBytes image
  pub same : (i : ℕ) → i < unsynced.least → unsynced.is_open i ≡ false
      → get_or image i 0 ≡ get_or contents i 0

-- What a disk shows: the bytes that a read returns, what of them may not be durable, how often it
-- has failed, the moment as a number that never decreases, and what a crash at some moment from a
-- given one on may have left, during a call or between two.
pub record View (D : Type 0) : Type 1 where
  pub contents : D → List ℕ
  pub unsynced : D → Unsynced
  pub failures : D → ℕ
  pub moment : D → ℕ
  pub left_since : D → ℕ → List ℕ → Type 0

-- Since this moment there is no other moment.
abbrev pub OnlyNow : {D : Type 0} → View D → Type 0
OnlyNow {D} view =
    (disk : D) (image : List ℕ) → view.left_since disk (view.moment disk) image
    → IsImage (view.contents disk) (view.unsynced disk) image

-- Everything is durable: nothing is open, and there is one length.
pub record IsDurable (contents : List ℕ) (unsynced : Unsynced) : Type 0 where
  pub none_open : (i : ℕ) → unsynced.is_open i ≡ false
  pub least : unsynced.least ≡ length contents
  pub greatest : unsynced.greatest ≡ length contents

-- What holds for every disk. A disk has at most 2^40 bytes, so that sums of two places fit into 64
-- bits.
pub record IsSound (contents : List ℕ) (unsynced : Unsynced) : Type 0 where
  pub least : unsynced.least ≤ length contents
  pub greatest : length contents ≤ unsynced.greatest
  pub limit : unsynced.greatest ≤ 2 ^ 40
  pub bytes : IsBytes contents

-- No more is unsynced than `most` says.
pub record IsWithin (most unsynced : Unsynced) : Type 0 where
  pub positions : (i : ℕ) → unsynced.is_open i ≡ true → most.is_open i ≡ true
  pub least : most.least ≤ unsynced.least
  pub greatest : unsynced.greatest ≤ most.greatest

-- the position is one of n positions from `at` on
abbrev pub is_among : ℕ → ℕ → ℕ → Bool
is_among at n i = nat_le at i && nat_lt i (at + n)

-- what may be unsynced once a write of n bytes has begun: its range too, and the length that it
-- makes
abbrev pub widened : ℕ → ℕ → Unsynced → Unsynced
widened at n unsynced = record {
  is_open = λ i. unsynced.is_open i || is_among at n i;
  least = unsynced.least;
  greatest = max unsynced.greatest (at + n);
}

-- what may be unsynced once a cut to a length has begun
abbrev pub shortened : ℕ → Unsynced → Unsynced
shortened len unsynced = record {
  is_open = unsynced.is_open;
  least = min unsynced.least len;
  greatest = unsynced.greatest;
}
