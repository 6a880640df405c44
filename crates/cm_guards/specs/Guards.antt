-- What a fact on a disk's contents rests on, and when a crash can't touch that. No layout is known
-- here: a guard says which positions count, whatever their bytes are.
use Rattle.std.specs.Prelude.{◌≡◌, ◌<◌, ◌≤◌, ℕ, Bool, true, false, List, length, get_or}
use Rattle.cm_disk.specs.Disk.{Unsynced, IsImage, is_among}

-- the positions that a fact rests on, and how many bytes it needs
pub record Guard : Type 0 where
  pub is_guarded : ℕ → Bool
  pub needs : ℕ

-- the contents have the bytes that the guard needs, and b agrees with a at each guarded position
pub record Agrees (g : Guard) (a b : List ℕ) : Type 0 where
  pub long : g.needs ≤ length b
  pub same : (i : ℕ) → g.is_guarded i ≡ true → get_or a i 0 ≡ get_or b i 0

-- The fact rests on nothing else: if contents agree and it holds of one, it holds of the other.
pub record Guards (g : Guard) (P : List ℕ → Type 0) : Type 0 where
  pub carries : (a b : List ℕ) → g.needs ≤ length a → Agrees g a b → P a → P b

-- what is guarded is within the bytes that are needed
abbrev pub IsBounded : Guard → Type 0
IsBounded g = (i : ℕ) → g.is_guarded i ≡ true → i < g.needs

-- Nothing that is guarded is unsynced.
pub record Keeps (g : Guard) (contents : List ℕ) (unsynced : Unsynced) : Type 0 where
  pub ends : IsBounded g
  pub least : g.needs ≤ unsynced.least
  pub long : g.needs ≤ length contents
  pub closed : (i : ℕ) → g.is_guarded i ≡ true → unsynced.is_open i ≡ false

-- the fact holds of each image that a crash may leave
pub record EachImage (contents : List ℕ) (unsynced : Unsynced) (P : List ℕ → Type 0) : Type 0 where
  pub each : (image : List ℕ) → IsImage contents unsynced image → P image

-- a write of n bytes touches nothing that is guarded
pub record IsApart (g : Guard) (at n : ℕ) : Type 0 where
  pub apart : (i : ℕ) → g.is_guarded i ≡ true → is_among at n i ≡ false
