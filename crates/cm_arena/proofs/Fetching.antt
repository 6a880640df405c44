-- A chunk that comes from a pool.
-- For `Arena::place`, `fetch`.
use Rattle.std.proofs.Common.{ℕ, ◌≤◌, inl, inr, ◌⊎◌, arith}
use Rattle.cm_pool.specs.declared.chunk.Chunk.{Chunk}
use Rattle.cm_pool.specs.FreeSpace.{FreeSpace, HasFree}
use Rattle.cm_pool.proofs.SpaceLaws.{large_has_small}
use Rattle.cm_arena.specs.Placing.{IsWanted, IsNeeded, Fetches}

abbrev pub IsTaken : FreeSpace → ℕ → ℕ → Chunk → FreeSpace → Type 0
IsTaken old wanted need c new = IsWanted old wanted c new ⊎ IsNeeded old wanted need c new

pub taken-has_free : (old new : FreeSpace) (wanted need : ℕ) (c : Chunk) → need ≤ wanted
    → IsTaken old wanted need c new → HasFree old need
taken-has_free old new wanted need c le (inl h) =
    large_has_small old need wanted le (c, h.first.of_order, h.first.free)
taken-has_free old new wanted need c le (inr h) = (c, h.first.of_order, h.first.free)

-- a fetched chunk is of the order wanted or of the order needed, and has a limited number of words
pub fetched-order : (old new : FreeSpace) (wanted need : ℕ) (c : Chunk) → need ≤ wanted
    → Fetches old wanted need c new → need ≤ c.order
fetched-order old new wanted need c le (inl h) = omega (arith, h.first.of_order)
fetched-order old new wanted need c le (inr (inl h)) = omega (arith, h.first.of_order)
fetched-order old new wanted need c le (inr (inr h)) = omega (arith, h.first.of_order)

pub fetched-small : (old new : FreeSpace) (wanted need : ℕ) (c : Chunk)
    → Fetches old wanted need c new → c.order ≤ old.geometry.top
fetched-small old new wanted need c (inl h) = h.first.free.block.within_top
fetched-small old new wanted need c (inr (inl h)) = h.first.free.block.within_top
fetched-small old new wanted need c (inr (inr h)) = h.first.free.block.within_top
