-- How a place that was found in a file is adopted.
use Rattle.std.specs.Prelude.{◌≡◌, ℕ, zero, suc, ◌-◌, ◌≤◌, ◌==◌, List, if◌then◌else◌}
use Rattle.cm_pool.specs.Chunks.{IsChunk}
use Rattle.cm_pool.specs.FreeSpace.{FreeSpace, IsFreeChunk, without, with_root}
use Rattle.cm_pool.specs.declared.place.Place.{Place}
use Rattle.cm_arena.specs.Chains.{Filled}
use Rattle.cm_arena.specs.Placing.{IsNextPlace, with_place}
use Rattle.cm_space.specs.Space.{SpaceState, arena_of, with_arena}

-- the pool with this many more roots
abbrev pub with_roots : FreeSpace → ℕ → FreeSpace
with_roots p zero = p
with_roots p (suc n) = with_root (with_roots p n)

-- the pool with as many more roots as it takes for this one to be present
abbrev pub reaching : FreeSpace → ℕ → FreeSpace
reaching p root = with_roots p (suc root - p.roots)

-- some of the roots up to this one were added
pub record IsOnTheWay (p : FreeSpace) (root : ℕ) (new : FreeSpace) : Type 0 where
  pub count : ℕ
  pub few : count ≤ suc root - p.roots
  pub left : new ≡ with_roots p count

-- the place is the next one of a chain: after the used words of its last chunk, or at the front of
-- a chunk of the region that is free once its root is present
pub record IsAdoptable (chain : List Filled) (p : FreeSpace) (place : Place) : Type 0 where
  pub next : IsNextPlace chain place
  pub front : place.offset ≡ 0
      → IsChunk p.geometry place.chunk × IsFreeChunk (reaching p place.chunk.root) place.chunk

-- the pool after the place is adopted
abbrev pub pool_after : FreeSpace → Place → FreeSpace
pool_after p place =
    if place.offset == 0 then without (reaching p place.chunk.root) place.chunk
    else p

abbrev pub adopted : SpaceState → ℕ → Place → SpaceState
adopted s loader place =
    record (with_arena s loader (with_place (arena_of s loader) place)) {
      pool = pool_after s.pool place;
    }
