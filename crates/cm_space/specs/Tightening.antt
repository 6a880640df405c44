-- Compacting a loader's arena in a space.
use Rattle.std.specs.Prelude.{◌≡◌, ℕ, List, [], ◌∷◌, ◌++◌, Option, Some, None}
use Rattle.cm_arena.specs.declared.arena.Moved.{Moved}
use Rattle.cm_arena.specs.Chains.{Filled}
use Rattle.cm_arena.specs.Tightening.{IsTight, Tightens}
use Rattle.cm_pool.specs.FreeSpace.{FreeSpace}
use Rattle.cm_space.specs.Space.{SpaceState, arena_of, with_arena}

-- The used words of the loader's last chunk move, and the old chunk waits for the number.
pub record MovesChunk (s : SpaceState) (loader number : ℕ) (m : Moved) (new : SpaceState)
    : Type 0 where
  pub chain : List Filled
  pub pool : FreeSpace
  pub tightens : Tightens (arena_of s loader) s.pool m.from m.to chain pool
  pub after : new ≡ record (with_arena s loader chain) {
    pool = pool;
    waiting = s.waiting ++ record { number = number; chunks = m.from ∷ [] } ∷ [];
  }

-- the words move, or have nowhere to move
abbrev pub MovesOrStays : SpaceState → ℕ → ℕ → SpaceState → Option Moved → Type 0
MovesOrStays s loader number new (Some m) = MovesChunk s loader number m new
MovesOrStays s loader number new None = IsTight (arena_of s loader) s.pool × (new ≡ s)
