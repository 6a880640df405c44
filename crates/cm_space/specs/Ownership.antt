-- Who holds which word: the invariant of every space.
use Rattle.std.specs.Prelude.{◌≡◌, ◌≤◌, ℕ, List, [], ◌∷◌, ◌++◌}
use Rattle.std.specs.FinMap as map
use Rattle.cm_pool.specs.declared.chunk.Chunk.{Chunk}
use Rattle.cm_pool.specs.Lists.{Pairwise, Among}
use Rattle.cm_pool.specs.Held.{AreHeld, NoneIsLost}
use Rattle.cm_arena.specs.Chains.{Filled, chain_chunks}
use Rattle.cm_space.specs.Space.{SpaceState, WaitingChunks, arena_of, waiting_chunks}

-- the chunk is in the loader's arena
abbrev pub Owns : SpaceState → ℕ → Chunk → Type 0
Owns s loader c = Among c (chain_chunks (arena_of s loader))

-- the chunk waits for the number
abbrev pub WaitsFor : SpaceState → ℕ → Chunk → Type 0
WaitsFor s number c =
    (w : WaitingChunks) × Among w s.waiting × (w.number ≡ number) × Among c w.chunks

-- the chunks of some arenas, and all chunks of a space that are owned or wait
abbrev pub owned_chunks : List (ℕ × List Filled) → List Chunk
owned_chunks [] = []
owned_chunks (e ∷ es) = chain_chunks e.1 ++ owned_chunks es

abbrev pub held_chunks : SpaceState → List Chunk
held_chunks s = owned_chunks (map.entries s.arenas) ++ waiting_chunks s.waiting

-- Each word of a present root is free, or in one chunk that is owned or waits, and in only one of
-- these; and chunks that were left later wait for no smaller number.
pub record IsSpace (s : SpaceState) : Type 0 where
  pub held : AreHeld s.pool (held_chunks s)
  pub none_lost : NoneIsLost s.pool (held_chunks s)
  pub rises : Pairwise (λ (v w : WaitingChunks). v.number ≤ w.number) s.waiting
