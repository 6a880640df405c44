-- Which chunks a loader's arena has.
use Rattle.std.specs.Prelude.{◌≡◌, ℕ, List}
use Rattle.cm_pool.specs.declared.chunk.Chunk.{Chunk}
use Rattle.cm_arena.specs.Chains.{chain_chunks}
use Rattle.cm_space.specs.Space.{arena_of}
use Rattle.cm_layout.specs.Rows.{classes_in}
use Rattle.cm_state.specs.Stands.{chunks_of as chunks_begun}
use Rattle.cm_front.specs.Front.{FrontState, IsFront}

-- the chunks of a loader's arena, in order
abbrev pub chunks_owned : FrontState → ℕ → List Chunk
chunks_owned s u = chain_chunks (arena_of s.space u)

-- They are exactly those that the loader's classes begin, in order.
abbrev pub ArenasAreOfRows : Type 0
ArenasAreOfRows =
    (s : FrontState) → IsFront s → (u : ℕ) → chunks_owned s u ≡ chunks_begun u (classes_in s.rows)
