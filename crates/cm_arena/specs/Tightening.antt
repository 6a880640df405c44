-- Compacting an arena: the used words of its last chunk move to a smaller chunk, or to one that is
-- before it.
use Rattle.std.specs.Prelude.{◌≡◌, ℕ, ◌<◌, ◌≤◌, ◌⊎◌, List, [], ◌∷◌, Some, IsSomeAnd}
use Rattle.cm_pool.specs.declared.chunk.Chunk.{Chunk}
use Rattle.cm_pool.specs.Chunks.{chunk_size}
use Rattle.cm_pool.specs.FreeSpace.{FreeSpace, IsFirstFree, LiesBefore, without}
use Rattle.cm_arena.specs.Chains.{Filled, last_of}
use Rattle.cm_arena.specs.Placing.{IsNeed}

-- the chain with another last chunk, of which as many words are used
abbrev pub with_last : List Filled → Chunk → List Filled
with_last [] c = []
with_last (f ∷ []) c = record { chunk = c; used = f.used } ∷ []
with_last (f ∷ g ∷ rest) c = f ∷ with_last (g ∷ rest) c

-- the chunk holds the used words of the chain's last one
pub record HoldsLast (chain : List Filled) (c : Chunk) : Type 0 where
  pub small : c.order ≤ 12
  pub enough : IsSomeAnd (last_of chain) (λ f. f.used ≤ chunk_size c.order)

-- a chunk is smaller than another, or is before it
abbrev pub IsBetter : Chunk → Chunk → Type 0
IsBetter c than = (c.order < than.order) ⊎ LiesBefore c than

-- The used words of the last chunk may move to the first free chunk of the order that they need, if
-- it is smaller or is before the last chunk.
pub record MayMove (chain : List Filled) (pool : FreeSpace) (from to : Chunk) : Type 0 where
  pub used : ℕ
  pub last : last_of chain ≡ Some (record { chunk = from; used = used })
  pub need : ℕ
  pub is_need : IsNeed used need
  pub first : IsFirstFree pool need to
  pub better : IsBetter to from

-- the used words move
pub record Tightens (chain : List Filled) (pool : FreeSpace) (from to : Chunk) (new : List Filled)
    (left : FreeSpace) : Type 0 where
  pub may : MayMove chain pool from to
  pub after : new ≡ with_last chain to
  pub left_is : left ≡ without pool to

-- the used words have nowhere to move
abbrev pub IsTight : List Filled → FreeSpace → Type 0
IsTight chain pool = (from to : Chunk) → ¬ MayMove chain pool from to
