-- Chunks that someone holds while a pool has the others.
use Rattle.std.specs.Prelude.{ℕ, ◌<◌, ◌⊎◌, List}
use Rattle.std.specs.List.{AllByRecursion}
use Rattle.cm_pool.specs.declared.chunk.Chunk.{Chunk}
use Rattle.cm_pool.specs.Chunks.{chunk_size, Covers, Meets}
use Rattle.cm_pool.specs.FreeSpace.{FreeSpace, IsFreeWord, IsUsedChunk}
use Rattle.cm_pool.specs.Lists.{Pairwise, Among}

-- each chunk is in a present root and has no free word, and no two share a word
pub record AreHeld (p : FreeSpace) (cs : List Chunk) : Type 0 where
  pub each : AllByRecursion (IsUsedChunk p) cs
  pub apart : Pairwise (λ a b. ¬ Meets a b) cs

-- a word is in one of the chunks
abbrev pub IsHeldWord : List Chunk → ℕ → ℕ → Type 0
IsHeldWord cs root word = (c : Chunk) × Among c cs × Covers c root word

-- each word of a present root is free, or in one of the chunks
pub record NoneIsLost (p : FreeSpace) (cs : List Chunk) : Type 0 where
  pub each : (root word : ℕ) → root < p.roots → word < chunk_size p.geometry.top
      → IsFreeWord p root word ⊎ IsHeldWord cs root word
