-- What the pool rests on: how chunks relate to one another, and that the free words determine the
-- largest free chunks.
use Rattle.std.specs.Prelude.{◌≡◌, ℕ, ◌+◌, ◌-◌, ◌*◌, ◌/◌, ◌%◌, ◌<◌, ◌==◌, ◌⊎◌, ◌↔◌, List}
use Rattle.std.specs.Prelude.{if◌then◌else◌}
use Rattle.std.specs.List.{AllByRecursion}
use Rattle.cm_pool.specs.declared.chunk.Chunk.{Chunk}
use Rattle.cm_pool.specs.Chunks.{chunk_size, Covers, Meets, IsBlock}
use Rattle.cm_pool.specs.FreeSpace.{FreeSpace, IsFreeChunk, LiesBefore, without, with_chunk}
use Rattle.cm_pool.specs.Lists.{Pairwise, Among}

-- all words of a are words of b
abbrev pub IsPartOf : Chunk → Chunk → Type 0
IsPartOf a b = (root word : ℕ) → Covers a root word → Covers b root word

-- Two chunks are disjoint, or one is a part of the other.
abbrev pub NestedOrApart : Type 0
NestedOrApart = (top roots : ℕ) (a b : Chunk) → IsBlock top roots a → IsBlock top roots b
    → IsPartOf a b ⊎ (IsPartOf b a ⊎ (¬ Meets a b))

-- the chunk of the next order that a chunk is a half of, and the other half
abbrev pub chunk_above : Chunk → Chunk
chunk_above c =
    record {
      root = c.root;
      order = c.order + 1;
      at = c.at / (2 * chunk_size c.order) * (2 * chunk_size c.order);
    }

abbrev pub buddy : Chunk → Chunk
buddy c = record c {
  at = if (c.at / chunk_size c.order) % 2 == 0 then c.at + chunk_size c.order
      else c.at - chunk_size c.order;
}

-- A chunk and its buddy make the chunk above.
abbrev pub HalvesMakeWhole : Type 0
HalvesMakeWhole = (top roots : ℕ) (c : Chunk) → IsBlock top roots c → (root word : ℕ)
    → Covers (chunk_above c) root word ↔ (Covers c root word ⊎ Covers (buddy c) root word)

-- Giving back what was taken restores the pool.
abbrev pub GivingBackRestores : Type 0
GivingBackRestores = (p : FreeSpace) (c : Chunk) → IsFreeChunk p c → with_chunk (without p c) c ≡ p

-- a free chunk that isn't a half of a free one
pub record IsLargestFree (p : FreeSpace) (c : Chunk) : Type 0 where
  pub free : IsFreeChunk p c
  pub largest : c.order < p.geometry.top → ¬ IsFreeChunk p (chunk_above c)

-- the largest free chunks of a pool, in order
pub record AreLargestFree (p : FreeSpace) (cs : List Chunk) : Type 0 where
  pub ordered : Pairwise LiesBefore cs
  pub each : AllByRecursion (IsLargestFree p) cs
  pub every : (c : Chunk) → IsLargestFree p c → Among c cs

-- There is exactly one list of the largest free chunks, whatever words are free.
abbrev pub OneListOfLargest : Type 0
OneListOfLargest = (p : FreeSpace) → ((cs : List Chunk) × AreLargestFree p cs)
    × ((cs ds : List Chunk) → AreLargestFree p cs → AreLargestFree p ds → cs ≡ ds)
