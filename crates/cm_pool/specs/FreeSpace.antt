-- What a pool is seen as: its geometry, how many roots are present, and which words are free. The
-- words are numbered through all roots, and the free ones are a set of such numbers. Only
-- `IsFreeWord` reads it: two pools of the same geometry with equally many roots and the same free
-- words are equal (`same_space`, in FreeSpaceLaws).
use Rattle.std.specs.Prelude.{◌≡◌, ℕ, ◌+◌, ◌*◌, ◌<◌, ◌≤◌, ◌⊎◌, IsTrue, refl}
use Rattle.std.specs.List.{range_with_len}
use Rattle.std.specs.Ordering.{nat_cmp}
use Rattle.std.specs.FinSet.{FinSet, from_list, contains, union, difference, code}
use Rattle.std.specs.Coded.{Coded, code_by, coded×, coded_ℕ}
use Rattle.cm_pool.specs.declared.chunk.Chunk.{Chunk}
use Rattle.cm_pool.specs.Geometry.{Sizes, IsGeometry}
use Rattle.cm_pool.specs.Chunks.{chunk_size, IsBlock}

pub record FreeSpace : Type 0 where
  pub geometry : Sizes
  pub roots : ℕ
  pub free : FinSet nat_cmp

-- the number of a root's word, if roots are of order `top`
abbrev pub word_number : ℕ → ℕ → ℕ → ℕ
word_number top root word = root * chunk_size top + word

-- the word is in the root, and it is free
pub record IsFreeWord (p : FreeSpace) (root word : ℕ) : Type 0 where
  pub within : word < chunk_size p.geometry.top
  pub is_free : IsTrue (contains p.free (word_number p.geometry.top root word))

-- the chunk is in a present root, and all its words are free
pub record IsFreeChunk (p : FreeSpace) (c : Chunk) : Type 0 where
  pub block : IsBlock p.geometry.top p.roots c
  pub words : (word : ℕ) → c.at ≤ word → word < c.at + chunk_size c.order → IsFreeWord p c.root word

-- the chunk is in a present root, and none of its words is free
pub record IsUsedChunk (p : FreeSpace) (c : Chunk) : Type 0 where
  pub block : IsBlock p.geometry.top p.roots c
  pub words : (word : ℕ) → c.at ≤ word → word < c.at + chunk_size c.order
      → ¬ IsFreeWord p c.root word

-- a is before b: in an earlier root, or in the same root and further to the front
abbrev pub LiesBefore : Chunk → Chunk → Type 0
LiesBefore a b = (a.root < b.root) ⊎ ((a.root ≡ b.root) × (a.at < b.at))

-- the free chunk of an order that is before all others of that order
pub record IsFirstFree (p : FreeSpace) (order : ℕ) (c : Chunk) : Type 0 where
  pub of_order : c.order ≡ order
  pub free : IsFreeChunk p c
  pub first : (other : Chunk) → other.order ≡ order → IsFreeChunk p other → ¬ LiesBefore other c

-- some chunk of the order is free
abbrev pub HasFree : FreeSpace → ℕ → Type 0
HasFree p order = (c : Chunk) × (c.order ≡ order) × IsFreeChunk p c

-- the numbers of a chunk's words
unfoldable pub words : ℕ → Chunk → FinSet nat_cmp
words top c = from_list (range_with_len (word_number top c.root c.at) (chunk_size c.order))

-- the root that comes next, as one chunk
abbrev pub next_root : FreeSpace → Chunk
next_root p = record { root = p.roots; order = p.geometry.top; at = 0 }

-- the pool without the chunk's words, with them, and with one more root, all free
abbrev pub without : FreeSpace → Chunk → FreeSpace
without p c = record p { free = difference p.free (words p.geometry.top c) }

abbrev pub with_chunk : FreeSpace → Chunk → FreeSpace
with_chunk p c = record p { free = union p.free (words p.geometry.top c) }

abbrev pub with_root : FreeSpace → FreeSpace
with_root p =
    record p { roots = p.roots + 1; free = union p.free (words p.geometry.top (next_root p)) }

-- the invariant of a pool: the sizes are within their limits, there are not too many roots, and
-- each free word is in a present root
pub record IsFreeSpace (p : FreeSpace) : Type 0 where
  pub geometry : IsGeometry p.geometry
  pub roots : p.roots ≤ p.geometry.roots
  pub present : (root word : ℕ) → IsFreeWord p root word → root < p.roots

-- an encoding of these values as data
abbrev pub free_space_code : Coded FreeSpace
free_space_code =
    code_by (ℕ × (ℕ × (ℕ × (ℕ × FinSet nat_cmp))))
    (coded× coded_ℕ (coded× coded_ℕ (coded× coded_ℕ (coded× coded_ℕ (code coded_ℕ)))))
    (λ p. (p.geometry.top, (p.geometry.roots, (p.geometry.slots, (p.roots, p.free)))))
    (λ t. record {
      geometry = record { top = t.0; roots = t.1.0; slots = t.1.1.0 };
      roots = t.1.1.1.0;
      free = t.1.1.1.1;
    })
    (λ _. refl)
