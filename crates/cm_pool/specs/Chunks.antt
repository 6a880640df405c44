-- Chunks: which words a chunk denotes, and which chunks a region has.
-- Chunks have power-of-two sizes and begin at multiples of their size, as in OpenJDK JEP 387; the
-- sizes are this project's own.
use Rattle.std.specs.Prelude.{◌≡◌, ℕ, ◌+◌, ◌*◌, ◌%◌, ◌^◌, ◌<◌, ◌≤◌, Bool, ◌==◌, ◌&&◌}
use Rattle.cm_pool.specs.declared.chunk.Chunk.{Chunk}
use Rattle.cm_pool.specs.Geometry.{Sizes}

-- how many words a chunk of an order has
abbrev pub chunk_size : ℕ → ℕ
chunk_size order = 128 * 2 ^ order

-- the two chunks are the same
abbrev pub same_chunk : Chunk → Chunk → Bool
same_chunk a b = (a.root == b.root) && ((a.order == b.order) && (a.at == b.at))

-- a word of a root is in the chunk
pub record Covers (c : Chunk) (root word : ℕ) : Type 0 where
  pub same_root : root ≡ c.root
  pub from : c.at ≤ word
  pub to : word < c.at + chunk_size c.order

-- two chunks share a word
abbrev pub Meets : Chunk → Chunk → Type 0
Meets a b = (root : ℕ) × (word : ℕ) × Covers a root word × Covers b root word

-- a chunk of one of the first `roots` roots, each of order `top`
pub record IsBlock (top roots : ℕ) (c : Chunk) : Type 0 where
  pub within_top : c.order ≤ top
  pub in_a_root : c.root < roots
  pub aligned : c.at % chunk_size c.order ≡ 0
  pub inside : c.at + chunk_size c.order ≤ chunk_size top

-- a chunk that a region of these sizes can have
abbrev pub IsChunk : Sizes → Chunk → Type 0
IsChunk sizes c = IsBlock sizes.top sizes.roots c
