-- Which chunks of a region are free: those that the region has and that meet no chunk of any row.
use Rattle.std.specs.Prelude.{◌≡◌, ℕ, ◌<◌, ◌&&◌, Bool, true, Option, Some, None}
use Rattle.cm_pool.specs.declared.chunk.Chunk.{Chunk}
use Rattle.cm_layout.specs.Rules.{is_chunk, is_unused}
use Rattle.cm_rows.specs.Rows.{LiveRows}

abbrev pub is_free : {P : Type 0} → LiveRows P → Chunk → Bool
is_free rows c = is_chunk rows.sizes c && is_unused c rows.rows

-- some chunk of the order is free
pub record HasUnused {P : Type 0} (rows : LiveRows P) (order : ℕ) : Type 0 where
  pub chunk : Chunk
  pub of_order : chunk.order ≡ order
  pub free : is_free rows chunk ≡ true

-- some chunk of the order is free in this root
pub record HasUnusedIn {P : Type 0} (rows : LiveRows P) (order root : ℕ) : Type 0 where
  pub chunk : Chunk
  pub of_order : chunk.order ≡ order
  pub in_root : chunk.root ≡ root
  pub free : is_free rows chunk ≡ true

-- the chunk of an order that begins at this word of a root
abbrev pub chunk_from : ℕ → ℕ → ℕ → Chunk
chunk_from order root at = record { root = root; order = order; at = at }

-- the greatest order of which a chunk is free
abbrev pub IsLargestUnused : {P : Type 0} → LiveRows P → Option ℕ → Type 0
IsLargestUnused rows None = (order : ℕ) → ¬ HasUnused rows order
IsLargestUnused rows (Some k) =
    HasUnused rows k × ((order : ℕ) → k < order → ¬ HasUnused rows order)
