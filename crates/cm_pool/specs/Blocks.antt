-- Blocks of the binary tree of halves over all roots, counted in granules of 128 words.
-- No public contract refers to them.
use Rattle.std.specs.Prelude.{◌≡◌, ℕ, ◌+◌, ◌-◌, ◌*◌, ◌/◌, ◌%◌, ◌^◌, ◌≤◌, ◌==◌, Bool, if◌then◌else◌}
use Rattle.cm_pool.specs.declared.block.Block.{Block}
use Rattle.cm_pool.specs.declared.chunk.Chunk.{Chunk}
use Rattle.cm_pool.specs.Chunks.{chunk_size}
use Rattle.cm_pool.specs.FreeSpace.{word_number}

-- the granule g is in the block
abbrev pub is_in : Block → ℕ → Bool
is_in b g = (g / 2 ^ b.order) == b.index

-- the block's first granule, and the one after its last
abbrev pub start : Block → ℕ
start b = b.index * 2 ^ b.order

abbrev pub stop : Block → ℕ
stop b = start b + 2 ^ b.order

-- the whole of w is in b
pub record Inside (w b : Block) : Type 0 where
  pub smaller : w.order ≤ b.order
  pub same_part : w.index / 2 ^ (b.order - w.order) ≡ b.index

-- the halves of a block, and the block of which it is a half
unfoldable pub left_half : Block → Block
left_half b = record { index = 2 * b.index; order = b.order - 1 }

unfoldable pub right_half : Block → Block
right_half b = record { index = 2 * b.index + 1; order = b.order - 1 }

unfoldable pub block_above : Block → Block
block_above b = record { index = b.index / 2; order = b.order + 1 }

-- the block's buddy: the other half of the block above
unfoldable pub other_half : Block → Block
other_half b =
    record { index = if b.index % 2 == 0 then b.index + 1 else b.index - 1; order = b.order }

-- the block has the chunk's words
pub record IsSame (top : ℕ) (c : Chunk) (b : Block) : Type 0 where
  pub order : b.order ≡ c.order
  pub place : b.index * chunk_size b.order ≡ word_number top c.root c.at
