-- How the pool keeps its free words: a row of bits for each order.
-- No public contract refers to these; they are the invariant of `Pool`.
use Rattle.std.specs.Prelude.{◌≡◌, ℕ, ◌+◌, ◌*◌, ◌/◌, ◌^◌, ◌<◌, ◌≤◌, ◌↔◌, Bool, true, false, ◌||◌}
use Rattle.std.specs.Prelude.{List, [], ◌∷◌, ◌++◌, length, set, slice_index_or, Option, Some, None}
use Rattle.std.specs.Prelude.{if◌then◌else◌, zero, suc}
use Rattle.std.specs.List.{range_with_len, flat_map}
use Rattle.std.specs.FinSet.{from_list}
use Rattle.cm_pool.specs.Bits.{bit, with_bit, without_bit}
use Rattle.cm_pool.specs.declared.block.Block.{Block}
use Rattle.cm_pool.specs.Geometry.{Sizes, IsGeometry}
use Rattle.cm_pool.specs.FreeSpace.{FreeSpace}
use Rattle.cm_pool.specs.Blocks.{is_in, start, other_half}

-- the row of an order; there is none after the last
abbrev pub row : List (List ℕ) → ℕ → List ℕ
row rows order = slice_index_or rows order []

-- the block's bit is set
abbrev pub is_marked : List (List ℕ) → Block → Bool
is_marked rows b = bit (row rows b.order) b.index

-- the rows with the block's bit set, and with it cleared
abbrev pub with_mark : List (List ℕ) → Block → List (List ℕ)
with_mark rows b = set rows b.order (with_bit (row rows b.order) b.index)

abbrev pub without_mark : List (List ℕ) → Block → List (List ℕ)
without_mark rows b = set rows b.order (without_bit (row rows b.order) b.index)

-- there is a bit for the block
pub record HasPlace (rows : List (List ℕ)) (b : Block) : Type 0 where
  pub order : b.order < length rows
  pub index : b.index < 64 * length (row rows b.order)

-- the granule is in a block whose bit is set, in this row or in one of the larger orders
abbrev pub is_covered : List (List ℕ) → ℕ → Bool
is_covered [] g = false
is_covered (r ∷ rows) g = bit r g || is_covered rows (g / 2)

-- all granules of the block are covered
abbrev pub IsWhole : List (List ℕ) → Block → Type 0
IsWhole rows b = (g : ℕ) → is_in b g ≡ true → is_covered rows g ≡ true

-- What a bit means: its block is free, and its other half, the buddy, isn't entirely free.
abbrev pub IsLargest : ℕ → List (List ℕ) → Block → Type 0
IsLargest top rows b = IsWhole rows b × (b.order < top → ¬ IsWhole rows (other_half b))

-- rows of the orders up to `top`, with a bit for each block that begins below `limit`; none is set
-- from there on
pub record AreBitRows (top limit : ℕ) (rows : List (List ℕ)) : Type 0 where
  pub orders : length rows ≡ top + 1
  pub meaning : (b : Block) → b.order ≤ top → (is_marked rows b ≡ true) ↔ IsLargest top rows b
  pub room : (b : Block) → b.order ≤ top → start b < limit
      → b.index < 64 * length (row rows b.order)
  pub below : (g : ℕ) → is_covered rows g ≡ true → g < limit
  pub small : limit ≤ 2 ^ 20

-- rows with no bit set, and with a bit for each block of a region
pub record AreEmpty (sizes : Sizes) (rows : List (List ℕ)) : Type 0 where
  pub sizes_ok : IsGeometry sizes
  pub orders : length rows ≡ sizes.top + 1
  pub none : (b : Block) → is_marked rows b ≡ false
  pub room : (b : Block) → b.order ≤ sizes.top → start b < sizes.roots * 2 ^ sizes.top
      → b.index < 64 * length (row rows b.order)

-- of the blocks of orders from `low` to below `high` whose bits are set, the one that begins first
pub record IsFirstBlock (rows : List (List ℕ)) (low high : ℕ) (b : Block) : Type 0 where
  pub is_set : is_marked rows b ≡ true
  pub from : low ≤ b.order
  pub to : b.order < high
  pub first : (c : Block) → low ≤ c.order → c.order < high → is_marked rows c ≡ true
      → start b ≤ start c

abbrev pub IsFirstFrom : List (List ℕ) → ℕ → ℕ → Option Block → Type 0
IsFirstFrom rows low high None = (b : Block) → low ≤ b.order → b.order < high
    → is_marked rows b ≡ false
IsFirstFrom rows low high (Some b) = IsFirstBlock rows low high b

-- the numbers of the bits below n that are set
abbrev pub marked : List ℕ → ℕ → List ℕ
marked r zero = []
marked r (suc n) = if bit r n then n ∷ marked r n else marked r n

-- the granules that are covered, and their words
abbrev pub granules : List (List ℕ) → List ℕ
granules [] = []
granules (r ∷ rows) = marked r (64 * length r) ++ flat_map
    (λ half. (2 * half) ∷ (2 * half + 1) ∷ []) (granules rows)

abbrev pub granule_words : ℕ → List ℕ
granule_words g = range_with_len (128 * g) 128

-- the value that a pool of these sizes, with these roots and rows, is seen as
abbrev pub space_of : Sizes → ℕ → List (List ℕ) → FreeSpace
space_of sizes roots rows =
    record {
      geometry = sizes;
      roots = roots;
      free = from_list (flat_map granule_words (granules rows));
    }

-- the invariant of a pool's fields
pub record IsPool (sizes : Sizes) (roots : ℕ) (rows : List (List ℕ)) : Type 0 where
  pub sizes_ok : IsGeometry sizes
  pub few_roots : roots ≤ sizes.roots
  pub kept : AreBitRows sizes.top (sizes.roots * 2 ^ sizes.top) rows
  pub present : (g : ℕ) → is_covered rows g ≡ true → g < roots * 2 ^ sizes.top
