-- Where a class's place is taken, given the loaders of live rows, or which rule its row breaks.
use Rattle.std.specs.Prelude.{◌≡◌, ◌⊎◌, ◌<◌, ◌≤◌, ◌+◌, ◌&&◌, ℕ, Bool, true, false, List, get_or}
use Rattle.std.specs.Prelude.{nat_le}
use Rattle.cm_pool.specs.Chunks.{chunk_size}
use Rattle.cm_pool.specs.Geometry.{Sizes}
use Rattle.cm_pool.specs.FreeSpace.{FreeSpace}
use Rattle.cm_layout.specs.declared.class_row.ClassRow.{ClassRow}
use Rattle.cm_layout.specs.declared.entry_rule.EntryRule.{EntryRule}
use Rattle.cm_layout.specs.declared.entry_rule.EntryRule.TheVariants.{OnRows, OnChunks}
use Rattle.cm_layout.specs.Rules.{is_chunk, row_limit}
use Rattle.cm_index.specs.declared.slot.BookSlot.{BookSlot}
use Rattle.cm_index.specs.Living.{living}
use Rattle.cm_rows.specs.declared.live_loader.LiveLoader.{LiveLoader}
use Rattle.cm_rows.specs.Loaders.{IsAbsent, LoaderLivesAt}
use Rattle.cm_rows.specs.Held.{TakesPlace, HasNoPlace}

-- the tests of a place that concern no other row
abbrev pub is_inside : Sizes → ClassRow → Bool
is_inside sizes r = is_chunk sizes r.place.chunk && nat_le 1 r.place.words
    && nat_le (r.place.offset + r.place.words) (chunk_size r.place.chunk.order)

-- beside rows that take `taken` slots there is room for one more, and its loader lives, at this
-- place
pub record MayCome (sizes : Sizes) (taken : ℕ) (loaders : List (BookSlot LiveLoader)) (r : ClassRow)
    (at : ℕ) (slot : BookSlot LiveLoader) : Type 0 where
  pub few : taken < row_limit sizes
  pub kept : LoaderLivesAt loaders r.loader at
  pub slot_is : slot ≡ get_or loaders at slot

-- the place of its record is taken
pub record IsPlaced (sizes : Sizes) (taken : ℕ) (loaders : List (BookSlot LiveLoader))
    (r : ClassRow)
    (old new : FreeSpace) : Type 0 where
  pub at : ℕ
  pub slot : BookSlot LiveLoader
  pub may : MayCome sizes taken loaders r at slot
  pub inside : is_inside sizes r ≡ true
  pub takes : TakesPlace slot.item.last r.place old new

-- its record has no place
pub record IsUnplaced (sizes : Sizes) (taken : ℕ) (loaders : List (BookSlot LiveLoader))
    (r : ClassRow)
    (old new : FreeSpace) : Type 0 where
  pub at : ℕ
  pub slot : BookSlot LiveLoader
  pub may : MayCome sizes taken loaders r at slot
  pub why : (is_inside sizes r ≡ false)
      ⊎ ((is_inside sizes r ≡ true) × HasNoPlace slot.item.last r.place old new)

-- the first rule that the row breaks
abbrev pub Breaches : Sizes → ℕ → List (BookSlot LiveLoader) → ClassRow → FreeSpace → FreeSpace
    → EntryRule → Type 0
Breaches sizes taken loaders r old new OnRows =
    IsAbsent (living loaders) r.loader ⊎ (row_limit sizes ≤ taken)
Breaches sizes taken loaders r old new OnChunks = IsUnplaced sizes taken loaders r old new
