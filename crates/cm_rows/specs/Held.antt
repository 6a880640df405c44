-- How the chunks of rows are held in a pool with all roots of a region.
use Rattle.std.specs.Prelude.{◌≡◌, ◌≤◌, ◌==◌, List, filter, map, Option, Some, None, ◌⊎◌}
use Rattle.std.specs.Prelude.{if◌then◌else◌}
use Rattle.cm_pool.specs.declared.chunk.Chunk.{Chunk}
use Rattle.cm_pool.specs.Geometry.{Sizes}
use Rattle.cm_pool.specs.FreeSpace.{FreeSpace, IsFreeChunk, without}
use Rattle.cm_pool.specs.declared.place.Place.{Place}
use Rattle.cm_pool.specs.Held.{AreHeld, NoneIsLost}
use Rattle.cm_pool.specs.Lists.{Among, Pairwise}
use Rattle.cm_pool.specs.Chunks.{IsChunk, Meets}
use Rattle.std.specs.List.{AllByRecursion}
use Rattle.cm_layout.specs.declared.class_row.ClassRow.{ClassRow}
use Rattle.cm_layout.specs.declared.row.Row.{Row}
use Rattle.cm_layout.specs.declared.row.Row.TheVariants.{Loader, Class}
use Rattle.cm_layout.specs.Rows.{classes_in}
use Rattle.cm_index.specs.declared.slot.BookSlot.{BookSlot}
use Rattle.cm_rows.specs.declared.live_loader.LastChunk.{LastChunk}

-- the pool has all roots, and its free words are exactly those on none of these chunks
pub record PoolHolds (sizes : Sizes) (pool : FreeSpace) (chunks : List Chunk) : Type 0 where
  pub geometry : pool.geometry ≡ sizes
  pub roots : pool.roots ≡ sizes.roots
  pub held : AreHeld pool chunks
  pub none_lost : NoneIsLost pool chunks

-- a region has the chunks, and no two share a word
pub record CanBeHeld (sizes : Sizes) (chunks : List Chunk) : Type 0 where
  pub each : AllByRecursion (IsChunk sizes) chunks
  pub apart : Pairwise (λ a b. ¬ Meets a b) chunks

-- the chunks of classes, each once: by the first record on it
abbrev pub first_chunks : List ClassRow → List Chunk
first_chunks classes = map (λ r. r.place.chunk) (filter (λ r. r.place.offset == 0) classes)

-- the chunks of rows
abbrev pub chunks_of_rows : {P : Type 0} → List (Row P) → List Chunk
chunks_of_rows rows = first_chunks (classes_in rows)

-- the chunk of a row that is the first on it
abbrev pub own_chunk : {P : Type 0} → Row P → Option Chunk
own_chunk (Loader r) = None
own_chunk (Class r p) = if r.place.offset == 0 then Some r.place.chunk else None

-- the same for a row, if it lives
abbrev pub living_chunk : {P : Type 0} → BookSlot (Row P) → Option Chunk
living_chunk s = if s.live then own_chunk s.item else None

-- each record has words, each chunk a first record, and each chunk one loader
pub record AreFounded (classes : List ClassRow) : Type 0 where
  pub words : (r : ClassRow) → Among r classes → 1 ≤ r.place.words
  pub first : (r : ClassRow) → Among r classes → Among r.place.chunk (first_chunks classes)
  pub owner : (r s : ClassRow) → Among r classes → Among s classes
      → r.place.chunk ≡ s.place.chunk → r.loader ≡ s.loader

-- the place of a record is after the last record on its loader's last chunk, or at the front of a
-- free chunk, which is then taken
pub record IsTop (last : Option LastChunk) (place : Place) : Type 0 where
  pub is_top : last ≡ Some (record { chunk = place.chunk; used = place.offset })

pub record IsFront (place : Place) (pool : FreeSpace) : Type 0 where
  pub front : place.offset ≡ 0
  pub free : IsFreeChunk pool place.chunk

abbrev pub TakesPlace : Option LastChunk → Place → FreeSpace → FreeSpace → Type 0
TakesPlace last place old new = (IsTop last place × (new ≡ old)) ⊎ (IsFront place old
    × (new ≡ without old place.chunk))

-- the place is neither
pub record HasNoPlace (last : Option LastChunk) (place : Place) (old new : FreeSpace) : Type 0 where
  pub not_top : ¬ IsTop last place
  pub not_front : ¬ IsFront place old
  pub stays : new ≡ old
