-- Places of records: consecutive words of a chunk.
use Rattle.std.specs.Prelude.{◌+◌, ◌≤◌}
use Rattle.cm_pool.specs.declared.place.Place.{Place}
use Rattle.cm_pool.specs.Chunks.{chunk_size}

-- the place consists of words inside its chunk
pub record IsInside (place : Place) : Type 0 where
  pub small : place.chunk.order ≤ 12
  pub some : 1 ≤ place.words
  pub within : place.offset + place.words ≤ chunk_size place.chunk.order
