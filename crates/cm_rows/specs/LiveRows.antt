-- What is kept of live rows: the rows in order, and beside them what answers queries on them.
use Rattle.std.specs.Prelude.{◌≡◌, ◌≤◌, ℕ, List, vec_capacity}
use Rattle.cm_pool.specs.Geometry.{Sizes, IsGeometry}
use Rattle.cm_pool.specs.FreeSpace.{FreeSpace}
use Rattle.cm_pool.specs.Lists.{Among}
use Rattle.cm_layout.specs.declared.class_row.ClassRow.{ClassRow}
use Rattle.cm_layout.specs.declared.row.Row.{Row}
use Rattle.cm_layout.specs.Rows.{numbers_in, classes_in, slots_of_rows}
use Rattle.cm_layout.specs.Rules.{row_limit}
use Rattle.cm_index.specs.Index.{HasIndex}
use Rattle.cm_rows.specs.declared.live_loader.LiveLoader.{LiveLoader}
use Rattle.cm_rows.specs.declared.row_places.RowPlaces.{RowPlaces}
use Rattle.cm_rows.specs.Rows.{last_of}
use Rattle.cm_rows.specs.Loaders.{numbers_of_loaders, Rises, last_in}
use Rattle.cm_rows.specs.Held.{PoolHolds, chunks_of_rows, AreFounded}

-- the loaders are those of the rows, each with its last chunk
pub record AreLoadersOf {P : Type 0} (rows : List (Row P))
    (loaders : List LiveLoader) : Type 0 where
  pub numbers : numbers_of_loaders loaders ≡ numbers_in rows
  pub rises : Rises loaders
  pub last : (u : ℕ) → last_in u loaders ≡ last_of u rows

-- the rows are in a pool's used chunks, and each class has a live loader
pub record AreLiveRows {P : Type 0} (sizes : Sizes) (rows : List (Row P))
    (pool : FreeSpace) : Type 0 where
  pub holds : PoolHolds sizes pool (chunks_of_rows rows)
  pub founded : AreFounded (classes_in rows)
  pub owned : (r : ClassRow) → Among r (classes_in rows) → Among r.loader (numbers_in rows)

-- the rows take no more slots than live rows may, and these are their loaders
pub record AreRowsInPlace {P : Type 0} (sizes : Sizes) (rows : List (Row P))
    (known : List LiveLoader)
    (pool : FreeSpace) : Type 0 where
  pub lawful : IsGeometry sizes
  pub few : slots_of_rows rows ≤ row_limit sizes
  pub loaders : AreLoadersOf rows known
  pub live : AreLiveRows sizes rows pool

-- the places have an index of their rows; `name_of` gives the name of the class of which something
-- is kept
abbrev pub AreIndexed : {P : Type 0} → (ℕ → List ℕ → ℕ) → (P → List ℕ) → Sizes → RowPlaces P
    → Type 0
AreIndexed mark name_of sizes rows =
    HasIndex mark name_of sizes rows.indexed.slots.items rows.indexed.index.items
    rows.indexed.index.room
    (vec_capacity rows.indexed.places)
