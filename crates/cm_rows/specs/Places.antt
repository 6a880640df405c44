-- The places of rows and of loaders: what they have room for, and that they are empty.
use Rattle.std.specs.Prelude.{◌≡◌, ◌≤◌, ℕ, [], vec_capacity}
use Rattle.cm_index.specs.IndexedRows.{HasNoRows, HasRoom}
use Rattle.cm_rows.specs.declared.loader_places.LoaderPlaces.{LoaderPlaces}
use Rattle.cm_rows.specs.declared.row_places.RowPlaces.{RowPlaces}

pub record HasNoPlaces {P : Type 0} (rows : RowPlaces P) : Type 0 where
  pub indexed : HasNoRows rows.indexed
  pub before : rows.before.items ≡ []

-- there is room for this many rows
pub record HasRowRoom {P : Type 0} (rows : RowPlaces P) (count : ℕ) : Type 0 where
  pub indexed : HasRoom rows.indexed count
  pub before : count ≤ vec_capacity rows.before

pub record HasNoLoaders (loaders : LoaderPlaces) : Type 0 where
  pub slots : loaders.slots.items ≡ []
  pub newest : loaders.newest.items ≡ []

-- there is room for this many loaders
pub record HasLoaderRoom (loaders : LoaderPlaces) (count : ℕ) : Type 0 where
  pub slots : count ≤ vec_capacity loaders.slots
  pub newest : count ≤ vec_capacity loaders.newest
