-- Live rows as a value: what `LiveRows` is seen as, and the queries on it.
pub use Rattle.cm_index.specs.Index.{class_of}
use Rattle.std.specs.Prelude.{ℕ, Bool, nat_lt, List}
use Rattle.std.specs.Prelude.{Option}
use Rattle.std.specs.List.{list_all}
use Rattle.std.specs.Option.{option_map}
use Rattle.cm_pool.specs.Geometry.{Sizes}
use Rattle.cm_layout.specs.declared.row.Row.{Row}
use Rattle.cm_layout.specs.Rows.{numbers_in, classes_in, used_words, last_chunk, kept_on}
use Rattle.cm_rows.specs.declared.live_loader.LastChunk.{LastChunk}

-- the sizes of a region, and the rows that live, each class with what is kept of it
pub record LiveRows (P : Type 0) : Type 0 where
  pub sizes : Sizes
  pub rows : List (Row P)

-- the number is above that of every live loader
abbrev pub is_above : {P : Type 0} → ℕ → List (Row P) → Bool
is_above n rows = list_all (λ u. nat_lt u n) (numbers_in rows)

-- the chunk of a loader's last class, and how many of its words records take
abbrev pub last_of : {P : Type 0} → ℕ → List (Row P) → Option LastChunk
last_of u rows = option_map
    (λ c. record { chunk = c; used = used_words c rows }) (last_chunk u (classes_in rows))

-- what is kept of the classes on that chunk, in order
abbrev pub kept_on_last : {P : Type 0} → ℕ → List (Row P) → Option (List P)
kept_on_last u rows = option_map (λ l. kept_on l.chunk rows) (last_of u rows)
