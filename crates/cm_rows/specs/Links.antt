-- How the places of a loader's rows are linked: each to the one before it.
use Rattle.std.specs.Prelude.{◌≡◌, ◌<◌, ◌≤◌, ◌+◌, ◌*◌, ◌&&◌, ℕ, suc, Bool, true, false, Option}
use Rattle.std.specs.Prelude.{Some, None, List, [], ◌∷◌, ◌++◌, map, take, drop, length, get_or}
use Rattle.std.specs.Prelude.{if◌then◌else◌, vec_capacity}
use Rattle.std.specs.List.{slice_get, AllByRecursion}
use Rattle.cm_pool.specs.declared.chunk.Chunk.{Chunk}
use Rattle.cm_pool.specs.Chunks.{same_chunk}
use Rattle.cm_pool.specs.Geometry.{Sizes}
use Rattle.cm_pool.specs.Lists.{Among}
use Rattle.cm_layout.specs.declared.row.Row.{Row}
use Rattle.cm_layout.specs.declared.row.Row.TheVariants.{Loader, Class}
use Rattle.cm_layout.specs.declared.class_row.ClassRow.{ClassRow}
use Rattle.cm_layout.specs.Rows.{is_of, moved_row, classes_in, used_words, kept_on}
use Rattle.cm_layout.specs.Rules.{row_limit}
use Rattle.cm_index.specs.declared.slot.BookSlot.{BookSlot}
use Rattle.cm_index.specs.Living.{living}
use Rattle.cm_rows.specs.declared.live_loader.LiveLoader.{LiveLoader}
use Rattle.cm_rows.specs.declared.loader_places.LoaderPlaces.{LoaderPlaces}
use Rattle.cm_rows.specs.declared.row_places.RowPlaces.{RowPlaces}
use Rattle.cm_rows.specs.Loaders.{numbers_of_loaders, items}

-- the number of the loader that a row belongs to: its own, or that of its class's loader
abbrev pub loader_in : {P : Type 0} → Row P → ℕ
loader_in (Loader r) = r.number
loader_in (Class r p) = r.loader

-- each row's loader is one of these
abbrev pub AreOwned : {P : Type 0} → List (Row P) → List LiveLoader → Type 0
AreOwned rows loaders =
    AllByRecursion (λ row. Among (loader_in row) (numbers_of_loaders loaders)) rows

-- a place among the places after the first; or else the first, if `t` says so
abbrev pub place_behind : Option ℕ → Bool → Option ℕ
place_behind (Some i) t = Some (suc i)
place_behind None t = if t then Some 0 else None

-- where the last live row of a loader is
abbrev pub last_place : {P : Type 0} → ℕ → List (BookSlot (Row P)) → Option ℕ
last_place u [] = None
last_place u (s ∷ slots) = place_behind (last_place u slots) (s.live && is_of u s.item)

-- for each place of a live row, `before` has the place of its loader's live row before it
pub record AreLinked {P : Type 0} (slots : List (BookSlot (Row P)))
    (before : List (Option ℕ)) : Type 0 where
  pub same : length before ≡ length slots
  pub each : (i : ℕ) (s : BookSlot (Row P)) → slice_get slots i ≡ Some s → s.live ≡ true
      → get_or before i None ≡ last_place (loader_in s.item) (take i slots)

-- the last places of loaders of these numbers
abbrev pub last_places : {P : Type 0} → List (BookSlot (Row P)) → List ℕ → List (Option ℕ)
last_places slots numbers = map (λ u. last_place u slots) numbers

-- if a chunk's records move, no other loader's row does
pub record OthersStay {P : Type 0} (u : ℕ) (from to : Chunk)
    (slots : List (BookSlot (Row P))) : Type 0 where
  pub each : (i : ℕ) (s : BookSlot (Row P)) → slice_get slots i ≡ Some s → s.live ≡ true
      → is_of u s.item ≡ false → moved_row from to s.item ≡ s.item

-- a place whose row is dead
abbrev pub ended : {P : Type 0} → BookSlot (Row P) → BookSlot (Row P)
ended s = record { item = s.item; live = false }

-- the next live row from a place on is here
pub record ComesNext {X : Type 0} (slots : List (BookSlot X)) (from place : ℕ) : Type 0 where
  pub within : place < length slots
  pub is : (d : BookSlot X) → living (drop from slots)
      ≡ (get_or slots place d).item ∷ living (drop (place + 1) slots)

-- a row is that of a class on a chunk
abbrev pub is_on : {P : Type 0} → Chunk → Row P → Bool
is_on c (Loader r) = false
is_on c (Class r p) = same_chunk r.place.chunk c

-- how many words a row has on a chunk
abbrev pub words_on : {P : Type 0} → Chunk → Row P → ℕ
words_on c (Loader r) = 0
words_on c (Class r p) = if same_chunk r.place.chunk c then r.place.words else 0

-- each live row on the chunk belongs to the loader
abbrev pub AreOwnOn : {P : Type 0} → ℕ → Chunk → List (BookSlot (Row P)) → Type 0
AreOwnOn u c slots =
    (r : ClassRow) → Among r (classes_in (living slots)) → r.place.chunk ≡ c → r.loader ≡ u

-- how many places a walk still visits at most
abbrev pub places_left : Option ℕ → ℕ
places_left None = 0
places_left (Some i) = suc i

-- the live rows up to a place, or none
abbrev pub rows_to : {P : Type 0} → Option ℕ → List (BookSlot (Row P)) → List (Row P)
rows_to place slots = living (take (places_left place) slots)

-- Backwards from a place, the next live row on the chunk is here.
pub record ComesBack {P : Type 0} (c : Chunk) (slots : List (BookSlot (Row P)))
    (from : Option ℕ) (place : ℕ) : Type 0 where
  pub row : ClassRow
  pub kept : P
  pub is : slice_get slots place ≡ Some (record { item = Class row kept; live = true })
  pub on : row.place.chunk ≡ c
  pub rows : kept_on c (rows_to from slots) ≡ kept_on c (living (take place slots)) ++ kept ∷ []
  pub words : used_words c (rows_to from slots)
      ≡ used_words c (living (take place slots)) + row.place.words

-- A walk backwards over a loader's rows visits this place next, and the rows up to it use `used`
-- words of the chunk.
pub record LinksBack {P : Type 0} (slots : List (BookSlot (Row P))) (before : List (Option ℕ))
    (c : Chunk) (next : Option ℕ) (used : ℕ) : Type 0 where
  pub loader : ℕ
  pub behind : ℕ
  pub next_is : next ≡ last_place loader (take behind slots)
  pub linked : AreLinked slots before
  pub own : AreOwnOn loader c slots
  pub some : (r : ClassRow) → Among r (classes_in (living slots)) → 1 ≤ r.place.words
  pub used_is : used ≡ used_words c (rows_to next slots)

-- the links of the places, with room for twice the rows that can live
pub record HasLinks {P : Type 0} (sizes : Sizes) (rows : RowPlaces P)
    (loaders : LoaderPlaces) : Type 0 where
  pub linked : AreLinked rows.indexed.slots.items rows.before.items
  pub lasts : loaders.newest.items
      ≡ last_places rows.indexed.slots.items (numbers_of_loaders (items loaders.slots.items))
  pub few : length rows.indexed.slots.items ≤ 2 * row_limit sizes
  pub room : 2 * row_limit sizes ≤ vec_capacity rows.indexed.slots
  pub before_room : 2 * row_limit sizes ≤ vec_capacity rows.before
  pub newest_room : 2 * row_limit sizes ≤ vec_capacity loaders.newest
