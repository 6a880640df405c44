-- The loaders as a list sorted by number, with dead ones between them.
use Rattle.std.specs.Prelude.{◌≡◌, ◌≢◌, ◌<◌, ◌≤◌, ◌==◌, ◌+◌, ◌*◌, ℕ, true, false, Option, None}
use Rattle.std.specs.Prelude.{List, [], ◌∷◌, length, map, take, drop, slice_set, vec_capacity}
use Rattle.std.specs.Prelude.{if◌then◌else◌}
use Rattle.std.specs.List.{All, HoldsAt, AllByRecursion}
use Rattle.cm_pool.specs.Geometry.{Sizes}
use Rattle.cm_pool.specs.Lists.{Pairwise}
use Rattle.cm_layout.specs.Rules.{row_limit}
use Rattle.cm_index.specs.declared.slot.BookSlot.{BookSlot}
use Rattle.cm_index.specs.Index.{LivesAt}
use Rattle.cm_rows.specs.declared.live_loader.LastChunk.{LastChunk}
use Rattle.cm_rows.specs.declared.live_loader.LiveLoader.{LiveLoader}
use Rattle.cm_rows.specs.declared.loader_places.LoaderPlaces.{LoaderPlaces}

abbrev pub numbers_of_loaders : List LiveLoader → List ℕ
numbers_of_loaders loaders = map (λ l. l.number) loaders

-- each number is below those after it
pub record Rises (loaders : List LiveLoader) : Type 0 where
  pub each : Pairwise (λ a b. a.number < b.number) loaders

-- the loader of this number is at this place
pub record LoaderIsAt (loaders : List LiveLoader) (number place : ℕ) : Type 0 where
  pub within : place < length loaders
  pub number_is : HoldsAt (λ l. l.number ≡ number) loaders place

-- no loader has this number
pub record IsAbsent (loaders : List LiveLoader) (number : ℕ) : Type 0 where
  pub none : All (λ l. l.number ≢ number) loaders

-- the last chunk that is kept of a loader
abbrev pub last_in : ℕ → List LiveLoader → Option LastChunk
last_in u [] = None
last_in u (l ∷ loaders) = if l.number == u then l.last else last_in u loaders

-- the items at places, live or dead
abbrev pub items : {X : Type 0} → List (BookSlot X) → List X
items slots = map (λ s. s.item) slots

-- the loader of this number is at this place, and lives
pub record LoaderLivesAt (loaders : List (BookSlot LiveLoader)) (number place : ℕ) : Type 0 where
  pub at : LoaderIsAt (items loaders) number place
  pub lives : LivesAt loaders place

-- those from this place on are dead, and the one before it lives
pub record IsLivingEnd (loaders : List (BookSlot LiveLoader)) (place : ℕ) : Type 0 where
  pub within : place ≤ length loaders
  pub behind : AllByRecursion (λ s. s.live ≡ false) (drop place loaders)
  pub last : (k : ℕ) → place ≡ k + 1 → LivesAt loaders k

-- the place of a live loader, with its last chunk, and the place of a dead one
abbrev pub living_loader : ℕ → Option LastChunk → BookSlot LiveLoader
living_loader number last = record { item = record { number = number; last = last }; live = true }

abbrev pub ended_loader : ℕ → BookSlot LiveLoader
ended_loader number = record { item = record { number = number; last = None }; live = false }

-- the loader at this place is dead
abbrev pub with_end : List (BookSlot LiveLoader) → ℕ → ℕ → List (BookSlot LiveLoader)
with_end loaders at number = slice_set loaders at (ended_loader number)

-- the loader at this place is dead, and dead ones at the end are removed
pub record HasEnded (old : LoaderPlaces) (at number : ℕ) (new : LoaderPlaces) : Type 0 where
  pub count : ℕ
  pub is_end : IsLivingEnd (with_end old.slots.items at number) count
  pub slots_are : new.slots.items ≡ take count (with_end old.slots.items at number)
  pub newest_are : new.newest.items ≡ take count (slice_set old.newest.items at None)

-- the places of loaders are sorted by number, the last one lives, and there is room for as many as
-- for rows
pub record HasLoaders (sizes : Sizes) (loaders : LoaderPlaces) (rows : ℕ) : Type 0 where
  pub rises : Rises (items loaders.slots.items)
  pub last : (k : ℕ) → length loaders.slots.items ≡ k + 1 → LivesAt loaders.slots.items k
  pub few : length loaders.slots.items ≤ rows
  pub room : 2 * row_limit sizes ≤ vec_capacity loaders.slots
