-- Where the words of a record go.
use Rattle.std.specs.Prelude.{◌≡◌, ℕ, ◌+◌, ◌<◌, ◌≤◌, ◌⊎◌, min, max, List, [], ◌∷◌, ◌++◌, length}
use Rattle.std.specs.Prelude.{IsSomeAnd, Some, if◌then◌else◌}
use Rattle.cm_pool.specs.declared.chunk.Chunk.{Chunk}
use Rattle.cm_pool.specs.Chunks.{chunk_size, same_chunk}
use Rattle.cm_pool.specs.FreeSpace.{FreeSpace, HasFree, IsFirstFree, without, with_root}
use Rattle.cm_pool.specs.declared.place.Place.{Place}
use Rattle.cm_pool.specs.Places.{IsInside}
use Rattle.cm_arena.specs.Chains.{Filled, last_of, with_more}

-- the least order whose chunks hold the words
pub record IsNeed (words need : ℕ) : Type 0 where
  pub enough : words ≤ chunk_size need
  pub least : (order : ℕ) → order < need → chunk_size order < words

-- the order that is tried first: chunks grow with the length of the chain, up to order 4
abbrev pub order_wanted : ℕ → ℕ → ℕ → ℕ
order_wanted need chunks top = max need (min chunks (min 4 top))

-- the last chunk has room for `words` more words
abbrev pub HasRoom : List Filled → ℕ → Type 0
HasRoom chain words = IsSomeAnd (last_of chain) (λ f. f.used + words ≤ chunk_size f.chunk.order)

-- the words follow the used words of the last chunk
pub record IsOnTop (chain : List Filled) (words : ℕ) (place : Place)
    (new : List Filled) : Type 0 where
  pub last : last_of chain ≡ Some (record { chunk = place.chunk; used = place.offset })
  pub room : place.offset + words ≤ chunk_size place.chunk.order
  pub amount : place.words ≡ words
  pub after : new ≡ with_more chain words

-- the words are at the front of a new chunk
pub record IsInNew (chain : List Filled) (words : ℕ) (place : Place)
    (new : List Filled) : Type 0 where
  pub front : place.offset ≡ 0
  pub room : words ≤ chunk_size place.chunk.order
  pub amount : place.words ≡ words
  pub after : new ≡ chain ++ record { chunk = place.chunk; used = words } ∷ []

-- the chunk comes from the pool: of the order wanted, else of the order needed, else of the order
-- wanted from a new root
pub record IsWanted (old : FreeSpace) (wanted : ℕ) (c : Chunk) (new : FreeSpace) : Type 0 where
  pub first : IsFirstFree old wanted c
  pub left : new ≡ without old c

pub record IsNeeded (old : FreeSpace) (wanted need : ℕ) (c : Chunk) (new : FreeSpace) : Type 0 where
  pub none_wanted : ¬ HasFree old wanted
  pub first : IsFirstFree old need c
  pub left : new ≡ without old c

pub record IsOfNewRoot (old : FreeSpace) (wanted need : ℕ) (c : Chunk)
    (new : FreeSpace) : Type 0 where
  pub none_wanted : ¬ HasFree old wanted
  pub none_needed : ¬ HasFree old need
  pub room : old.roots < old.geometry.roots
  pub first : IsFirstFree (with_root old) wanted c
  pub left : new ≡ without (with_root old) c

abbrev pub Fetches : FreeSpace → ℕ → ℕ → Chunk → FreeSpace → Type 0
Fetches old wanted need c new = IsWanted old wanted c new ⊎ (IsNeeded old wanted need c new
    ⊎ IsOfNewRoot old wanted need c new)

-- a new chunk is fetched, and the words are at its front
pub record IsFetched (chain : List Filled) (pool : FreeSpace) (words : ℕ) (place : Place)
    (new : List Filled) (left : FreeSpace) : Type 0 where
  pub no_room : ¬ HasRoom chain words
  pub need : ℕ
  pub is_need : IsNeed words need
  pub fetches : Fetches pool (order_wanted need (length chain) pool.geometry.top) need
      place.chunk left
  pub in_new : IsInNew chain words place new

-- where the words go, and what becomes of chain and pool
abbrev pub Places : List Filled → FreeSpace → ℕ → Place → List Filled → FreeSpace → Type 0
Places chain pool words place new left = (IsOnTop chain words place new × (left ≡ pool))
    ⊎ IsFetched chain pool words place new left

-- the region is full for `words` words
pub record IsFull (chain : List Filled) (pool : FreeSpace) (words : ℕ) : Type 0 where
  pub fits : words ≤ chunk_size pool.geometry.top
  pub no_room : ¬ HasRoom chain words
  pub need : ℕ
  pub is_need : IsNeed words need
  pub none_free : ¬ HasFree pool need
  pub no_root : pool.geometry.roots ≤ pool.roots

-- where the next words in a chunk go: after the used ones of the last chunk, or at the front of
-- another chunk
abbrev pub next_offset : List Filled → Chunk → ℕ
next_offset [] c = 0
next_offset (f ∷ []) c = if same_chunk f.chunk c then f.used else 0
next_offset (f ∷ g ∷ rest) c = next_offset (g ∷ rest) c

-- the chain with the words of a place that continues it
abbrev pub with_place : List Filled → Place → List Filled
with_place [] place = record { chunk = place.chunk; used = place.words } ∷ []
with_place (f ∷ []) place = if same_chunk f.chunk place.chunk
    then record { chunk = f.chunk; used = f.used + place.words } ∷ []
    else f ∷ record { chunk = place.chunk; used = place.words } ∷ []
with_place (f ∷ g ∷ rest) place = f ∷ with_place (g ∷ rest) place

-- a place found in a file can be the next one
pub record IsNextPlace (chain : List Filled) (place : Place) : Type 0 where
  pub inside : IsInside place
  pub offset : place.offset ≡ next_offset chain place.chunk
