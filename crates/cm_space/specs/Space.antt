-- What a space is seen as: a pool, the loaders' arenas, and the chunks that wait, each for a
-- number. Until the command that left a chunk is known to be durable, an open of the file may still
-- find records on the chunk. So it waits for that command's number, and isn't free before.
use Rattle.std.specs.Prelude.{◌≡◌, ℕ, ◌<◌, ◌≤◌, List, [], ◌∷◌, ◌++◌, IsSome, filter, unwrap_or}
use Rattle.std.specs.Prelude.{map as mapped, nat_le, nat_lt, refl}
use Rattle.std.specs.Ordering.{nat_cmp}
use Rattle.std.specs.FinMap as map
use Rattle.std.specs.FinSet as set
use Rattle.std.specs.Coded.{Coded, code_by, coded×, coded_ℕ, coded_list}
use Rattle.cm_pool.specs.declared.chunk.Chunk.{Chunk}
use Rattle.cm_pool.specs.Geometry.{Sizes}
use Rattle.cm_pool.specs.FreeSpace.{FreeSpace, with_chunk, free_space_code}
use Rattle.cm_arena.specs.Chains.{Filled, chain_chunks, chain_code}
use Rattle.cm_space.specs.declared.waiting.Waiting.{Waiting}

-- chunks that wait for a number
pub record WaitingChunks : Type 0 where
  pub number : ℕ
  pub chunks : List Chunk

-- the arenas are chains, by their loaders' numbers; the waiting chunks are listed oldest first
pub record SpaceState : Type 0 where
  pub pool : FreeSpace
  pub arenas : map.FinMap nat_cmp (List Filled)
  pub waiting : List WaitingChunks

-- no roots, no arenas, and nothing waits
abbrev pub empty_space : Sizes → SpaceState
empty_space sizes =
    record {
      pool = record { geometry = sizes; roots = 0; free = set.empty };
      arenas = map.empty;
      waiting = [];
    }

-- the loader has an arena
abbrev pub IsKnown : SpaceState → ℕ → Type 0
IsKnown s loader = IsSome (map.get s.arenas loader)

-- a loader's chain; without an arena it is the empty one
abbrev pub arena_of : SpaceState → ℕ → List Filled
arena_of s loader = unwrap_or (map.get s.arenas loader) []

-- the space with another chain for a loader, and with a loader's arena removed
abbrev pub with_arena : SpaceState → ℕ → List Filled → SpaceState
with_arena s loader chain = record s { arenas = map.insert s.arenas loader chain }

abbrev pub without_arena : SpaceState → ℕ → SpaceState
without_arena s loader = record s { arenas = map.remove s.arenas loader }

-- the space without a loader's arena, whose chunks wait for a number after those that wait already;
-- and likewise without those of several loaders, one after another
abbrev pub left_by : SpaceState → ℕ → ℕ → SpaceState
left_by s number loader =
    record (without_arena s loader) {
      waiting = s.waiting
          ++ record { number = number; chunks = chain_chunks (arena_of s loader) } ∷ [];
    }

abbrev pub left_by_all : SpaceState → ℕ → List ℕ → SpaceState
left_by_all s number [] = s
left_by_all s number (loader ∷ loaders) = left_by_all (left_by s number loader) number loaders

-- the pool with the words of all these chunks free
abbrev pub with_chunks : FreeSpace → List Chunk → FreeSpace
with_chunks p [] = p
with_chunks p (c ∷ cs) = with_chunks (with_chunk p c) cs

-- the chunks of a list of waiting ones
abbrev pub waiting_chunks : List WaitingChunks → List Chunk
waiting_chunks [] = []
waiting_chunks (w ∷ ws) = w.chunks ++ waiting_chunks ws

-- those that wait for at most a number, and those that wait for a greater one
abbrev pub due : ℕ → List WaitingChunks → List WaitingChunks
due number ws = filter (λ w. nat_le w.number number) ws

abbrev pub not_due : ℕ → List WaitingChunks → List WaitingChunks
not_due number ws = filter (λ w. nat_lt number w.number) ws

-- the space once a number is learnt: the chunks that wait for at most this number are free
abbrev pub learnt : SpaceState → ℕ → SpaceState
learnt s number =
    record s {
      pool = with_chunks s.pool (waiting_chunks (due number s.waiting));
      waiting = not_due number s.waiting;
    }

-- ---- how the code keeps a space

abbrev pub waits_of : Waiting → WaitingChunks
waits_of w = record { number = w.number; chunks = w.chunks.items }

abbrev pub waits_in : List Waiting → List WaitingChunks
waits_in ws = mapped waits_of ws

-- the oldest chunks wait for at most a number, and are removed
pub record IsOldestDue (number : ℕ) (old : List WaitingChunks) (chunks : List Chunk)
    (new : List WaitingChunks) : Type 0 where
  pub waits_for : ℕ
  pub is_due : waits_for ≤ number
  pub oldest : old ≡ record { number = waits_for; chunks = chunks } ∷ new

-- the oldest chunks, if there are any, wait for a greater number
abbrev pub IsLater : ℕ → List WaitingChunks → Type 0
IsLater number [] = Unit {0}
IsLater number (w ∷ ws) = number < w.number

abbrev pub space_state : FreeSpace → List (ℕ × List Filled) → List Waiting → SpaceState
space_state pool arenas waiting =
    record { pool = pool; arenas = map.from_entries arenas; waiting = waits_in waiting }

-- the loader has one of these arenas
abbrev pub HasArena : List (ℕ × List Filled) → ℕ → Type 0
HasArena arenas loader = IsSome (map.get (map.from_entries {R = nat_cmp} arenas) loader)

-- whatever the pool, the arenas of these loaders are removed, and their chunks wait for the number
abbrev pub AreLeft : List (ℕ × List Filled) → List Waiting → ℕ → List ℕ → List (ℕ × List Filled)
    → List Waiting → Type 0
AreLeft arenas waiting number loaders left behind =
    (pool : FreeSpace)
    → space_state pool left behind ≡ left_by_all (space_state pool arenas waiting) number loaders

-- an encoding of these values as data
abbrev pub waits_code : Coded WaitingChunks
waits_code =
    code_by (ℕ × List Chunk)
    (coded× coded_ℕ (coded_list (code_by (ℕ × (ℕ × ℕ)) (coded× coded_ℕ (coded× coded_ℕ coded_ℕ))
    (λ c. (c.root, (c.order, c.at))) (λ t. record { root = t.0; order = t.1.0; at = t.1.1 })
    (λ _. refl))))
    (λ w. (w.number, w.chunks)) (λ t. record { number = t.0; chunks = t.1 }) (λ _. refl)

abbrev pub state_code : Coded SpaceState
state_code =
    code_by (FreeSpace × (map.FinMap nat_cmp (List Filled) × List WaitingChunks))
    (coded× free_space_code (coded× (map.code coded_ℕ chain_code) (coded_list waits_code)))
    (λ s. (s.pool, (s.arenas, s.waiting)))
    (λ t. record { pool = t.0; arenas = t.1.0; waiting = t.1.1 }) (λ _. refl)
