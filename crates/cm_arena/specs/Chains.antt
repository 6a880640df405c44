-- What an arena is seen as: a chain of chunks, each with how many of its words are used. As in
-- OpenJDK JEP 387 the metadata of one loader are in such a chain, and only the last chunk is filled
-- further; the numbers are this project's own.
use Rattle.std.specs.Prelude.{◌≡◌, ℕ, ◌+◌, ◌≤◌, List, [], ◌∷◌, map, Option, Some, None}
use Rattle.std.specs.Prelude.{if◌then◌else◌, length, refl}
use Rattle.std.specs.List.{AllByRecursion}
use Rattle.std.specs.Coded.{Coded, code_by, coded×, coded_ℕ, coded_list}
use Rattle.cm_pool.specs.declared.chunk.Chunk.{Chunk}
use Rattle.cm_pool.specs.Chunks.{chunk_size, same_chunk}

-- a chunk of the chain, and how many words at its front are used
pub record Filled : Type 0 where
  pub chunk : Chunk
  pub used : ℕ

-- the chain's chunks, in order
abbrev pub chain_chunks : List Filled → List Chunk
chain_chunks chain = map (λ f. f.chunk) chain

-- the last chunk of the chain
abbrev pub last_of : List Filled → Option Filled
last_of [] = None
last_of (f ∷ []) = Some f
last_of (f ∷ g ∷ rest) = last_of (g ∷ rest)

-- the chain with more words used of its last chunk
abbrev pub with_more : List Filled → ℕ → List Filled
with_more [] words = []
with_more (f ∷ []) words = record { chunk = f.chunk; used = f.used + words } ∷ []
with_more (f ∷ g ∷ rest) words = f ∷ with_more (g ∷ rest) words

-- how many words of a chunk are used, if it is in the chain
abbrev pub used_of : List Filled → Chunk → Option ℕ
used_of [] c = None
used_of (f ∷ rest) c = if same_chunk f.chunk c then Some f.used else used_of rest c

-- what holds for each chunk of a chain
pub record IsFilled (f : Filled) : Type 0 where
  pub small : f.chunk.order ≤ 12
  pub some : 1 ≤ f.used
  pub within : f.used ≤ chunk_size f.chunk.order

-- the chain made of the parallel lists of chunks and of used words
abbrev pub chain_of : List Chunk → List ℕ → List Filled
chain_of [] used = []
chain_of (c ∷ chunks) [] = []
chain_of (c ∷ chunks) (n ∷ used) = record { chunk = c; used = n } ∷ chain_of chunks used

-- the invariant of an arena
pub record IsArena (chunks : List Chunk) (used : List ℕ) : Type 0 where
  pub pairs : length chunks ≡ length used
  pub each : AllByRecursion IsFilled (chain_of chunks used)

-- a chain as data
abbrev pub chain_code : Coded (List Filled)
chain_code =
    coded_list (code_by (ℕ × (ℕ × (ℕ
    × ℕ))) (coded× coded_ℕ (coded× coded_ℕ (coded× coded_ℕ coded_ℕ)))
    (λ f. (f.chunk.root, (f.chunk.order, (f.chunk.at, f.used))))
    (λ t. record { chunk = record { root = t.0; order = t.1.0; at = t.1.1.0 }; used = t.1.1.1 })
    (λ _. refl))
