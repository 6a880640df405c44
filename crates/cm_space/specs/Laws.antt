-- Laws that hold for every space, in terms of loaders, numbers and words.
use Rattle.std.specs.Prelude.{◌≡◌, ℕ, ◌<◌, ◌≤◌, ◌+◌, ◌⊎◌, ◌↔◌, max}
use Rattle.cm_pool.specs.declared.chunk.Chunk.{Chunk}
use Rattle.cm_pool.specs.Chunks.{chunk_size, Covers, Meets}
use Rattle.cm_pool.specs.FreeSpace.{FreeSpace, IsFreeWord, IsUsedChunk}
use Rattle.cm_space.specs.Space.{SpaceState, learnt}
use Rattle.cm_space.specs.Adopting.{reaching}
use Rattle.cm_space.specs.Ownership.{IsSpace, Owns, WaitsFor}

-- Two chunks of arenas that share a word are the same chunk of the same loader.
abbrev pub OneOwner : Type 0
OneOwner =
    (s : SpaceState) → IsSpace s → (loader other : ℕ) (c d : Chunk) → Owns s loader c
    → Owns s other d → Meets c d → (loader ≡ other) × (c ≡ d)

-- Two waiting chunks that share a word are the same chunk, waiting for the same number.
abbrev pub OneNumber : Type 0
OneNumber =
    (s : SpaceState) → IsSpace s → (number other : ℕ) (c d : Chunk) → WaitsFor s number c
    → WaitsFor s other d → Meets c d → (number ≡ other) × (c ≡ d)

-- A chunk of an arena shares no word with one that waits.
abbrev pub OwnedOrWaiting : Type 0
OwnedOrWaiting =
    (s : SpaceState) → IsSpace s → (loader number : ℕ) (c d : Chunk) → Owns s loader c
    → WaitsFor s number d → ¬ Meets c d

-- No word of a chunk that is owned or waits is free.
abbrev pub OwnedIsUsed : Type 0
OwnedIsUsed = (s : SpaceState) → IsSpace s → (loader : ℕ) (c : Chunk) → Owns s loader c
    → IsUsedChunk s.pool c

abbrev pub WaitingIsUsed : Type 0
WaitingIsUsed = (s : SpaceState) → IsSpace s → (number : ℕ) (c : Chunk) → WaitsFor s number c
    → IsUsedChunk s.pool c

-- Each word of a present root is free, or in a chunk that a loader owns, or in a chunk that waits
-- for a number.
abbrev pub EachWord : Type 0
EachWord =
    (s : SpaceState) → IsSpace s → (root word : ℕ) → root < s.pool.roots
    → word < chunk_size s.pool.geometry.top
    → IsFreeWord s.pool root word
    ⊎ (((loader : ℕ) × (c : Chunk) × Owns s loader c × Covers c root word)
    ⊎ ((number : ℕ) × (c : Chunk) × WaitsFor s number c × Covers c root word))

-- Once a number is learnt, the free words are those that were free before, and those of the chunks
-- that wait for at most this number.
abbrev pub LearningFreesDue : Type 0
LearningFreesDue =
    (s : SpaceState) → IsSpace s → (learnt_now root word : ℕ)
    → IsFreeWord (learnt s learnt_now).pool root word
    ↔ (IsFreeWord s.pool root word
    ⊎ ((number : ℕ) × (c : Chunk) × (number ≤ learnt_now) × WaitsFor s number c
    × Covers c root word))

-- If roots are added until one is present, there are then as many as before, or one more than its
-- number.
abbrev pub RootsReach : Type 0
RootsReach = (p : FreeSpace) (root : ℕ) → (reaching p root).roots ≡ max p.roots (root + 1)
