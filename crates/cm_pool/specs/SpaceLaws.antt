-- What a holder of chunks of a pool relies on, in terms of free words alone: nothing here depends
-- on how a pool keeps them.
use Rattle.std.specs.Prelude.{◌≤◌, ℕ, List, ◌∷◌, ◌++◌}
use Rattle.cm_pool.specs.declared.chunk.Chunk.{Chunk}
use Rattle.cm_pool.specs.FreeSpace.{FreeSpace, IsFreeChunk, IsUsedChunk, HasFree, without}
use Rattle.cm_pool.specs.FreeSpace.{with_chunk, with_root}
use Rattle.cm_pool.specs.Held.{AreHeld, NoneIsLost}

-- A chunk that was free is used after it is taken.
abbrev pub TakenIsUsed : Type 0
TakenIsUsed = (p : FreeSpace) (c : Chunk) → IsFreeChunk p c → IsUsedChunk (without p c) c

-- A free chunk that is taken is held from then on, wherever it is inserted among the held ones.
abbrev pub TakenIsHeld : Type 0
TakenIsHeld =
    (p : FreeSpace) (front : List Chunk) (c : Chunk) (back : List Chunk)
    → AreHeld p (front ++ back) → IsFreeChunk p c → AreHeld (without p c) (front ++ c ∷ back)

-- A held chunk may be given back, and the others are still held.
abbrev pub HeldIsGiven : Type 0
HeldIsGiven =
    (p : FreeSpace) (front : List Chunk) (c : Chunk) (back : List Chunk)
    → AreHeld p (front ++ c ∷ back) → IsUsedChunk p c × AreHeld (with_chunk p c) (front ++ back)

-- One more root changes nothing about what is held.
abbrev pub RootsKeepHeld : Type 0
RootsKeepHeld = (p : FreeSpace) (cs : List Chunk) → AreHeld p cs → AreHeld (with_root p) cs

-- No word is lost if a free chunk is taken and kept, or if a root is added.
abbrev pub TakingLosesNone : Type 0
TakingLosesNone =
    (p : FreeSpace) (front : List Chunk) (c : Chunk) (back : List Chunk)
    → NoneIsLost p (front ++ back) → IsFreeChunk p c → NoneIsLost (without p c) (front ++ c ∷ back)

abbrev pub RootsLoseNone : Type 0
RootsLoseNone = (p : FreeSpace) (cs : List Chunk) → NoneIsLost p cs → NoneIsLost (with_root p) cs

-- A new root has free chunks of each order.
abbrev pub RootsAreFree : Type 0
RootsAreFree = (p : FreeSpace) (order : ℕ) → order ≤ p.geometry.top → HasFree (with_root p) order

-- If a chunk is free, there are free ones of each smaller order.
abbrev pub LargeHasSmall : Type 0
LargeHasSmall =
    (p : FreeSpace) (small large : ℕ) → small ≤ large → HasFree p large → HasFree p small
