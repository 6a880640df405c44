-- The accepted cache is ahead of the committed one by the commands that wait to be stored.
use Rattle.std.specs.Prelude.{◌≡◌, ℕ, ◌+◌, ◌≤◌, true, List, [], ◌∷◌, ◌++◌, length}
use Rattle.std.specs.List.{AllByRecursion, flat_map}
use Rattle.cm_pool.specs.declared.chunk.Chunk.{Chunk}
use Rattle.cm_pool.specs.Chunks.{Meets}
use Rattle.cm_pool.specs.FreeSpace.{FreeSpace, IsUsedChunk}
use Rattle.cm_pool.specs.Geometry.{Sizes}
use Rattle.cm_pool.specs.Lists.{Among}
use Rattle.cm_layout.specs.declared.class_row.ClassRow.{ClassRow}
use Rattle.cm_layout.specs.declared.row.Row.{Row}
use Rattle.cm_layout.specs.Rows.{classes_in, rows_after}
use Rattle.cm_group.specs.Groups.{Carried}
use Rattle.cm_space.specs.Space.{WaitingChunks}
use Rattle.cm_state.specs.State.{words_show}
use Rattle.cm_state.specs.Entries.{AreCacheRows, MayFollow}
use Rattle.cm_commit.specs.Offers.{filled, HasRecords, writes_apart, rows_after_group}
use Rattle.cm_front.specs.Front.{FrontState}

-- ---- entries one after another

-- each entry may follow those before it, with the records that it needs; the first has the number
-- after n
abbrev pub AllFollow : Sizes → List (Row (List ℕ)) → ℕ → List Carried → Type 0
AllFollow sizes rows n [] = Unit {0}
AllFollow sizes rows n (c ∷ carried) =
    MayFollow words_show sizes n rows (filled c) × HasRecords rows c.entry c.moved
    × AllFollow sizes (rows_after rows (filled c)) (n + 1) carried

-- a fact about the rows at each number: before the entries, between them, and after the last
abbrev pub AtEach : (ℕ → List (Row (List ℕ)) → Type 0) → ℕ → List (Row (List ℕ)) → List Carried
    → Type 0
AtEach P n rows [] = P n rows
AtEach P n rows (c ∷ carried) = P n rows × AtEach P (n + 1) (rows_after rows (filled c)) carried

-- No entry writes into a chunk that rows use at any number before it, other than after the records
-- on its loader's last one.
abbrev pub AllApart : List (Row (List ℕ)) → List Carried → Type 0
AllApart rows [] = Unit {0}
AllApart rows (c ∷ carried) =
    AllByRecursion (λ (d : Carried). writes_apart rows d.entry ≡ true) (c ∷ carried)
    × AllApart (rows_after rows (filled c)) carried

-- ---- chunks

-- no word of a row's chunk is free
abbrev pub AreUsed : FreeSpace → List (Row (List ℕ)) → Type 0
AreUsed pool rows = (r : ClassRow) → Among r (classes_in rows) → IsUsedChunk pool r.place.chunk

-- no row uses a word of a chunk that waits for a number that they have
abbrev pub UseNoneDue : List WaitingChunks → ℕ → List (Row (List ℕ)) → Type 0
UseNoneDue waiting n rows =
    (w : WaitingChunks) (c : Chunk) → Among w waiting → w.number ≤ n → Among c w.chunks
    → (r : ClassRow) → Among r (classes_in rows) → ¬ Meets r.place.chunk c

-- ---- the accepted cache

-- what waits to be stored: what was handed out, and what wasn't yet
abbrev pub pending : List Carried → FrontState → List Carried
pending out s = out ++ flat_map (λ g. g.entries) s.unsealed

-- Rows are committed with this number. The commands `out` were handed out and aren't durable yet;
-- the others wait in the cache. What was learnt is committed; and at each number from the committed
-- one on, no word is free that rows use.
pub record IsAhead (rows : List (Row (List ℕ))) (number : ℕ) (out : List Carried)
    (s : FrontState) : Type 0 where
  pub cache : AreCacheRows words_show s.sizes number rows
  pub numbers : number + length (pending out s) ≡ s.number
  pub sealed : number + length out ≡ s.sealed
  pub learnt : s.learnt ≤ number
  pub rows_are : rows_after_group rows (pending out s) ≡ s.rows
  pub follow : AllFollow s.sizes rows number (pending out s)
  pub apart : AllApart rows (pending out s)
  pub used : AtEach (λ n at. AreUsed s.space.pool at) number rows (pending out s)
  pub due : AtEach (UseNoneDue s.space.waiting) number rows (pending out s)
