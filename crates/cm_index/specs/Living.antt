-- The live items in a list of places.
use Rattle.std.specs.Prelude.{ℕ, ◌&&◌, not, if◌then◌else◌, List, [], ◌∷◌, filter}
use Rattle.cm_pool.specs.declared.chunk.Chunk.{Chunk}
use Rattle.cm_layout.specs.declared.row.Row.{Row}
use Rattle.cm_layout.specs.Rows.{is_of, moved_row}
use Rattle.cm_index.specs.declared.slot.BookSlot.{BookSlot}

-- the live items, in order
abbrev pub living : {X : Type 0} → List (BookSlot X) → List X
living [] = []
living (s ∷ slots) = if s.live then s.item ∷ living slots else living slots

-- the places of live items alone
abbrev pub swept : {X : Type 0} → List (BookSlot X) → List (BookSlot X)
swept slots = filter (λ s. s.live) slots

-- the place of a row once the loader of this number is unloaded
abbrev pub unloaded : {P : Type 0} → ℕ → BookSlot (Row P) → BookSlot (Row P)
unloaded u s = record { item = s.item; live = s.live && not (is_of u s.item) }

-- the place of a row once a chunk's records are moved to another; a dead row stays as it is
abbrev pub moved_slot : {P : Type 0} → Chunk → Chunk → BookSlot (Row P) → BookSlot (Row P)
moved_slot from to s =
    record { item = if s.live then moved_row from to s.item else s.item; live = s.live }
