-- Rows: the loaders and classes that live, in the order of the entries that made them, each class
-- with what is kept of it (nothing, its record's words, its class); and what an entry makes of
-- them.
use Rattle.std.specs.Prelude.{ℕ, ◌+◌, Bool, not, ◌==◌, if◌then◌else◌, List, [], ◌∷◌, ◌++◌, sum, map}
use Rattle.std.specs.Prelude.{filter, length, Option, Some, None}
use Rattle.std.specs.Str.{bytes_eq}
use Rattle.cm_pool.specs.declared.chunk.Chunk.{Chunk}
use Rattle.cm_pool.specs.declared.place.Place.{Place}
use Rattle.cm_pool.specs.Chunks.{same_chunk}
use Rattle.cm_layout.specs.declared.class_row.ClassRow.{ClassRow}
use Rattle.cm_layout.specs.declared.row.Row.{Row}
use Rattle.cm_layout.specs.declared.row.Row.TheVariants.{Loader, Class}
use Rattle.cm_layout.specs.declared.entry.Entry.{Entry}
use Rattle.cm_layout.specs.declared.entry.Entry.TheVariants.{Live, Unload, Move, UnloadAll}
use Rattle.cm_layout.specs.Names.{slots_of_name}

-- ---- what rows say

-- the name of the live loader of this number
abbrev pub name_of : {P : Type 0} → ℕ → List (Row P) → Option (List ℕ)
name_of u [] = None
name_of u (Loader r ∷ rows) = if r.number == u then Some r.name else name_of u rows
name_of u (Class r p ∷ rows) = name_of u rows

-- the number of the live loader of this name
abbrev pub number_of : {P : Type 0} → List ℕ → List (Row P) → Option ℕ
number_of x [] = None
number_of x (Loader r ∷ rows) = if bytes_eq r.name x then Some r.number else number_of x rows
number_of x (Class r p ∷ rows) = number_of x rows

-- the numbers of the live loaders
abbrev pub numbers_in : {P : Type 0} → List (Row P) → List ℕ
numbers_in [] = []
numbers_in (Loader r ∷ rows) = r.number ∷ numbers_in rows
numbers_in (Class r p ∷ rows) = numbers_in rows

-- the rows of classes, and their chunks
abbrev pub classes_in : {P : Type 0} → List (Row P) → List ClassRow
classes_in [] = []
classes_in (Loader r ∷ rows) = classes_in rows
classes_in (Class r p ∷ rows) = r ∷ classes_in rows

abbrev pub chunks_in : {P : Type 0} → List (Row P) → List Chunk
chunks_in rows = map (λ r. r.place.chunk) (classes_in rows)

-- how many slots a row takes as a live row, and an entry in its group
abbrev pub slots_of_row : {P : Type 0} → Row P → ℕ
slots_of_row (Loader r) = slots_of_name r.name
slots_of_row (Class r p) = 1

abbrev pub slots_of : {P : Type 0} → Entry P → ℕ
slots_of (Live row) = slots_of_row row
slots_of (Unload e) = 1
slots_of (Move e) = 1
slots_of (UnloadAll e) = 1

abbrev pub slots_of_rows : {P : Type 0} → List (Row P) → ℕ
slots_of_rows [] = 0
slots_of_rows (row ∷ rows) = slots_of_row row + slots_of_rows rows

abbrev pub slots_of_entries : {P : Type 0} → List (Entry P) → ℕ
slots_of_entries [] = 0
slots_of_entries (e ∷ entries) = slots_of e + slots_of_entries entries

-- how many slots a group's entries may take
abbrev pub group_limit : ℕ
group_limit = 64

-- how many words of a chunk records take
abbrev pub used_words : {P : Type 0} → Chunk → List (Row P) → ℕ
used_words c rows =
    sum (map (λ r. r.place.words) (filter (λ r. same_chunk r.place.chunk c) (classes_in rows)))

-- what is kept of the classes on a chunk, in order
abbrev pub kept_on : {P : Type 0} → Chunk → List (Row P) → List P
kept_on c [] = []
kept_on c (Loader r ∷ rows) = kept_on c rows
kept_on c (Class r p ∷ rows) =
    if same_chunk r.place.chunk c then p ∷ kept_on c rows else kept_on c rows

-- this holds for what is kept of each class
abbrev pub EachClass : {P : Type 0} → (P → Type 0) → List (Row P) → Type 0
EachClass Is [] = Unit {0}
EachClass Is (Loader r ∷ rows) = EachClass Is rows
EachClass Is (Class r p ∷ rows) = Is p × EachClass Is rows

-- the chunk of a loader's last class
abbrev pub last_chunk : ℕ → List ClassRow → Option Chunk
last_chunk u [] = None
last_chunk u (r ∷ rows) =
    elim (last_chunk u rows)
    [ Some c ↦ Some c | None ↦ if r.loader == u then Some r.place.chunk else None ]

-- ---- the rows after an entry

-- a row of the loader of this number: its own, or one of its classes
abbrev pub is_of : {P : Type 0} → ℕ → Row P → Bool
is_of u (Loader r) = r.number == u
is_of u (Class r p) = r.loader == u

abbrev pub without_loader : {P : Type 0} → ℕ → List (Row P) → List (Row P)
without_loader u rows = filter (λ row. not (is_of u row)) rows

-- without the loaders of these numbers, one after another
abbrev pub without_loaders : {P : Type 0} → List ℕ → List (Row P) → List (Row P)
without_loaders [] rows = rows
without_loaders (u ∷ us) rows = without_loaders us (without_loader u rows)

-- a record on the old chunk is on the new one afterwards, at the same offset
abbrev pub moved_row : {P : Type 0} → Chunk → Chunk → Row P → Row P
moved_row from to (Loader r) = Loader r
moved_row from to (Class r p) =
    if same_chunk r.place.chunk from
    then Class (record r { place = record r.place { chunk = to } }) p else Class r p

abbrev pub moved : {P : Type 0} → Chunk → Chunk → List (Row P) → List (Row P)
moved from to rows = map (moved_row from to) rows

-- what a move writes on the new chunk: each record after the one before it, from this offset on
abbrev pub move_writes : Chunk → ℕ → List (List ℕ) → List (Place × List ℕ)
move_writes to offset [] = []
move_writes to offset (words ∷ records) =
    (record { chunk = to; offset = offset; words = length words }, words)
    ∷ move_writes to (offset + length words) records

abbrev pub rows_after : {P : Type 0} → List (Row P) → Entry P → List (Row P)
rows_after rows (Live row) = rows ++ row ∷ []
rows_after rows (Unload e) = without_loader e.loader rows
rows_after rows (Move e) = moved e.from e.to rows
rows_after rows (UnloadAll e) = without_loaders e.loaders rows

abbrev pub rows_after_all : {P : Type 0} → List (Row P) → List (Entry P) → List (Row P)
rows_after_all rows [] = rows
rows_after_all rows (e ∷ entries) = rows_after_all (rows_after rows e) entries

-- ---- rows with something else kept of each class

abbrev pub row_with : {P Q : Type 0} → (P → Q) → Row P → Row Q
row_with f (Loader r) = Loader r
row_with f (Class r p) = Class r (f p)

abbrev pub rows_with : {P Q : Type 0} → (P → Q) → List (Row P) → List (Row Q)
rows_with f rows = map (row_with f) rows

abbrev pub entry_with : {P Q : Type 0} → (P → Q) → Entry P → Entry Q
entry_with f (Live row) = Live (row_with f row)
entry_with f (Unload e) = Unload e
entry_with f (Move e) = Move e
entry_with f (UnloadAll e) = UnloadAll e

-- rows with nothing kept of a class
abbrev pub bare : {P : Type 0} → List (Row P) → List (Row (Unit {0}))
bare rows = rows_with (λ p. tt) rows
