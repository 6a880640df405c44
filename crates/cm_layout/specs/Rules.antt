-- The rules that entries and live rows keep, given the rows that live before them. Each rule is one
-- on rows (loaders, names, numbers, how many rows there are) or one on chunks (chunks, offsets,
-- sizes), so that the first that is broken has a sort.
use Rattle.std.specs.Prelude.{ℕ, ◌+◌, ◌/◌, ◌%◌, ◌==◌, Bool, true, false, not, ◌&&◌, ◌||◌, nat_lt}
use Rattle.std.specs.Prelude.{nat_le}
use Rattle.std.specs.Prelude.{min, max, if◌then◌else◌, List, [], ◌∷◌, Option, Some, None, is_some}
use Rattle.std.specs.Prelude.{is_none}
use Rattle.std.specs.List.{list_all, list_any}
use Rattle.std.specs.Option.{option_map_or}
use Rattle.cm_pool.specs.declared.chunk.Chunk.{Chunk}
use Rattle.cm_pool.specs.Geometry.{Sizes}
use Rattle.cm_pool.specs.Chunks.{chunk_size, same_chunk}
use Rattle.cm_layout.specs.declared.loader_row.LoaderRow.{LoaderRow}
use Rattle.cm_layout.specs.declared.class_row.ClassRow.{ClassRow}
use Rattle.cm_layout.specs.declared.move_entry.Move.{Move}
use Rattle.cm_layout.specs.declared.row.Row.{Row}
use Rattle.cm_layout.specs.declared.row.Row.TheVariants.{Loader, Class}
use Rattle.cm_layout.specs.declared.entry.Entry.{Entry}
use Rattle.cm_layout.specs.declared.entry.Entry.TheVariants as entry
use Rattle.cm_layout.specs.declared.entry_rule.EntryRule.{EntryRule}
use Rattle.cm_layout.specs.declared.entry_rule.EntryRule.TheVariants.{OnRows, OnChunks}
use Rattle.cm_layout.specs.Names.{is_loader_name}
use Rattle.cm_layout.specs.Rows.{slots_of_row, slots_of_rows, name_of, number_of, numbers_in}
use Rattle.cm_layout.specs.Rows.{classes_in, chunks_in, used_words, last_chunk}

-- ---- rules on rows

-- live rows may take half of a half's slots
abbrev pub row_limit : Sizes → ℕ
row_limit sizes = sizes.slots / 2

abbrev pub has_room : {P : Type 0} → Sizes → List (Row P) → Row P → Bool
has_room sizes rows row = nat_le (slots_of_rows rows + slots_of_row row) (row_limit sizes)

-- if rows take `taken` slots, there is no room for `need` more
abbrev pub is_too_much : Sizes → ℕ → ℕ → Bool
is_too_much sizes taken need = nat_lt (row_limit sizes) (taken + need)

abbrev pub is_live : {P : Type 0} → ℕ → List (Row P) → Bool
is_live u rows = is_some (name_of u rows)

-- all these loaders live
abbrev pub are_live : {P : Type 0} → List ℕ → List (Row P) → Bool
are_live us rows = list_all (λ u. is_live u rows) us

-- no number occurs twice
abbrev pub differ : List ℕ → Bool
differ [] = true
differ (u ∷ us) = list_all (λ v. not (u == v)) us && differ us

-- a loader with a name of its own
abbrev pub is_new_loader : {P : Type 0} → Sizes → List (Row P) → LoaderRow → Bool
is_new_loader sizes rows r =
    is_loader_name r.name && is_none (number_of r.name rows) && has_room sizes rows (Loader r)

-- ---- rules on chunks

-- the chunk is one that a region of these sizes can have
abbrev pub is_chunk : Sizes → Chunk → Bool
is_chunk sizes c =
    nat_le c.order sizes.top && nat_lt c.root sizes.roots && (c.at % chunk_size c.order == 0)
    && nat_le (c.at + chunk_size c.order) (chunk_size sizes.top)

-- the two chunks share a word
abbrev pub meets : Chunk → Chunk → Bool
meets a b = (a.root == b.root)
    && nat_lt (max a.at b.at) (min (a.at + chunk_size a.order) (b.at + chunk_size b.order))

-- the chunk is free: it meets no chunk of any row
abbrev pub is_unused : {P : Type 0} → Chunk → List (Row P) → Bool
is_unused c rows = not (list_any (meets c) (chunks_in rows))

abbrev pub is_last_chunk : {P : Type 0} → ℕ → Chunk → List (Row P) → Bool
is_last_chunk u c rows =
    option_map_or (λ last. same_chunk last c) (last_chunk u (classes_in rows)) false

-- a record follows the last one in its loader's last chunk, or is the first in a chunk that meets
-- none in use
abbrev pub has_place : {P : Type 0} → List (Row P) → ClassRow → Bool
has_place rows r =
    (is_last_chunk r.loader r.place.chunk rows && (r.place.offset == used_words r.place.chunk rows))
    || ((r.place.offset == 0) && is_unused r.place.chunk rows)

abbrev pub class_fits : {P : Type 0} → Sizes → List (Row P) → ClassRow → Bool
class_fits sizes rows r =
    is_chunk sizes r.place.chunk && nat_le 1 r.place.words
    && nat_le (r.place.offset + r.place.words) (chunk_size r.place.chunk.order) && has_place rows r

-- the records on a loader's last chunk find room on another
abbrev pub move_fits : {P : Type 0} → Sizes → List (Row P) → Move → Bool
move_fits sizes rows e =
    is_last_chunk e.loader e.from rows && is_chunk sizes e.to && is_unused e.to rows
    && nat_le (used_words e.from rows) (chunk_size e.to.order)

-- ---- the first rule that is broken

abbrev pub broken_of : Bool → Bool → Option EntryRule
broken_of on_rows on_chunks =
    if on_rows then (if on_chunks then None else Some OnChunks) else Some OnRows

-- the rule that an entry of a group breaks, if the entry has this number
abbrev pub broken_rule : {P : Type 0} → Sizes → List (Row P) → ℕ → Entry P → Option EntryRule
broken_rule sizes rows number (entry.Live (Loader r)) =
    if (r.number == number) && is_new_loader sizes rows r then None else Some OnRows
broken_rule sizes rows number (entry.Live (Class r p)) =
    broken_of (is_live r.loader rows && has_room sizes rows (Class r p)) (class_fits sizes rows r)
broken_rule sizes rows number (entry.Unload e) = if is_live e.loader rows then None else Some OnRows
broken_rule sizes rows number (entry.Move e) =
    if move_fits sizes rows e then None else Some OnChunks
broken_rule sizes rows number (entry.UnloadAll e) =
    if differ e.loaders && are_live e.loaders rows then None else Some OnRows

-- the rule that a live row after a half's head breaks: a loader's number is one of a past command,
-- and above those before it
abbrev pub broken_live_rule : {P : Type 0} → Sizes → ℕ → List (Row P) → Row P → Option EntryRule
broken_live_rule sizes base rows (Loader r) =
    if nat_le 1 r.number && nat_le r.number base
    && list_all (λ u. nat_lt u r.number) (numbers_in rows) && is_new_loader sizes rows r
    then None else Some OnRows
broken_live_rule sizes base rows (Class r p) =
    broken_of (is_live r.loader rows && has_room sizes rows (Class r p)) (class_fits sizes rows r)
