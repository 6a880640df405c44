-- Tests of whether entries may join what is committed. The classes that they make are new in their
-- loaders, by what is committed and by the entries before them; and they write only where they may.
use Rattle.std.specs.Prelude.{ℕ, ◌+◌, Bool, true, false, ◌&&◌, ◌==◌, not, is_none}
use Rattle.std.specs.Prelude.{◌≡◌, List, [], ◌∷◌, ◌++◌, if◌then◌else◌}
use Rattle.std.specs.Str.{bytes_eq}
use Rattle.std.specs.List.{list_all, list_any}
use Rattle.std.specs.Option.{option_map_or}
use Rattle.cm_pool.specs.declared.chunk.Chunk.{Chunk}
use Rattle.cm_pool.specs.Chunks.{same_chunk}
use Rattle.cm_pool.specs.Geometry.{Sizes}
use Rattle.cm_record.specs.Names.{class_name_in}
use Rattle.cm_layout.specs.declared.row.Row.{Row}
use Rattle.cm_layout.specs.declared.row.Row.TheVariants.{Loader, Class}
use Rattle.cm_layout.specs.declared.class_row.ClassRow.{ClassRow}
use Rattle.cm_layout.specs.declared.entry.Entry.{Entry}
use Rattle.cm_layout.specs.declared.entry.Entry.TheVariants as entry
use Rattle.cm_layout.specs.Rows.{bare, kept_on}
use Rattle.cm_layout.specs.Rules.{is_chunk, is_last_chunk}
use Rattle.cm_layout.specs.Frames.{BareEntry, bare_entry}
use Rattle.cm_state.specs.State.{words_show, class_among}
use Rattle.cm_group.specs.Groups.{Carried, entries_in, class_made}
use Rattle.cm_commit.specs.Keeping.{keep_rules}
use Rattle.cm_commit.specs.Offers.{carries_own, writes_apart}

-- ---- names of classes

-- the class has this name, in the loader of this number
abbrev pub class_is_named : ℕ → List ℕ → ClassRow × List ℕ → Bool
class_is_named u name class =
    (class.0.loader == u) && bytes_eq (class_name_in class.1) name

-- the entry makes a class of this name in this loader
abbrev pub makes_class : ℕ → List ℕ → Carried → Bool
makes_class u name c = option_map_or (class_is_named u name) (class_made c.entry) false

-- the loader of this number has no class of this name, neither committed nor by the entries before
abbrev pub is_new_name : List (Row (List ℕ)) → List Carried → ℕ → List ℕ → Bool
is_new_name committed before u name =
    is_none (class_among words_show u name committed) && not (list_any (makes_class u name) before)

abbrev pub is_new : List (Row (List ℕ)) → List Carried → Entry (List ℕ) → Bool
is_new committed before e =
    option_map_or (λ d. is_new_name committed before d.0.loader (class_name_in d.1)) (class_made e)
    true

-- each entry makes only new classes, by what is committed and by the entries before it
abbrev pub are_new : List (Row (List ℕ)) → List Carried → List Carried → Bool
are_new committed before [] = true
are_new committed before (c ∷ carried) =
    is_new committed before c.entry && are_new committed (before ++ c ∷ []) carried

-- ---- places of records

-- the chunk that an entry writes into is one that the region can have
abbrev pub entry_is_inside : Sizes → BareEntry → Bool
entry_is_inside sizes (entry.Live (Loader r)) = true
entry_is_inside sizes (entry.Live (Class r p)) = is_chunk sizes r.place.chunk
entry_is_inside sizes (entry.Unload e) = true
entry_is_inside sizes (entry.Move e) = is_chunk sizes e.to
entry_is_inside sizes (entry.UnloadAll e) = true

abbrev pub are_inside : Sizes → List Carried → Bool
are_inside sizes carried = list_all (λ c. entry_is_inside sizes (bare_entry c.entry)) carried

abbrev pub entries_are_apart : {P : Type 0} → List (Row P) → List Carried → Bool
entries_are_apart committed carried =
    list_all (λ c. writes_apart committed (bare_entry c.entry)) carried

-- ---- records that move

-- The records on a chunk once an entry is applied, if these were there before: a class that lies at
-- the chunk's begin is the first there, and a move onto it brings all its own.
abbrev pub records_then : Chunk → List (List ℕ) → Entry (List ℕ) → List (List ℕ)
    → List (List ℕ)
records_then c records (entry.Live (Loader r)) moved = records
records_then c records (entry.Live (Class r words)) moved =
    if same_chunk r.place.chunk c
    then (if r.place.offset == 0 then words ∷ [] else records ++ words ∷ [])
    else records
records_then c records (entry.Unload e) moved = records
records_then c records (entry.Move e) moved = if same_chunk e.to c then moved else records
records_then c records (entry.UnloadAll e) moved = records

abbrev pub records_after : Chunk → List (List ℕ) → List Carried → List (List ℕ)
records_after c records [] = records
records_after c records (k ∷ carried) =
    records_after c (records_then c records k.entry k.moved) carried

-- the records on a loader's last chunk, by what is committed
abbrev pub committed_on : {P : Type 0} → ℕ → Chunk → List (Row P) → List P
committed_on u c committed = if is_last_chunk u c committed then kept_on c committed else []

-- the same, by the entries before as well
abbrev pub records_on : List (Row (List ℕ)) → List Carried → ℕ → Chunk → List (List ℕ)
records_on committed before u c = records_after c (committed_on u c committed) before

-- a move carries the records on the chunk that it leaves
abbrev pub MovesThem : List (Row (List ℕ)) → List Carried → Entry (List ℕ) → List (List ℕ)
    → Type 0
MovesThem committed before (entry.Live row) moved = Unit {0}
MovesThem committed before (entry.Unload e) moved = Unit {0}
MovesThem committed before (entry.Move e) moved =
    moved ≡ records_on committed before e.loader e.from
MovesThem committed before (entry.UnloadAll e) moved = Unit {0}

-- each move among the entries does, by what is committed and by the entries before it
abbrev pub AllMoveThem : List (Row (List ℕ)) → List Carried → List Carried → Type 0
AllMoveThem committed before [] = Unit {0}
AllMoveThem committed before (c ∷ carried) =
    MovesThem committed before c.entry c.moved × AllMoveThem committed (before ++ c ∷ []) carried

-- ---- the whole test

-- the entries carry the records that they need (those of moves are checked apart), keep the rules
-- and write apart, and their classes are new
abbrev pub may_join : Sizes → List (Row (List ℕ)) → ℕ → List Carried → Bool
may_join sizes committed n carried =
    list_all carries_own carried
    && (keep_rules sizes (bare committed) (n + 1) (entries_in carried)
    && (entries_are_apart committed carried && are_new committed [] carried))
