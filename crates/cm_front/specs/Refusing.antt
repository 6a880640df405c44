-- The causes against a command in the order of the checks: by names in the rows.
use Rattle.std.specs.Prelude.{ℕ, suc, ◌==◌, Bool, not, nat_lt, if◌then◌else◌, List, [], ◌∷◌}
use Rattle.std.specs.Prelude.{length, Option, Some, None, is_some, Result, Ok, Err}
use Rattle.std.specs.List.{list_all}
use Rattle.std.specs.Option.{option_map, option_and_then}
use Rattle.cm_pool.specs.Chunks.{chunk_size}
use Rattle.cm_layout.specs.declared.row.Row.{Row}
use Rattle.cm_layout.specs.Names.{is_loader_name, slots_of_name}
use Rattle.cm_layout.specs.Rows.{number_of, slots_of_rows}
use Rattle.cm_layout.specs.Rules.{is_too_much}
use Rattle.cm_record.specs.Names.{class_name_in}
use Rattle.cm_index.specs.Index.{class_of}
use Rattle.cm_state.specs.Step.{last_number, is_list}
use Rattle.cm_commands.specs.declared.refusal.Refusal.{Refusal}
use Rattle.cm_commands.specs.declared.refusal.Refusal.TheVariants as refusal
use Rattle.cm_arena.specs.declared.refusal.PlaceRefusal.{PlaceRefusal}
use Rattle.cm_arena.specs.declared.refusal.PlaceRefusal.TheVariants as of_place
use Rattle.cm_front.specs.Front.{FrontState}

-- the number of the live loader that a command names
abbrev pub loader_asked : FrontState → List ℕ → Result ℕ Refusal
loader_asked s x =
    if not (is_loader_name x) then Err refusal.BadName
    else if s.number == last_number then Err refusal.NumbersSpent
    else elim (number_of x s.rows) [ Some u ↦ Ok u | None ↦ Err refusal.NoLoader ]

-- the numbers of the live loaders of these names, if each of them has one
abbrev pub numbers_of : {A : Type 0} → List (List ℕ) → List (Row A) → Option (List ℕ)
numbers_of [] rows = Some []
numbers_of (x ∷ xs) rows =
    option_and_then (λ u. option_map (λ us. u ∷ us) (numbers_of xs rows)) (number_of x rows)

-- the numbers of the live loaders that a command names, in the order of the names
abbrev pub loaders_asked : FrontState → List (List ℕ) → Result (List ℕ) Refusal
loaders_asked s xs =
    if not (is_list xs) then Err refusal.BadList
    else if not (list_all is_loader_name xs) then Err refusal.BadName
    else if s.number == last_number then Err refusal.NumbersSpent
    else elim (numbers_of xs s.rows) [ Some us ↦ Ok us | None ↦ Err refusal.NoLoader ]

-- fewer than `need` slots are left beside the live loaders and classes
abbrev pub journal_full : FrontState → ℕ → Bool
journal_full s need = is_too_much s.sizes (slots_of_rows s.rows) need

-- the number that the new loader gets
abbrev pub loader_made : FrontState → List ℕ → Result ℕ Refusal
loader_made s x =
    if not (is_loader_name x) then Err refusal.BadName
    else if s.number == last_number then Err refusal.NumbersSpent
    else if is_some (number_of x s.rows) then Err refusal.LoaderExists
    else if journal_full s (slots_of_name x) then Err refusal.JournalFull
    else Ok (suc s.number)

-- the number of the loader in which the class can be defined
abbrev pub class_free : FrontState → ℕ → List ℕ → Result ℕ Refusal
class_free s u words =
    if is_some (class_of class_name_in u (class_name_in words) s.rows) then Err refusal.ClassExists
    else if nat_lt (chunk_size s.sizes.top) (length words) then Err refusal.RecordTooLong
    else if journal_full s 1 then Err refusal.JournalFull
    else Ok u

abbrev pub class_asked : FrontState → List ℕ → List ℕ → Result ℕ Refusal
class_asked s x words =
    elim (loader_asked s x) [ Err r ↦ Err r | Ok u ↦ class_free s u words ]

-- why a class has no place
abbrev pub refusal_of_place : PlaceRefusal → Refusal
refusal_of_place of_place.RecordTooLong = refusal.RecordTooLong
refusal_of_place of_place.RegionFull = refusal.RegionFull
refusal_of_place of_place.NoMemory = refusal.NoMemory
