-- The verdict on a file: what is found in it without records, and then a second pass over the
-- records of the live classes, in the order of their rows. A record has to lie in a whole root; its
-- words have to be those of a class that keeps the class rules; and no class before it in its
-- loader may have its name.
use Rattle.std.specs.Prelude.{ℕ, ◌+◌, ◌*◌, ◌^◌, ◌&&◌, nat_le, nat_lt, Bool, if◌then◌else◌, List, []}
use Rattle.std.specs.Prelude.{◌∷◌, ◌++◌, length, get_or}
use Rattle.std.specs.Prelude.{Option, Some, None, Result, Ok, Err, is_none}
use Rattle.std.specs.Option.{option_and_then}
use Rattle.cm_class.specs.declared.class_file.ClassFile.{ClassFile}
use Rattle.cm_record_layout.specs.Packing.{packed_into}
use Rattle.cm_record_reading.specs.Reading.{class_at}
use Rattle.cm_rules.specs.Fault.{fault}
use Rattle.cm_pool.specs.Geometry.{Sizes}
use Rattle.cm_pool.specs.declared.place.Place.{Place}
use Rattle.cm_layout.specs.declared.class_row.ClassRow.{ClassRow}
use Rattle.cm_layout.specs.declared.row.Row.{Row}
use Rattle.cm_layout.specs.declared.row.Row.TheVariants.{Loader, Class}
use Rattle.cm_layout.specs.Offsets.{root_at, record_at}
use Rattle.cm_layout.specs.Rows.{classes_in}
use Rattle.cm_layout.specs.Framing.{part}
use Rattle.cm_state.specs.State.{CacheState, class_shows, class_among, state_of}
use Rattle.cm_state.specs.Stands.{Arenas, arenas_among}
use Rattle.cm_verdict.specs.declared.defined_at.DefinedAt.{DefinedAt}
use Rattle.cm_verdict.specs.declared.fault.Damage.{Damage}
use Rattle.cm_verdict.specs.declared.fault.Damage.TheVariants as damage
use Rattle.cm_verdict.specs.declared.fault.FileFault.{FileFault}
use Rattle.cm_verdict.specs.Faults.{◌>>=◌, at_slot}
use Rattle.cm_verdict.specs.Found.{Found, found_in}

-- ---- one record

-- the class whose record the words are, if it keeps the class rules
abbrev pub if_kept : ClassFile → Option ClassFile
if_kept c = if is_none (fault c) then Some c else None

-- the words that hold the class's numbers and counts have 64 bits, as a file's words always have
abbrev pub are_words : List ℕ → Bool
are_words words = nat_lt (get_or words 1 0) (2 ^ 64) && nat_lt (get_or words 2 0) (2 ^ 64)

unfoldable pub class_kept : List ℕ → Option ClassFile
class_kept words = if are_words words then option_and_then if_kept (class_at words) else None

-- the words at a place in the file
abbrev pub words_at : Sizes → List ℕ → Place → List ℕ
words_at sizes contents place =
    packed_into place.words (part (record_at sizes place) (8 * place.words) contents)

-- the place lies in a root that a file of this length holds as a whole
abbrev pub is_whole : Sizes → ℕ → Place → Bool
is_whole sizes long place = nat_le (root_at sizes (place.chunk.root + 1)) long

-- the class of a row, after those before it
abbrev pub if_new : List (Row ClassFile) → ClassRow → Option ClassFile → Result ClassFile Damage
if_new before r None = Err damage.Record
if_new before r (Some c) =
    if is_none (class_among class_shows r.loader (class_shows.name c) before) then Ok c
    else Err damage.ClassTwice

unfoldable pub class_found : Sizes → List ℕ → List (Row ClassFile) → ClassRow
    → Result ClassFile Damage
class_found sizes contents before r =
    if is_whole sizes (length contents) r.place
    then if_new before r (class_kept (words_at sizes contents r.place)) else Err damage.Chunks

-- ---- all of them

-- the rows with their classes, after those before them
unfoldable pub classes_found : Sizes → List ℕ → List (Row ClassFile) → List (Row DefinedAt)
    → Result (List (Row ClassFile)) FileFault
classes_found sizes contents before [] = Ok before
classes_found sizes contents before (Loader r ∷ rows) =
    classes_found sizes contents (before ++ Loader r ∷ []) rows
classes_found sizes contents before (Class r at ∷ rows) =
    at_slot at.slot (class_found sizes contents before r) >>= λ c.
    classes_found sizes contents (before ++ Class r c ∷ []) rows

-- What a file stands for: what was found in it, and the rows with their classes.
pub record Standing : Type 0 where
  pub found : Found
  pub rows : List (Row ClassFile)

-- the state of the cache, and the chunks of each loader
abbrev pub state_in : Standing → CacheState
state_in s = state_of class_shows s.rows

abbrev pub arenas_in : Standing → Arenas
arenas_in s = arenas_among (classes_in s.rows) s.rows

abbrev pub standing : Found → List (Row ClassFile) → Standing
standing found rows = record { found = found; rows = rows }

unfoldable pub verdict : List ℕ → Result Standing FileFault
verdict contents = do
  found ← found_in contents
  rows ← classes_found found.sizes contents [] found.rows
  Ok (standing found rows)
