-- Properties of the definitions themselves.
use Rattle.std.specs.Prelude.{◌≡◌, ◌≢◌, ℕ, ◌+◌, ◌^◌, ◌<◌, List, ◌++◌, length, Some, None, Ok}
use Rattle.std.specs.Prelude.{is_some, not, filter, if◌then◌else◌}
use Rattle.std.specs.List.{list_any}
use Rattle.std.specs.Str.{bytes_eq}
use Rattle.std.specs.Option.{option_and_then}
use Rattle.std.specs.FinMap as map
use Rattle.cm_class.specs.declared.class_file.ClassFile.{ClassFile}
use Rattle.cm_pool.specs.Geometry.{Sizes}
use Rattle.cm_pool.specs.declared.chunk.Chunk.{Chunk}
use Rattle.cm_pool.specs.Chunks.{Meets}
use Rattle.cm_pool.specs.Lists.{Among, Pairwise}
use Rattle.cm_layout.specs.declared.class_row.ClassRow.{ClassRow}
use Rattle.cm_layout.specs.declared.row.Row.{Row}
use Rattle.cm_layout.specs.declared.entry.Entry.{Entry}
use Rattle.cm_layout.specs.Rows.{name_of, number_of, classes_in, slots_of_rows, rows_after, is_of}
use Rattle.cm_layout.specs.Rows.{without_loaders}
use Rattle.cm_state.specs.State.{CacheState, Loaders, Shows, class_shows, class_in, class_among}
use Rattle.cm_state.specs.State.{size, slots_of_state, state_of}
use Rattle.cm_state.specs.Step.{Change, step, without_all}
use Rattle.cm_state.specs.Fold.{fold}
use Rattle.cm_state.specs.Entries.{AreCacheRows, MayFollow, change_of}
use Rattle.cm_state.specs.Stands.{Arenas, Stands}

-- Changes after others continue from the state that those lead to.
abbrev pub ChangesGoOn : Type 0
ChangesGoOn = (sizes : Sizes) (m : CacheState) (n : ℕ) (front behind : List (Change ClassFile))
    → fold class_shows sizes m n (front ++ behind)
    ≡ option_and_then (λ (p : CacheState × ℕ). fold class_shows sizes p.0 p.1 behind)
    (fold class_shows sizes m n front)

-- Each change has the number after that of the one before.
abbrev pub NumbersFollow : Type 0
NumbersFollow =
    (sizes : Sizes) (m : CacheState) (n : ℕ) (changes : List (Change ClassFile)) (last : CacheState)
    (number : ℕ)
    → fold class_shows sizes m n changes ≡ Some (last, number) → number ≡ n + length changes

-- What the state of rows holds is found in the rows: loaders by name, classes by name in a loader.
-- The state has as many of these as there are rows, and they take as many slots.
abbrev pub LoadersAreFound : Type 0 → Type 0
LoadersAreFound A =
    (shows : Shows A) (rows : List (Row A)) (name : List ℕ)
    → is_some (map.get (state_of shows rows) name) ≡ is_some (number_of name rows)

abbrev pub ClassesAreFound : Type 0 → Type 0
ClassesAreFound A =
    (shows : Shows A) (rows : List (Row A)) (loader name : List ℕ)
    → class_in (state_of shows rows) loader name
    ≡ option_and_then (λ u. class_among shows u name rows) (number_of loader rows)

abbrev pub SizesAgree : Type 0 → Type 0
SizesAgree A =
    (shows : Shows A) (sizes : Sizes) (n : ℕ) (rows : List (Row A))
    → AreCacheRows shows sizes n rows
    → (size (state_of shows rows) ≡ length rows)
    × (slots_of_state (state_of shows rows) ≡ slots_of_rows rows)

-- If loaders are unloaded at once, exactly these are removed: the cache then has none of these
-- names, and under each other name what it had. The same holds for rows: those stay whose loader
-- isn't one of these.
abbrev pub LoadersGo : Type 0 → Type 0
LoadersGo A =
    (m : Loaders A) (names : List (List ℕ)) (name : List ℕ)
    → map.get (without_all names m) name
    ≡ (if list_any (λ x. bytes_eq x name) names then None else map.get m name)

abbrev pub RowsGo : Type 0 → Type 0
RowsGo A =
    (loaders : List ℕ) (rows : List (Row A))
    → without_loaders loaders rows
    ≡ filter (λ row. not (list_any (λ u. is_of u row) loaders)) rows

-- An entry that may follow is a step of the cache: there is no cause against its change, and the
-- next state is that of the rows after the entry.
pub record EntryIsStep {A : Type 0} (shows : Shows A) (sizes : Sizes) (n : ℕ) (rows : List (Row A))
    (e : Entry A) : Type 0 where
  pub change : Change A
  pub change_is : change_of rows e ≡ Some change
  pub next : step shows sizes (state_of shows rows) n change
      ≡ Ok (state_of shows (rows_after rows e))
  pub rows_are : AreCacheRows shows sizes (n + 1) (rows_after rows e)

abbrev pub EntriesAreSteps : Type 0 → Type 0
EntriesAreSteps A =
    (shows : Shows A) (sizes : Sizes) (n : ℕ) (rows : List (Row A)) (e : Entry A)
    → AreCacheRows shows sizes n rows → MayFollow shows sizes n rows e → n < 2 ^ 63
    → EntryIsStep shows sizes n rows e

-- Contents stand for at most one cache: sizes, state, arenas and number.
abbrev pub StandForOne : Type 0
StandForOne =
    (s t : Sizes) (contents : List ℕ) (m k : CacheState) (a b : Arenas) (n l : ℕ)
    → Stands s contents m a n → Stands t contents k b l
    → (s ≡ t) × ((m ≡ k) × ((a ≡ b) × (n ≡ l)))

-- Chunks of arenas share no word: neither one of a loader with one of another, nor two of the same
-- loader.
pub record ShareNoWord (arenas : Arenas) : Type 0 where
  pub between : (x y : List ℕ) (cs ds : List Chunk) → x ≢ y → map.get arenas x ≡ Some cs
      → map.get arenas y ≡ Some ds → (c d : Chunk) → Among c cs → Among d ds → ¬ Meets c d
  pub within : (x : List ℕ) (cs : List Chunk) → map.get arenas x ≡ Some cs
      → Pairwise (λ a b. ¬ Meets a b) cs

abbrev pub ArenasAreApart : Type 0
ArenasAreApart =
    (sizes : Sizes) (contents : List ℕ) (m : CacheState) (arenas : Arenas) (n : ℕ)
    → Stands sizes contents m arenas n → ShareNoWord arenas

-- The loader of a record has a name, and under this name an arena that has the record's chunk.
pub record IsInItsArena (arenas : Arenas) (rows : List (Row ClassFile))
    (r : ClassRow) : Type 0 where
  pub name : List ℕ
  pub chunks : List Chunk
  pub named : name_of r.loader rows ≡ Some name
  pub arena : map.get arenas name ≡ Some chunks
  pub held : Among r.place.chunk chunks

abbrev pub EachRecordIsInItsArena : Type 0
EachRecordIsInItsArena =
    (sizes : Sizes) (contents : List ℕ) (m : CacheState) (arenas : Arenas) (n : ℕ)
    (stands : Stands sizes contents m arenas n) (r : ClassRow)
    → Among r (classes_in stands.rows) → IsInItsArena arenas stands.rows r
