-- The cache's state: a finite map from each loader's name to a finite map from class names to
-- classes.
use Rattle.std.specs.Prelude.{◌≡◌, ℕ, ◌+◌, ◌==◌, ◌&&◌, if◌then◌else◌, List, [], ◌∷◌, ◌++◌, length}
use Rattle.std.specs.Prelude.{Option, Some, None}
use Rattle.std.specs.Ordering.{nat_cmp}
use Rattle.std.specs.Str.{bytes_eq}
use Rattle.std.specs.Cmp.Lexicographic.{slice_cmp}
use Rattle.std.specs.Option.{option_and_then}
use Rattle.std.specs.FinMap as map
use Rattle.cm_class.specs.declared.class_file.ClassFile.{ClassFile}
use Rattle.cm_class.specs.Names.{class_name_of}
use Rattle.cm_record.specs.Layout.{lay}
use Rattle.cm_record.specs.Names.{class_name_in}
use Rattle.cm_layout.specs.Names.{slots_of_name}
use Rattle.cm_layout.specs.declared.row.Row.{Row}
use Rattle.cm_layout.specs.declared.row.Row.TheVariants.{Loader, Class}

-- a finite map from names, which are bytes, in their order
abbrev pub ByName : Type 0 → Type 0
ByName A = map.FinMap {K = List ℕ} (slice_cmp nat_cmp) A

-- loaders, each with what it keeps of its classes
abbrev pub Loaders : Type 0 → Type 0
Loaders A = ByName (ByName A)

-- What a class shows, whatever is kept of it: its name, and how many words its record has.
pub record Shows (A : Type 0) : Type 0 where
  pub name : A → List ℕ
  pub words : A → ℕ

-- what a class itself shows, and what the words of its record show
abbrev pub class_shows : Shows ClassFile
class_shows = record { name = class_name_of; words = λ c. length (lay c) }

abbrev pub words_show : Shows (List ℕ)
words_show = record { name = class_name_in; words = length }

-- the state of a cache
abbrev pub CacheState : Type 0
CacheState = Loaders ClassFile

-- the class of a name in a loader
abbrev pub class_in : {A : Type 0} → Loaders A → List ℕ → List ℕ → Option A
class_in m loader name = option_and_then (λ classes. map.get classes name) (map.get m loader)

-- the number of classes, plus for each loader what its name counts
abbrev pub total : {A : Type 0} → (List ℕ → ℕ) → List (List ℕ × ByName A) → ℕ
total counts [] = 0
total counts (loader ∷ loaders) = counts loader.0 + map.len loader.1 + total counts loaders

-- loaders and classes together
abbrev pub size : {A : Type 0} → Loaders A → ℕ
size m = total (λ name. 1) (map.entries m)

-- how many slots loaders and classes take as live rows
abbrev pub slots_of_state : {A : Type 0} → Loaders A → ℕ
slots_of_state m = total slots_of_name (map.entries m)

-- ---- the state of rows

-- the classes of the loader of a number, by name
abbrev pub classes_of : {A : Type 0} → Shows A → ℕ → List (Row A) → ByName A
classes_of shows u [] = map.empty
classes_of shows u (Loader r ∷ rows) = classes_of shows u rows
classes_of shows u (Class r c ∷ rows) =
    if r.loader == u then map.insert (classes_of shows u rows) (shows.name c) c
    else classes_of shows u rows

-- the first class of a name in the loader of a number
abbrev pub class_among : {A : Type 0} → Shows A → ℕ → List ℕ → List (Row A) → Option A
class_among shows u name [] = None
class_among shows u name (Loader r ∷ rows) = class_among shows u name rows
class_among shows u name (Class r c ∷ rows) =
    if (r.loader == u) && bytes_eq (shows.name c) name then Some c
    else class_among shows u name rows

-- after these rows no class name occurs twice in a loader
abbrev pub NamesDiffer : {A : Type 0} → Shows A → List (Row A) → List (Row A) → Type 0
NamesDiffer shows before [] = Unit {0}
NamesDiffer shows before (Loader r ∷ rows) = NamesDiffer shows (before ++ Loader r ∷ []) rows
NamesDiffer shows before (Class r c ∷ rows) =
    (class_among shows r.loader (shows.name c) before ≡ None)
    × NamesDiffer shows (before ++ Class r c ∷ []) rows

-- for each loader among some rows, its classes among all of them
abbrev pub loaders_among : {A : Type 0} → Shows A → List (Row A) → List (Row A) → Loaders A
loaders_among shows all [] = map.empty
loaders_among shows all (Loader r ∷ rows) =
    map.insert (loaders_among shows all rows) r.name (classes_of shows r.number all)
loaders_among shows all (Class r c ∷ rows) = loaders_among shows all rows

-- the map of rows: for each loader's name, its classes by name
abbrev pub state_of : {A : Type 0} → Shows A → List (Row A) → Loaders A
state_of shows rows = loaders_among shows rows rows
