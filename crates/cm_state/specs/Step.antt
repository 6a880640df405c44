-- One step of the cache: the state after a change, or the first cause against it. Only what the
-- cache holds matters, not chunks, journal or offsets; and of a class only what it shows, so that
-- one definition serves classes and records.
use Rattle.std.specs.Prelude.{ℕ, ◌^◌, ◌==◌, ◌&&◌, Bool, true, not, nat_lt, nat_le, if◌then◌else◌}
use Rattle.std.specs.Prelude.{List, [], ◌∷◌, length, is_some}
use Rattle.std.specs.Prelude.{unwrap_or, Result, Ok, Err}
use Rattle.std.specs.FinMap as map
use Rattle.std.specs.List.{list_all}
use Rattle.std.specs.Str.{bytes_eq}
use Rattle.cm_pool.specs.Geometry.{Sizes}
use Rattle.cm_pool.specs.Chunks.{chunk_size}
use Rattle.cm_layout.specs.Names.{is_loader_name, slots_of_name}
use Rattle.cm_layout.specs.Slots.{unload_limit}
use Rattle.cm_layout.specs.Rules.{is_too_much}
use Rattle.cm_state.specs.State.{Loaders, Shows, class_in, slots_of_state}

-- a requested change, for the loader of a name or for the loaders of several
pub data Change (A : Type 0) : Type 0 where
  AddLoader : List ℕ → Change A
  Define : List ℕ → A → Change A
  Unload : List ℕ → Change A
  Tighten : List ℕ → Change A
  UnloadAll : List (List ℕ) → Change A

-- why a change isn't made
pub data Cause : Type 0 where
  BadName : Cause
  NumbersSpent : Cause
  LoaderExists : Cause
  NoLoader : Cause
  ClassExists : Cause
  RecordTooLong : Cause
  JournalFull : Cause
  BadList : Cause

-- the last number that a command may have
abbrev pub last_number : ℕ
last_number = 2 ^ 63

-- half of a half's slots are for live rows: not enough are left for `need` more
abbrev pub is_full : {A : Type 0} → Sizes → Loaders A → ℕ → Bool
is_full sizes m need = is_too_much sizes (slots_of_state m) need

-- one more loader, without classes
abbrev pub with_loader : {A : Type 0} → Loaders A → List ℕ → Loaders A
with_loader m x = map.insert m x map.empty

-- one more class, under its name
abbrev pub with_class : {A : Type 0} → Shows A → Loaders A → List ℕ → A → Loaders A
with_class shows m x c =
    map.insert m x (map.insert (unwrap_or (map.get m x) map.empty) (shows.name c) c)

-- no name occurs twice
abbrev pub names_differ : List (List ℕ) → Bool
names_differ [] = true
names_differ (x ∷ xs) = list_all (λ y. not (bytes_eq x y)) xs && names_differ xs

-- names of loaders that may be unloaded at once: one to seven, none of them twice
abbrev pub is_list : List (List ℕ) → Bool
is_list xs = nat_le 1 (length xs) && nat_le (length xs) unload_limit && names_differ xs

-- without the loaders of these names, one after another
abbrev pub without_all : {A : Type 0} → List (List ℕ) → Loaders A → Loaders A
without_all [] m = m
without_all (x ∷ xs) m = without_all xs (map.remove m x)

-- the first cause that applies, or the next state; n is the number of the last change
abbrev pub step : {A : Type 0} → Shows A → Sizes → Loaders A → ℕ → Change A
    → Result (Loaders A) Cause
step shows sizes m n (AddLoader x) =
    if not (is_loader_name x) then Err BadName
    else if n == last_number then Err NumbersSpent
    else if is_some (map.get m x) then Err LoaderExists
    else if is_full sizes m (slots_of_name x) then Err JournalFull
    else Ok (with_loader m x)
step shows sizes m n (Define x c) =
    if not (is_loader_name x) then Err BadName
    else if n == last_number then Err NumbersSpent
    else if not (is_some (map.get m x)) then Err NoLoader
    else if is_some (class_in m x (shows.name c)) then Err ClassExists
    else if nat_lt (chunk_size sizes.top) (shows.words c) then Err RecordTooLong
    else if is_full sizes m 1 then Err JournalFull
    else Ok (with_class shows m x c)
step shows sizes m n (Unload x) =
    if not (is_loader_name x) then Err BadName
    else if n == last_number then Err NumbersSpent
    else if not (is_some (map.get m x)) then Err NoLoader
    else Ok (map.remove m x)
step shows sizes m n (Tighten x) =
    if not (is_loader_name x) then Err BadName
    else if n == last_number then Err NumbersSpent
    else if not (is_some (map.get m x)) then Err NoLoader
    else Ok m
step shows sizes m n (UnloadAll xs) =
    if not (is_list xs) then Err BadList
    else if not (list_all is_loader_name xs) then Err BadName
    else if n == last_number then Err NumbersSpent
    else if not (list_all (λ x. is_some (map.get m x)) xs) then Err NoLoader
    else Ok (without_all xs m)
