-- What an entry of the journal does to the cache: it makes a change, which depends on the rows
-- before it.
use Rattle.std.specs.Prelude.{◌≡◌, ℕ, ◌+◌, List, [], ◌∷◌, Option, Some, None}
use Rattle.std.specs.Option.{option_map, option_and_then}
use Rattle.cm_pool.specs.Geometry.{Sizes}
use Rattle.cm_layout.specs.declared.row.Row.{Row}
use Rattle.cm_layout.specs.declared.row.Row.TheVariants.{Loader, Class}
use Rattle.cm_layout.specs.declared.entry.Entry.{Entry}
use Rattle.cm_layout.specs.declared.entry.Entry.TheVariants as entry
use Rattle.cm_layout.specs.Slots.{FitsEntry}
use Rattle.cm_layout.specs.Rows.{name_of, classes_in, bare}
use Rattle.cm_layout.specs.Rules.{broken_rule}
use Rattle.cm_layout.specs.Frames.{AreApart, LiveRowsKeep}
use Rattle.cm_state.specs.State.{Shows, NamesDiffer, class_among}
use Rattle.cm_state.specs.Step.{Change, AddLoader, Define, Unload, Tighten, UnloadAll}

-- the names of the live loaders of these numbers
abbrev pub names_of : {A : Type 0} → List (Row A) → List ℕ → Option (List (List ℕ))
names_of rows [] = Some []
names_of rows (u ∷ us) =
    option_and_then (λ x. option_map (λ xs. x ∷ xs) (names_of rows us)) (name_of u rows)

-- the change that an entry makes, with the names of loaders from the rows before it
abbrev pub change_of : {A : Type 0} → List (Row A) → Entry A → Option (Change A)
change_of rows (entry.Live (Loader r)) = Some (AddLoader r.name)
change_of rows (entry.Live (Class r c)) = option_map (λ x. Define x c) (name_of r.loader rows)
change_of rows (entry.Unload e) = option_map Unload (name_of e.loader rows)
change_of rows (entry.Move e) = option_map Tighten (name_of e.loader rows)
change_of rows (entry.UnloadAll e) = option_map UnloadAll (names_of rows e.loaders)

-- rows that a cache can have after its n-th command: live rows that keep the rules, with chunks
-- apart and no class name twice in a loader
pub record AreCacheRows {A : Type 0} (shows : Shows A) (sizes : Sizes) (n : ℕ)
    (rows : List (Row A)) : Type 0 where
  pub live : LiveRowsKeep sizes n [] (bare rows)
  pub apart : AreApart (classes_in rows)
  pub differ : NamesDiffer shows [] rows

-- a class is new in its loader, and its row states as many words as its record has
abbrev pub IsNewClass : {A : Type 0} → Shows A → List (Row A) → Entry A → Type 0
IsNewClass shows rows (entry.Live (Loader r)) = Unit {0}
IsNewClass shows rows (entry.Live (Class r c)) =
    (class_among shows r.loader (shows.name c) rows ≡ None) × (shows.words c ≡ r.place.words)
IsNewClass shows rows (entry.Unload e) = Unit {0}
IsNewClass shows rows (entry.Move e) = Unit {0}
IsNewClass shows rows (entry.UnloadAll e) = Unit {0}

-- an entry that may follow the n-th on these rows
pub record MayFollow {A : Type 0} (shows : Shows A) (sizes : Sizes) (n : ℕ)
    (rows : List (Row A)) (e : Entry A) : Type 0 where
  pub fits : FitsEntry e
  pub keeps : broken_rule sizes rows (n + 1) e ≡ None
  pub new : IsNewClass shows rows e
