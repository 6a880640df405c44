-- The names that C is told.
use Rattle.std.specs.Prelude.{◌≡◌, ℕ, ℤ, pos, List, Option, Some, None, Result, Ok, Err, length}
use Rattle.std.specs.Global.{Vec}
use Rattle.std.specs.List.{slice_get}
use Rattle.cm_layout.specs.declared.row.Row.{Row}
use Rattle.cm_layout.specs.Rows.{number_of}
use Rattle.cm_listed_names.specs.Names.{AreNames, loader_names_in, class_names_in}
use Rattle.cm_core.specs.declared.inner.Inner.{Inner}
use Rattle.cm_core.specs.declared.inner.Inner.TheVariants.{Cache, Calls, Prepared, Record, Names}

abbrev pub ListsLoaders : Inner → Result (Vec (Vec ℕ)) ℤ → Type 0
ListsLoaders (Cache cache) (Ok names) =
    AreNames (loader_names_in cache.session.front.rows) names.items
ListsLoaders (Cache cache) (Err status) = status ≡ pos 9
ListsLoaders (Calls calls) result = result ≡ Err (pos 25)
ListsLoaders (Prepared ready) result = result ≡ Err (pos 25)
ListsLoaders (Record share) result = result ≡ Err (pos 25)
ListsLoaders (Names names) result = result ≡ Err (pos 25)

-- what is listed of the loader with this number, if there is one
abbrev pub ListsOf : Option ℕ → List (Row (List ℕ)) → Result (Vec (Vec ℕ)) ℤ → Type 0
ListsOf None rows result = result ≡ Err (pos 3)
ListsOf (Some number) rows (Ok names) = AreNames (class_names_in number rows) names.items
ListsOf (Some number) rows (Err status) = status ≡ pos 9

abbrev pub ListsClasses : Inner → List ℕ → Result (Vec (Vec ℕ)) ℤ → Type 0
ListsClasses (Cache cache) loader result =
    ListsOf (number_of loader cache.session.front.rows) cache.session.front.rows result
ListsClasses (Calls calls) loader result = result ≡ Err (pos 25)
ListsClasses (Prepared ready) loader result = result ≡ Err (pos 25)
ListsClasses (Record share) loader result = result ≡ Err (pos 25)
ListsClasses (Names names) loader result = result ≡ Err (pos 25)

-- the length of the name at a place, if there is one
abbrev pub TellsLength : Option (Vec ℕ) → ℕ → ℕ → ℤ → Type 0
TellsLength None old new status = (status ≡ pos 24) × (new ≡ old)
TellsLength (Some name) old new status = (status ≡ pos 0) × (new ≡ length name.items)

abbrev pub TellsName : Inner → ℕ → ℕ → ℕ → ℤ → Type 0
TellsName (Names names) at old new status = TellsLength (slice_get names.items at) old new status
TellsName (Cache cache) at old new status = (status ≡ pos 25) × (new ≡ old)
TellsName (Calls calls) at old new status = (status ≡ pos 25) × (new ≡ old)
TellsName (Prepared ready) at old new status = (status ≡ pos 25) × (new ≡ old)
TellsName (Record share) at old new status = (status ≡ pos 25) × (new ≡ old)
