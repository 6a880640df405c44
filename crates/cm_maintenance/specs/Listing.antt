-- What is listed of rows: the entries of their state, which is a map in byte order of names. For
-- each class its record is listed, and its row's place.
use Rattle.std.specs.Prelude.{ℕ, List, length, map as map_list}
use Rattle.std.specs.FinMap as map
use Rattle.cm_record.specs.Names.{class_name_in}
use Rattle.cm_layout.specs.declared.row.Row.{Row}
use Rattle.cm_layout.specs.declared.row.Row.TheVariants.{Loader, Class}
use Rattle.cm_state.specs.State.{Loaders, Shows, state_of}
use Rattle.cm_maintenance.specs.declared.listing.ListedClass.{ListedClass}
use Rattle.cm_maintenance.specs.declared.listing.ListedLoader.{ListedLoader}

-- rows, each class with its row's place and its record's words
abbrev pub placed_row : Row (List ℕ) → Row ListedClass
placed_row (Loader r) = Loader r
placed_row (Class r words) = Class r (record { class = words; place = r.place })

abbrev pub placed : List (Row (List ℕ)) → List (Row ListedClass)
placed rows = map_list placed_row rows

abbrev pub listed_shows : Shows ListedClass
listed_shows = record { name = λ c. class_name_in c.class; words = λ c. length c.class }

-- a map of loaders as a list of them: names in byte order, each with its classes in byte order of
-- their names
abbrev pub in_order : {A : Type 0} → Loaders A → List (List ℕ × List A)
in_order m = map_list (λ l. (l.0, map.values l.1)) (map.entries m)

-- what is listed of rows
abbrev pub listing : List (Row (List ℕ)) → List (List ℕ × List ListedClass)
listing rows = in_order (state_of listed_shows (placed rows))

-- a list in memory, as its contents
abbrev pub shown : List ListedLoader → List (List ℕ × List ListedClass)
shown list = map_list (λ l. (l.name.items, l.classes.items)) list
