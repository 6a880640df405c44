-- What a listing says without its places.
use Rattle.std.specs.Prelude.{◌≡◌, ℕ, List, map as map_list}
use Rattle.cm_layout.specs.declared.row.Row.{Row}
use Rattle.cm_state.specs.State.{state_of, words_show}
use Rattle.cm_maintenance.specs.declared.listing.ListedClass.{ListedClass}
use Rattle.cm_maintenance.specs.Listing.{in_order, listing}

-- for each class only the words of its record
abbrev pub without_places : List (List ℕ × List ListedClass) → List (List ℕ × List (List ℕ))
without_places list = map_list (λ l. (l.0, map_list (λ c. c.class) l.1)) list

-- the list without places is the state of the rows, in order
abbrev pub ListsState : Type 0
ListsState = (rows : List (Row (List ℕ)))
    → without_places (listing rows) ≡ in_order (state_of words_show rows)
