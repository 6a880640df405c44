-- An index once dead rows are swept out: the places of the rows after them move up.
use Rattle.std.specs.Prelude.{ℕ, ◌+◌, if◌then◌else◌, List, [], ◌∷◌, get_or, map, filter}
use Rattle.cm_layout.specs.declared.row.Row.{Row}
use Rattle.cm_index.specs.declared.index.IndexEntry.{IndexEntry}
use Rattle.cm_index.specs.declared.slot.BookSlot.{BookSlot}
use Rattle.cm_index.specs.Index.{leads_to_life}

-- where each item is once the places are swept, with k live items before them
abbrev pub places_from : {X : Type 0} → ℕ → List (BookSlot X) → List ℕ
places_from k [] = []
places_from k (s ∷ slots) = k ∷ places_from (if s.live then k + 1 else k) slots

abbrev pub shifted : List ℕ → IndexEntry → IndexEntry
shifted places e = record { fingerprint = e.fingerprint; at = get_or places e.at 0 }

-- the entries that lead to live rows, each to its row's new place
abbrev pub swept_entries : {P : Type 0} → List (BookSlot (Row P)) → List ℕ → List IndexEntry
    → List IndexEntry
swept_entries slots places es = map (shifted places) (filter (leads_to_life slots) es)
