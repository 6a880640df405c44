-- The ranges of a file that its records take: what opening it reads besides its rows.
use Rattle.std.specs.Prelude.{◌≡◌, ℕ, List, [], ◌∷◌, length, Option, Some, None, Ok}
use Rattle.std.specs.Prelude.{if◌then◌else◌}
use Rattle.std.specs.List.Sorted.{IsPermutation, IsNonDecreasingBy}
use Rattle.cm_disk.specs.declared.disk.WordRange.{WordRange}
use Rattle.cm_pool.specs.Geometry.{Sizes}
use Rattle.cm_pool.specs.declared.place.Place.{Place}
use Rattle.cm_layout.specs.declared.row.Row.{Row}
use Rattle.cm_layout.specs.declared.row.Row.TheVariants.{Loader, Class}
use Rattle.cm_layout.specs.Offsets.{record_at}
use Rattle.cm_verdict.specs.declared.defined_at.DefinedAt.{DefinedAt}
use Rattle.cm_verdict.specs.Verdict.{is_whole}
use Rattle.cm_verdict.specs.Found.{Found, found_in}

-- the words at a place, if a file of this length holds its root as a whole
abbrev pub range_of_place : Sizes → ℕ → Place → Option WordRange
range_of_place sizes long place =
    if is_whole sizes long place
    then Some (record { at = record_at sizes place; count = place.words }) else None

abbrev pub range_of_row : Sizes → ℕ → Row DefinedAt → Option WordRange
range_of_row sizes long (Loader r) = None
range_of_row sizes long (Class r at) = range_of_place sizes long r.place

abbrev pub with_range : Option WordRange → List WordRange → List WordRange
with_range None ranges = ranges
with_range (Some range) ranges = range ∷ ranges

-- those of all rows
abbrev pub ranges_of_rows : Sizes → ℕ → List (Row DefinedAt) → List WordRange
ranges_of_rows sizes long [] = []
ranges_of_rows sizes long (row ∷ rows) =
    with_range (range_of_row sizes long row) (ranges_of_rows sizes long rows)

-- the ranges of all records of a file with these contents, each once, in the order of their places
pub record AreRecordRanges (contents : List ℕ) (ranges : List WordRange) : Type 0 where
  pub found : Found
  pub found_is : found_in contents ≡ Ok found
  pub exactly : IsPermutation (ranges_of_rows found.sizes (length contents) found.rows) ranges
  pub in_order : IsNonDecreasingBy (λ (r : WordRange). r.at) ranges
