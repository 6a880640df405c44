-- A trim: the file is truncated after the last root that rows use. It takes two device calls, the
-- cut and a sync.
use Rattle.std.specs.Prelude.{ℕ, ◌+◌, max, List, [], ◌∷◌}
use Rattle.cm_pool.specs.Geometry.{Sizes}
use Rattle.cm_layout.specs.declared.row.Row.{Row}
use Rattle.cm_layout.specs.declared.row.Row.TheVariants.{Loader, Class}
use Rattle.cm_layout.specs.Offsets.{root_at}
use Rattle.cm_guards.specs.Stages.{Stage, Cut}

-- how many roots rows use: one more than the greatest
abbrev pub roots_of_row : {P : Type 0} → Row P → ℕ
roots_of_row (Loader r) = 0
roots_of_row (Class r p) = r.place.chunk.root + 1

abbrev pub roots_of_rows : {P : Type 0} → List (Row P) → ℕ
roots_of_rows [] = 0
roots_of_rows (row ∷ rows) = max (roots_of_row row) (roots_of_rows rows)

-- what leaves a file with this many roots
abbrev pub trim_plan : Sizes → ℕ → List Stage
trim_plan sizes roots = Cut (root_at sizes roots) ∷ []
