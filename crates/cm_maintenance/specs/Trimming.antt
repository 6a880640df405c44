-- The result of trimming a file: it is truncated after the last root that its rows use, and stands
-- for the same cache at each moment.
use Rattle.std.specs.Prelude.{◌≡◌, ◌≤◌, ℕ, min, List, length, Option, Result, Ok}
use Rattle.cm_pool.specs.Geometry.{Sizes}
use Rattle.cm_record.specs.Layout.{lay}
use Rattle.cm_layout.specs.declared.row.Row.{Row}
use Rattle.cm_layout.specs.Rows.{rows_with}
use Rattle.cm_state.specs.Stands.{Stands}
use Rattle.cm_verdict.specs.Verdict.{Standing, state_in, arenas_in, verdict}
use Rattle.cm_commit.specs.GroupPlans.{whole_roots}
use Rattle.cm_commit.specs.States.{CommitterState, NoGroup}
use Rattle.cm_commit.specs.Trims.{roots_of_rows}
use Rattle.cm_lines.specs.declared.fault.LineFault.{LineFault}
use Rattle.cm_maintenance.specs.declared.status.Status.{Status}
use Rattle.cm_maintenance.specs.Reporting.{ReportsAnswer}
use Rattle.cm_maintenance.specs.Texts.{roots_line}

-- ---- a committer

-- what is committed is the same, and no group is under way
pub record SameIdle {D : Type 0} (old new : CommitterState D) : Type 0 where
  pub sizes : new.sizes ≡ old.sizes
  pub rows : new.rows ≡ old.rows
  pub number : new.number ≡ old.number
  pub ungrouped : NoGroup new.underway

-- contents of this length hold no whole root after this many, of those that they may have
abbrev pub HasNoMore : Sizes → ℕ → List ℕ → Type 0
HasNoMore sizes roots contents = min (whole_roots sizes (length contents)) sizes.roots ≤ roots

-- ---- a file

abbrev pub rows_in : Standing → List (Row (List ℕ))
rows_in s = rows_with lay s.rows

-- the contents stand for what the verdict says, whose rows use this many roots
pub record Uses (contents : List ℕ) (roots : ℕ) (s : Standing) : Type 0 where
  pub stands : Stands s.found.sizes contents (state_in s) (arenas_in s) s.found.number
  pub roots_are : roots ≡ roots_of_rows (rows_in s)

abbrev pub TrimsTo : List ℕ → Type 0 → Option (List ℕ) → Option (List ℕ)
    → Result Status LineFault → Type 0
TrimsTo contents Failed held holds result =
    ReportsAnswer (Uses contents) roots_line contents Failed held holds result

-- the contents stand for a cache; `left` holds no root after those that its rows use
pub record IsTrimmed (contents left : List ℕ) : Type 0 where
  pub standing : Standing
  pub verdict_is : verdict contents ≡ Ok standing
  pub no_more : HasNoMore standing.found.sizes (roots_of_rows (rows_in standing)) left
