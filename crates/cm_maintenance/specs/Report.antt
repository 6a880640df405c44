-- What a report counts: the loaders, classes and chunks of the cache that contents stand for, and
-- its number.
use Rattle.std.specs.Prelude.{◌≡◌, ℕ, ◌+◌, ◌==◌, if◌then◌else◌, List, [], ◌∷◌, length}
use Rattle.std.specs.FinMap as map
use Rattle.cm_layout.specs.declared.class_row.ClassRow.{ClassRow}
use Rattle.cm_layout.specs.declared.row.Row.{Row}
use Rattle.cm_layout.specs.Rows.{numbers_in, classes_in}
use Rattle.cm_state.specs.State.{CacheState, size}
use Rattle.cm_state.specs.Stands.{Arenas, Stands}
use Rattle.cm_verdict.specs.Verdict.{Standing, state_in, arenas_in}
use Rattle.cm_maintenance.specs.declared.report.Report.{Report}

-- the chunks of all loaders
abbrev pub chunks_together : {A : Type 0} → List (List ℕ × List A) → ℕ
chunks_together [] = 0
chunks_together (arena ∷ arenas) = length arena.1 + chunks_together arenas

abbrev pub chunk_count : Arenas → ℕ
chunk_count arenas = chunks_together (map.entries arenas)

-- the report counts this state, these arenas and this number
pub record ReportCounts (m : CacheState) (arenas : Arenas) (n : ℕ) (report : Report) : Type 0 where
  pub loaders : report.loaders ≡ map.len m
  pub classes : report.loaders + report.classes ≡ size m
  pub chunks : report.chunks ≡ chunk_count arenas
  pub number : report.number ≡ n

-- the contents stand for what the verdict says, and the report counts that
pub record Reports (contents : List ℕ) (report : Report) (s : Standing) : Type 0 where
  pub stands : Stands s.found.sizes contents (state_in s) (arenas_in s) s.found.number
  pub counts : ReportCounts (state_in s) (arenas_in s) s.found.number report

-- ---- by rows

-- how many of the records are the first in their chunk
abbrev pub first_records : List ClassRow → ℕ
first_records [] = 0
first_records (r ∷ rows) = (if r.place.offset == 0 then 1 else 0) + first_records rows

-- the report counts these rows
pub record IsCount {P : Type 0} (rows : List (Row P)) (n : ℕ) (report : Report) : Type 0 where
  pub loaders : report.loaders ≡ length (numbers_in rows)
  pub classes : report.classes ≡ length (classes_in rows)
  pub chunks : report.chunks ≡ first_records (classes_in rows)
  pub number : report.number ≡ n
