-- What is reported of a file: it says what the contents stand for takes of it.
use Rattle.std.specs.Prelude.{◌≡◌, ℕ, ◌-◌, min, nat_le, if◌then◌else◌, List, length, map}
use Rattle.cm_record.specs.Layout.{lay}
use Rattle.cm_pool.specs.Geometry.{Sizes}
use Rattle.cm_layout.specs.Offsets.{root_at}
use Rattle.cm_layout.specs.Rows.{rows_with, classes_in, slots_of_rows}
use Rattle.cm_layout.specs.Rules.{row_limit}
use Rattle.cm_rows.specs.Rows.{LiveRows}
use Rattle.cm_commit.specs.GroupPlans.{whole_roots}
use Rattle.cm_commit.specs.Trims.{roots_of_rows}
use Rattle.cm_verdict.specs.Verdict.{Standing}
use Rattle.cm_statistics.specs.declared.report.Statistics.{Statistics}
use Rattle.cm_statistics.specs.declared.report.JournalUse.{JournalUse}
use Rattle.cm_statistics.specs.Usage.{usage, usage_by_order, usage_by_loader, loader_shown}
use Rattle.cm_statistics.specs.Usage.{owned_chunks}
use Rattle.cm_statistics.specs.Unused.{IsLargestUnused}

-- the rows that the contents stand for, each class with its record's words
abbrev pub rows_in : Standing → LiveRows (List ℕ)
rows_in s = record { sizes = s.found.sizes; rows = rows_with lay s.rows }

-- The length of a file after a trim: it ends after the last root that rows use, unless it holds no
-- whole root after that.
abbrev pub trimmed_len : Sizes → ℕ → ℕ → ℕ → ℕ
trimmed_len sizes bytes whole used =
    if nat_le (min whole sizes.roots) used then bytes else root_at sizes used

pub record JournalMeasures (s : Standing) (journal : JournalUse) : Type 0 where
  pub half : journal.half ≡ s.found.half
  pub epoch : journal.epoch ≡ s.found.head.epoch
  pub version : journal.version ≡ s.found.head.version
  pub used : journal.used ≡ s.found.end
  pub left : journal.left ≡ s.found.sizes.slots - s.found.end
  pub live : journal.live ≡ slots_of_rows (rows_in s).rows
  pub live_limit : journal.live_limit ≡ row_limit s.found.sizes

pub record RegionMeasures (rows : LiveRows (List ℕ)) (long : ℕ) (t : Statistics) : Type 0 where
  pub bytes : t.bytes ≡ long
  pub roots : t.roots ≡ whole_roots rows.sizes long
  pub used_roots : t.used_roots ≡ roots_of_rows rows.rows
  pub trimmed : t.trimmed
      ≡ trimmed_len rows.sizes long (whole_roots rows.sizes long) (roots_of_rows rows.rows)
  pub largest_free : IsLargestUnused rows t.largest_free

pub record RowsMeasure (rows : LiveRows (List ℕ)) (t : Statistics) : Type 0 where
  pub usage : t.usage ≡ usage (classes_in rows.rows)
  pub orders : t.orders.items ≡ usage_by_order rows.sizes.top (classes_in rows.rows)
  pub loaders : map loader_shown t.loaders.items ≡ usage_by_loader rows.rows
  pub chunks : t.chunks.items ≡ owned_chunks (classes_in rows.rows)

-- what is reported of contents that stand for this
pub record Measures (contents : List ℕ) (t : Statistics) (s : Standing) : Type 0 where
  pub geometry : t.geometry ≡ s.found.sizes
  pub number : t.number ≡ s.found.number
  pub journal : JournalMeasures s t.journal
  pub region : RegionMeasures (rows_in s) (length contents) t
  pub rows : RowsMeasure (rows_in s) t
