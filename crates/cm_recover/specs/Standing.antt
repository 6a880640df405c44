-- What a file stands for, as a value in memory that an opened cache is made from.
use Rattle.std.specs.Prelude.{◌≡◌, ℕ, List, length, Result, Err}
use Rattle.std.specs.Arc.{arc_value}
use Rattle.cm_record.specs.Layout.{lay}
use Rattle.cm_layout.specs.Rows.{rows_with}
use Rattle.cm_commit.specs.GroupPlans.{whole_roots}
use Rattle.cm_disk.specs.Disk.{View}
use Rattle.cm_guards.specs.Calls.{Reads}
use Rattle.cm_verdict.specs.declared.fault.OpenFault.{OpenFault}
use Rattle.cm_verdict.specs.declared.fault.OpenFault.TheVariants as open_fault
use Rattle.cm_verdict.specs.Opening.{other_is_open}
use Rattle.cm_verdict.specs.Standing.{FollowsVerdict}
use Rattle.cm_verdict.specs.Verdict.{Standing, verdict}
use Rattle.cm_recover.specs.declared.standing.StandingFile.{StandingFile}

-- what a file with these contents stands for, as a value in memory
pub record IsStanding (contents : List ℕ) (file : StandingFile) (s : Standing) : Type 0 where
  pub geometry : file.journal.geometry ≡ s.found.sizes
  pub half : file.journal.half ≡ s.found.half
  pub number : file.journal.number ≡ s.found.number
  pub end : file.journal.end ≡ s.found.end
  pub epoch : file.journal.epoch ≡ s.found.head.epoch
  pub other : file.journal.other_open ≡ other_is_open s.found.sizes s.found.half contents
  pub version : file.version ≡ s.found.head.version
  pub roots : file.roots ≡ whole_roots s.found.sizes (length contents)
  pub rows : file.rows ≡ record { sizes = s.found.sizes; rows = rows_with lay s.rows }
  pub committed_sizes : file.committed.sizes ≡ s.found.sizes
  pub committed : rows_with arc_value file.committed.rows ≡ rows_with lay s.rows

-- ---- reading it

-- The result is the verdict on the contents, and the disk is only read.
pub record ReadsStanding {D : Type 0} (view : View D) (old new : D)
    (result : Result StandingFile OpenFault) : Type 0 where
  pub standing : FollowsVerdict (IsStanding (view.contents old)) result
      (verdict (view.contents old))
  pub reads : Reads view old new (result ≡ Err open_fault.Device)
