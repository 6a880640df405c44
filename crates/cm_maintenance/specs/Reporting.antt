-- The result of a report on a file: the lines that are written, the status, and the disk.
use Rattle.std.specs.Prelude.{◌≡◌, ℕ, List, Option, Result, Ok, Err}
use Rattle.std.specs.Io.KnownBytes.{Appends}
use Rattle.cm_record.specs.Layout.{lay}
use Rattle.cm_layout.specs.Rows.{rows_with}
use Rattle.cm_state.specs.Stands.{Stands}
use Rattle.cm_verdict.specs.Verdict.{Standing, state_in, arenas_in, verdict}
use Rattle.cm_verdict.specs.declared.fault.OpenFault.{OpenFault}
use Rattle.cm_verdict.specs.declared.fault.OpenFault.TheVariants as open_fault
use Rattle.cm_verdict.specs.Standing.{FollowsVerdict}
use Rattle.cm_maintenance.specs.Report.{Reports}
use Rattle.cm_maintenance.specs.declared.listing.ListedClass.{ListedClass}
use Rattle.cm_maintenance.specs.Listing.{listing}
use Rattle.cm_lines.specs.declared.fault.LineFault.{LineFault}
use Rattle.cm_lines.specs.declared.fault.LineFault.TheVariants as fault
use Rattle.cm_lines.specs.Streams.{WritesPart}
use Rattle.cm_maintenance.specs.declared.fault.NotReported.{NotReported}
use Rattle.cm_maintenance.specs.declared.status.Status.{Status}
use Rattle.cm_maintenance.specs.declared.status.Status.TheVariants as status
use Rattle.cm_maintenance.specs.Texts.{report_line, list_lines, fault_line}

-- ---- a result with its disk

-- the status, or why there is none
abbrev pub status_in : {D : Type 0} → Result (Status × D) (NotReported D)
    → Result Status LineFault
status_in (Ok given) = Ok given.0
status_in (Err not_reported) = Err not_reported.fault

-- the disk that is handed back
abbrev pub disk_left : {D : Type 0} → Result (Status × D) (NotReported D) → D
disk_left (Ok given) = given.1
disk_left (Err not_reported) = not_reported.disk

-- ---- what is printed for a result

-- refused if the file has a fault, failed if the device or an allocation did
abbrev pub fault_status : OpenFault → Status
fault_status (open_fault.File fault) = status.Refused
fault_status open_fault.Device = status.Failed
fault_status open_fault.NoMemory = status.Failed

abbrev pub told : {A : Type 0} → (A → List ℕ) → Result A OpenFault → List ℕ
told lines (Ok value) = lines value
told lines (Err f) = fault_line f

abbrev pub status_of : {A : Type 0} → Result A OpenFault → Status
status_of (Ok value) = status.Done
status_of (Err f) = fault_status f

-- These lines are written, and nothing else, and the status is returned. If the writer failed, a
-- beginning of them is written; if an allocation failed, nothing.
abbrev pub Writes : Option (List ℕ) → Option (List ℕ) → List ℕ → Status
    → Result Status LineFault → Type 0
Writes held holds lines status (Ok given) = (given ≡ status) × Appends held holds lines
Writes held holds lines status (Err fault.Output) = WritesPart held holds lines
Writes held holds lines status (Err fault.NoMemory) = holds ≡ held
Writes held holds lines status (Err fault.Input) = ⊥

-- For a file with these contents the result is the verdict, or that the device or an allocation
-- failed: the device only if it did. The lines and the status are those of that result.
pub record ReportsAnswer {A : Type 0} (Alike : A → Standing → Type 0) (lines : A → List ℕ)
    (contents : List ℕ) (Failed : Type 0) (held holds : Option (List ℕ))
    (result : Result Status LineFault) : Type 0 where
  pub answer : Result A OpenFault
  pub answers : FollowsVerdict Alike answer (verdict contents)
  pub device : answer ≡ Err open_fault.Device → Failed
  pub written : Writes held holds (told lines answer) (status_of answer) result

-- ---- checking

abbrev pub ChecksTo : List ℕ → Type 0 → Option (List ℕ) → Option (List ℕ)
    → Result Status LineFault
    → Type 0
ChecksTo contents Failed held holds result =
    ReportsAnswer (Reports contents) report_line contents Failed held holds result

-- ---- listing

-- the contents stand for what the verdict says, and what is listed is listed of its rows, with the
-- words of their records and their places
pub record Lists (contents : List ℕ) (loaders : List (List ℕ × List ListedClass)) (s : Standing)
    : Type 0 where
  pub stands : Stands s.found.sizes contents (state_in s) (arenas_in s) s.found.number
  pub listed : loaders ≡ listing (rows_with lay s.rows)

abbrev pub ListsTo : List ℕ → Type 0 → Option (List ℕ) → Option (List ℕ)
    → Result Status LineFault
    → Type 0
ListsTo contents Failed held holds result =
    ReportsAnswer (Lists contents) list_lines contents Failed held holds result
