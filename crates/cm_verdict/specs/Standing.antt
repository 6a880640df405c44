-- The second pass over a file, in memory: the records of the live rows are read and judged, and the
-- result for each is what the verdict's definitions say.
use Rattle.std.specs.Prelude.{◌≡◌, ◌<◌, ◌≤◌, ℕ, ◌+◌, ◌^◌, List, [], ◌∷◌, ◌++◌, length}
use Rattle.std.specs.Prelude.{Option, Some, None, Result, Ok, Err, if◌then◌else◌}
use Rattle.std.specs.Arc.{arc_value}
use Rattle.cm_class.specs.declared.class_file.ClassFile.{ClassFile}
use Rattle.cm_class.specs.Names.{class_name_of}
use Rattle.cm_record.specs.Layout.{lay}
use Rattle.cm_record.specs.Names.{class_name_in}
use Rattle.cm_pool.specs.Geometry.{Sizes, IsGeometry}
use Rattle.cm_pool.specs.Chunks.{chunk_size}
use Rattle.cm_pool.specs.declared.place.Place.{Place}
use Rattle.cm_layout.specs.declared.row.Row.{Row}
use Rattle.cm_layout.specs.declared.row.Row.TheVariants.{Loader, Class}
use Rattle.cm_layout.specs.Rows.{rows_with, row_with, bare}
use Rattle.cm_layout.specs.Rules.{broken_live_rule}
use Rattle.cm_layout.specs.Frames.{BareRow, LiveRowsKeep}
use Rattle.cm_rows.specs.Rows.{LiveRows}
use Rattle.cm_disk.specs.Disk.{View}
use Rattle.cm_guards.specs.Calls.{Reads}
use Rattle.cm_verdict.specs.declared.defined_at.DefinedAt.{DefinedAt}
use Rattle.cm_verdict.specs.declared.fault.Damage.{Damage}
use Rattle.cm_verdict.specs.declared.fault.Damage.TheVariants as damage
use Rattle.cm_verdict.specs.declared.fault.FileFault.{FileFault}
use Rattle.cm_verdict.specs.Faults.{◌>>=◌, at_slot}
use Rattle.cm_verdict.specs.Verdict.{Standing, is_whole, class_kept, words_at, class_found}
use Rattle.cm_verdict.specs.Verdict.{verdict}
use Rattle.cm_verdict.specs.declared.fault.OpenFault.{OpenFault}
use Rattle.cm_verdict.specs.declared.fault.OpenFault.TheVariants as open_fault
use Rattle.cm_verdict.specs.declared.standing.JudgedFile.{JudgedFile}
use Rattle.cm_verdict.specs.declared.standing.ReadRows.{ReadRows}
use Rattle.cm_verdict.specs.Judging.{AreTaken, AreJudged}
use Rattle.cm_verdict.specs.Found.{Found, found_in}
use Rattle.cm_verdict.specs.Opening.{IsFaultIn, other_is_open}

-- ---- results

-- the verdict is Ok, with what is like this value
pub record ReportsOk {A B : Type 0} (Alike : A → B → Type 0) (verdict : Result B FileFault)
    (value : A) : Type 0 where
  pub told : B
  pub verdict_is : verdict ≡ Ok told
  pub alike : Alike value told

-- the result is what the verdict says
abbrev pub FollowsVerdict : {A B : Type 0} → (A → B → Type 0) → Result A OpenFault
    → Result B FileFault
    → Type 0
FollowsVerdict Alike (Ok value) verdict = ReportsOk Alike verdict value
FollowsVerdict Alike (Err fault) verdict = IsFaultIn fault verdict

-- ---- one record

-- a place that a region of these sizes can have
pub record IsPlace (sizes : Sizes) (place : Place) : Type 0 where
  pub lawful : IsGeometry sizes
  pub order : place.chunk.order ≤ sizes.top
  pub root : place.chunk.root < sizes.roots
  pub chunk : place.chunk.at + chunk_size place.chunk.order ≤ chunk_size sizes.top
  pub words : place.offset + place.words ≤ chunk_size place.chunk.order

-- the place of a row's class is one
abbrev pub HasPlace : Sizes → Row DefinedAt → Type 0
HasPlace sizes (Loader r) = Unit {0}
HasPlace sizes (Class r at) = IsPlace sizes r.place

-- the class of a place, whatever its name
abbrev pub if_class : Option ClassFile → Result ClassFile Damage
if_class None = Err damage.Record
if_class (Some c) = Ok c

abbrev pub class_in_place : Sizes → List ℕ → Place → Result ClassFile Damage
class_in_place sizes contents place =
    if is_whole sizes (length contents) place
    then if_class (class_kept (words_at sizes contents place)) else Err damage.Chunks

-- the words are the record of this class, and give its name
pub record IsRecorded (words : List ℕ) (c : ClassFile) : Type 0 where
  pub laid : words ≡ lay c
  pub named : class_name_in words ≡ class_name_of c

-- what is made from words: the record of the class whose words they are, if that class keeps the
-- rules
abbrev pub IsKeptClass : List ℕ → Option (List ℕ) → Type 0
IsKeptClass words None = class_kept words ≡ None
IsKeptClass words (Some made) = (c : ClassFile) × (class_kept words ≡ Some c) × IsRecorded made c

-- ---- one row

-- each class's record gives its name
abbrev pub TellNames : List (Row ClassFile) → Type 0
TellNames [] = Unit {0}
TellNames (Loader r ∷ rows) = TellNames rows
TellNames (Class r c ∷ rows) = (class_name_in (lay c) ≡ class_name_of c) × TellNames rows

-- rows of a file of these sizes, with the words of these classes' records
pub record AreRecorded (sizes : Sizes) (rows : LiveRows (List ℕ))
    (classes : List (Row ClassFile)) : Type 0 where
  pub sizes_are : rows.sizes ≡ sizes
  pub words : rows.rows ≡ rows_with lay classes
  pub named : TellNames classes

abbrev pub bare_of : Row DefinedAt → BareRow
bare_of row = row_with (λ at. tt) row

-- a row keeps the rules after those already taken
pub record MayFollow (sizes : Sizes) (number : ℕ) (taken : LiveRows (List ℕ))
    (row : BareRow) : Type 0 where
  pub sizes_are : taken.sizes ≡ sizes
  pub keeps : broken_live_rule sizes number (bare taken.rows) row ≡ None

-- the rows with one more
abbrev pub row_found : Sizes → List ℕ → List (Row ClassFile) → Row DefinedAt
    → Result (List (Row ClassFile)) FileFault
row_found sizes contents before (Loader r) = Ok (before ++ Loader r ∷ [])
row_found sizes contents before (Class r at) =
    at_slot at.slot (class_found sizes contents before r) >>= λ c. Ok (before ++ Class r c ∷ [])

-- ---- the file, while its records are judged

-- what was found in these contents, in memory
pub record IsFoundIn (contents : List ℕ) (file : ReadRows) (f : Found) : Type 0 where
  pub found_is : found_in contents ≡ Ok f
  pub geometry : file.pass.geometry ≡ f.sizes
  pub long : file.pass.long ≡ length contents
  pub number : file.pass.number ≡ f.number
  pub rows : file.found.rows ≡ f.rows
  pub half : file.half ≡ f.half
  pub head : file.head ≡ f.head
  pub end : file.end ≡ f.end
  pub other : file.other_open ≡ other_is_open f.sizes f.half contents
  pub short : length contents ≤ 2 ^ 40
  pub live : LiveRowsKeep f.sizes f.number [] (bare f.rows)

-- the words of the records were taken
pub record IsReadOf (contents : List ℕ) (file : ReadRows) : Type 0 where
  pub found : Found
  pub is : IsFoundIn contents file found
  pub taken : AreTaken found.sizes contents found.rows file.records.items

-- and judged
pub record IsJudgedOf (contents : List ℕ) (file : ReadRows) : Type 0 where
  pub found : Found
  pub is : IsFoundIn contents file found
  pub judged : AreJudged found.sizes contents found.rows file.records.items

-- ---- the file

-- what a file with these contents stands for, as a value in memory
pub record IsJudgedFile (contents : List ℕ) (file : JudgedFile) (s : Standing) : Type 0 where
  pub geometry : file.geometry ≡ s.found.sizes
  pub half : file.half ≡ s.found.half
  pub head : file.head ≡ s.found.head
  pub other : file.other_open ≡ other_is_open s.found.sizes s.found.half contents
  pub end : file.end ≡ s.found.end
  pub number : file.number ≡ s.found.number
  pub long : file.long ≡ length contents
  pub short : length contents ≤ 2 ^ 40
  pub rows : file.rows ≡ record { sizes = s.found.sizes; rows = rows_with lay s.rows }
  pub committed_sizes : file.committed.sizes ≡ s.found.sizes
  pub committed : rows_with arc_value file.committed.rows ≡ rows_with lay s.rows

-- ---- reading it

-- The result is the verdict on the contents, and the disk is only read.
pub record ReadsVerdict {D : Type 0} (view : View D) (old new : D)
    (result : Result JudgedFile OpenFault) : Type 0 where
  pub judged : FollowsVerdict (IsJudgedFile (view.contents old)) result
      (verdict (view.contents old))
  pub reads : Reads view old new (result ≡ Err open_fault.Device)
