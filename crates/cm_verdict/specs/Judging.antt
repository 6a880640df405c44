-- The records of rows: their words are taken from the disk, and then judged.
use Rattle.std.specs.Prelude.{◌≡◌, ℕ, false, List, Vec, length, map}
use Rattle.std.specs.Prelude.{Option, Some, None, is_some, if◌then◌else◌}
use Rattle.std.specs.List.{AllZip}
use Rattle.std.specs.Global.{Global}
use Rattle.cm_pool.specs.Geometry.{Sizes}
use Rattle.cm_pool.specs.declared.place.Place.{Place}
use Rattle.cm_layout.specs.declared.row.Row.{Row}
use Rattle.cm_layout.specs.declared.row.Row.TheVariants.{Loader, Class}
use Rattle.cm_verdict.specs.declared.defined_at.DefinedAt.{DefinedAt}
use Rattle.cm_verdict.specs.Verdict.{is_whole, class_kept, words_at}
use Rattle.cm_verdict.specs.declared.row_record.RowRecord.{RowRecord}
use Rattle.cm_verdict.specs.declared.row_record.RowRecord.TheVariants.{Absent, Taken, Kept, Broken}
use Rattle.cm_verdict.specs.declared.row_record.RowRecord.TheVariants.{NoMemory}

-- the words at a place, if it lies in a whole root
abbrev pub words_in_place : Sizes → List ℕ → Place → Option (List ℕ)
words_in_place sizes contents place =
    if is_whole sizes (length contents) place then Some (words_at sizes contents place) else None

-- the words at the place of a row's class; a loader has none
abbrev pub words_of_row : Sizes → List ℕ → Row DefinedAt → Option (List ℕ)
words_of_row sizes contents (Loader r) = None
words_of_row sizes contents (Class r at) = words_in_place sizes contents r.place

-- the words were taken
abbrev pub IsTaken : Option (List ℕ) → RowRecord → Type 0
IsTaken words Absent = words ≡ None
IsTaken words (Taken taken) = words ≡ Some taken.words.words
IsTaken words (Kept kept) = ⊥
IsTaken words Broken = ⊥
IsTaken words NoMemory = ⊥

-- the words were judged; if an allocation failed, nothing is known about them
abbrev pub IsJudged : Option (List ℕ) → RowRecord → Type 0
IsJudged words Absent = words ≡ None
IsJudged words (Taken taken) = ⊥
IsJudged words (Kept kept) = words ≡ Some kept.content
IsJudged words Broken =
    (those : List ℕ) × (words ≡ Some those) × (is_some (class_kept those) ≡ false)
IsJudged words NoMemory = Unit {0}

-- row by row
abbrev pub AreTaken : Sizes → List ℕ → List (Row DefinedAt) → List RowRecord → Type 0
AreTaken sizes contents rows records =
    AllZip IsTaken (map (words_of_row sizes contents) rows) records

abbrev pub AreJudged : Sizes → List ℕ → List (Row DefinedAt) → List RowRecord → Type 0
AreJudged sizes contents rows records =
    AllZip IsJudged (map (words_of_row sizes contents) rows) records

-- whatever rows are given, they come back judged
abbrev pub Judges : (Vec RowRecord Global → Vec RowRecord Global → Type 0) → Type 0
Judges GivesBack = (taken judged : Vec RowRecord Global) (words : List (Option (List ℕ)))
    → GivesBack taken judged → AllZip IsTaken words taken.items → AllZip IsJudged words judged.items
