-- The names of a class and of its super class, as `cm_class` defines them; and the class's name
-- from the words of its record.
use Rattle.std.specs.Prelude.{◌≡◌, ℕ, List, [], drop, get_or, Some, None}
use Rattle.cm_record_layout.specs.Packing.{second_of}
use Rattle.cm_record_reading.specs.Reading.{run_at}
use Rattle.cm_record_layout.specs.Layout.{IsRecordOf}
use Rattle.cm_class.specs.declared.class_file.ClassFile.{ClassFile}
use Rattle.cm_record.specs.declared.run.Run.{Run}
use Rattle.cm_record.specs.Runs.{name_run, IsRunOf}
pub use Rattle.cm_class.specs.Names.{class_name_of, super_name_of}

-- the bytes of a run; empty if there is no such run
abbrev pub bytes_in : List ℕ → Run → List ℕ
bytes_in words run = elim (run_at run.len (drop run.at words)) [ Some r ↦ r.0 | None ↦ [] ]

-- the run of the class's name, in the words of its record
abbrev pub IsNameRun : List ℕ → Run → Type 0
IsNameRun words run = (c : ClassFile) → IsRecordOf c words → IsRunOf words run (class_name_of c)

-- the name of the class whose record these words are
unfoldable pub class_name_in : List ℕ → List ℕ
class_name_in words = bytes_in words (name_run words (second_of (get_or words 1 0)))

-- a record's words determine the name of its class
abbrev pub WordsTellName : Type 0
WordsTellName =
    (c : ClassFile) (words : List ℕ) → IsRecordOf c words → class_name_in words ≡ class_name_of c
