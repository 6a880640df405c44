-- The lines that say what a file holds, or why it isn't opened, each with its newline.
use Rattle.std.specs.Prelude.{ℕ, ◌+◌, List, [], ◌∷◌, ◌++◌, length, codes}
use Rattle.std.specs.List.{flat_map}
use Rattle.std.specs.Fmt.{decimal}
use Rattle.cm_pool.specs.declared.place.Place.{Place}
use Rattle.cm_record.specs.Names.{class_name_in}
use Rattle.cm_verdict.specs.declared.fault.OpenFault.{OpenFault}
use Rattle.cm_verdict.specs.Texts.{open_fault_text}
use Rattle.cm_maintenance.specs.declared.report.Report.{Report}
use Rattle.cm_maintenance.specs.declared.listing.ListedClass.{ListedClass}
use Rattle.cm_lines.specs.Escapes.{escaped}

-- ---- of a file that is checked

abbrev pub report_line : Report → List ℕ
report_line report =
    codes "ok loaders " ++ decimal report.loaders ++ codes " classes " ++ decimal report.classes
    ++ codes " chunks " ++ decimal report.chunks ++ codes " number " ++ decimal report.number
    ++ 10 ∷ []

-- ---- of a cache that is listed

-- a loader's name is never escaped
abbrev pub loader_line : List ℕ → List ℕ
loader_line name = codes "loader " ++ name ++ 10 ∷ []

-- a class with a record of this many words at this place: its root, and its first word there
abbrev pub class_line : List ℕ → ℕ → Place → List ℕ
class_line name words place =
    codes "class " ++ escaped name ++ codes " words " ++ decimal words ++ codes " root "
    ++ decimal place.chunk.root ++ codes " at " ++ decimal (place.chunk.at + place.offset)
    ++ 10 ∷ []

abbrev pub listed_line : ListedClass → List ℕ
listed_line c = class_line (class_name_in c.class) (length c.class) c.place

-- a loader, and its classes after it
abbrev pub loader_lines : List ℕ × List ListedClass → List ℕ
loader_lines loader = loader_line loader.0 ++ flat_map listed_line loader.1

abbrev pub list_lines : List (List ℕ × List ListedClass) → List ℕ
list_lines loaders = flat_map loader_lines loaders

-- ---- of a file that is trimmed

abbrev pub roots_line : ℕ → List ℕ
roots_line roots = codes "roots " ++ decimal roots ++ 10 ∷ []

-- ---- of a file that isn't opened

abbrev pub fault_line : OpenFault → List ℕ
fault_line fault = open_fault_text fault ++ 10 ∷ []
