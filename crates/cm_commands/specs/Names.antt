-- Names: the one that is kept with a class's record, and those of loaders that are to be unloaded
-- at once.
use Rattle.std.specs.Prelude.{ℕ, ◌<◌, ◌≡◌, List, length}
use Rattle.cm_record.specs.Names.{class_name_in}

-- an empty name says nothing
abbrev pub IsNameBeside : List ℕ → List ℕ → Type 0
IsNameBeside name words = 0 < length name → name ≡ class_name_in words

-- how many names of loaders that are to be unloaded at once are kept: one more than may be unloaded
abbrev pub names_kept : ℕ
names_kept = 8
