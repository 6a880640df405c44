-- How a class compares with what a loader has of its name.
use Rattle.std.specs.Prelude.{◌≡◌, ◌≢◌, ℕ, List, Option, Some, None}
use Rattle.cm_importing.specs.declared.comparing.Compared.{Compared}
use Rattle.cm_importing.specs.declared.comparing.Compared.TheVariants as compared

-- There is no class of the name; or there is one whose record has these words, or others.
abbrev pub IsBeside : List ℕ → Option (List ℕ) → Compared → Type 0
IsBeside words found compared.New = found ≡ None
IsBeside words found compared.There = found ≡ Some words
IsBeside words found compared.Changed =
    (other : List ℕ) × (found ≡ Some other) × (other ≢ words)
