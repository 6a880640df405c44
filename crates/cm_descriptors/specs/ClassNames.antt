-- Class names are unqualified names joined by `/` (JVMS SE 8, section 4.2.1).
use Rattle.std.specs.Prelude.{◌≡◌, ◌≢◌, ℕ, IsTrue, List, []}
use Rattle.std.specs.List.{join_with_byte, AllByRecursion}
use Rattle.cm_descriptors.specs.Forms.{is_unqualified_name, slash}

-- one or more unqualified names, joined by slashes, are these bytes
abbrev pub AreJoinedNames : List ℕ → Type 0
AreJoinedNames bytes =
    (names : List (List ℕ)) × (names ≢ [])
    × AllByRecursion (λ name. IsTrue (is_unqualified_name name)) names
    × (join_with_byte slash names ≡ bytes)
