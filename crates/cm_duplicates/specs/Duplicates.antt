-- Fields and methods with the name and the descriptor of one before them. A class must have none
-- (JVMS SE 8, sections 4.5 and 4.6).
use Rattle.std.specs.Prelude.{ℕ, ◌+◌, Bool, ◌&&◌, not, List, [], ◌∷◌, take, Option, Some, None}
use Rattle.std.specs.Prelude.{bytes_eq, if◌then◌else◌}
use Rattle.std.specs.List.{list_any}
use Rattle.cm_class.specs.declared.class_file.ClassFile.{ClassFile}
use Rattle.cm_class.specs.declared.class_file.Member.{Member}
use Rattle.cm_class.specs.Names.{utf8}

-- the members have the same name and the same descriptor
abbrev pub same_member : ClassFile → Member → Member → Bool
same_member c m n =
    bytes_eq (utf8 c m.name) (utf8 c n.name) && bytes_eq (utf8 c m.descriptor) (utf8 c n.descriptor)

-- no member before this place is the same
abbrev pub is_first : ClassFile → List Member → ℕ → Member → Bool
is_first c members i m = not (list_any (same_member c m) (take i members))

-- the first place from i on whose item fails a test
unfoldable pub first_failing : {A : Type 0} → (ℕ → A → Bool) → ℕ → List A → Option ℕ
first_failing test i [] = None
first_failing test i (x ∷ items) = if test i x then first_failing test (i + 1) items else Some i

-- the first place whose member has the name and the descriptor of one at an earlier place
abbrev pub first_duplicate : ClassFile → List Member → Option ℕ
first_duplicate c members = first_failing (is_first c members) 0 members
