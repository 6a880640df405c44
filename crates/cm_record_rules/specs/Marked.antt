-- Numbers by which most members are told apart.
use Rattle.std.specs.Prelude.{ℕ, ◌+◌, ◌-◌, ◌*◌, ◌/◌, ◌%◌, ◌^◌, List, length, get_or}
use Rattle.cm_class.specs.declared.class_file.ClassFile.{ClassFile}
use Rattle.cm_class.specs.declared.class_file.Member.{Member}
use Rattle.cm_class.specs.Names.{utf8}

-- a number that a name and a descriptor determine
unfoldable pub mark_of : List ℕ → List ℕ → ℕ
mark_of name descriptor =
    get_or name (length name / 2) 0
    + 2 ^ 8 * get_or name (length name - 1) 0
    + 2 ^ 16 * (length name % 2 ^ 16)
    + 2 ^ 32 * (length descriptor % 2 ^ 16)

-- that of a member's name and descriptor
abbrev pub member_mark : ClassFile → Member → ℕ
member_mark c m = mark_of (utf8 c m.name) (utf8 c m.descriptor)
