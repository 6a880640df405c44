-- Which names are those of class files.
use Rattle.std.specs.Prelude.{ℕ, ◌-◌, Bool, ◌&&◌, ◌||◌, not, nat_eq, List, length, take, codes}
use Rattle.std.specs.List.{ends_with}

abbrev pub has_end : List ℕ → List ℕ → Bool
has_end name end = ends_with nat_eq name end

-- the last part of a path is this
abbrev pub has_last_part : List ℕ → List ℕ → Bool
has_last_part name part =
    has_end name part
    && (nat_eq (length name) (length part)
    || has_end (take (length name - length part) name) (codes "/"))

-- A class file's name ends in `.class`. The files of modules and of packages describe no class.
abbrev pub is_class_name : List ℕ → Bool
is_class_name name =
    has_end name (codes ".class")
    && not (has_last_part name (codes "module-info.class"))
    && not (has_last_part name (codes "package-info.class"))

abbrev pub is_jar_name : List ℕ → Bool
is_jar_name name = has_end name (codes ".jar")
