-- The classes that a cache may hold.
use Rattle.std.specs.Prelude.{◌≡◌, None}
use Rattle.cm_class.specs.declared.class_file.ClassFile.{ClassFile}
use Rattle.cm_class.specs.Spelling.{HasSpelling}
use Rattle.cm_rules.specs.Fault.{fault}

-- a class that a file can spell and that keeps the rules
pub record KeepsRules (c : ClassFile) : Type 0 where
  pub spelled : HasSpelling c
  pub kept : fault c ≡ None
