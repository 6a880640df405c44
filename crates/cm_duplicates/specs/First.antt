-- What the first duplicate is, in terms of the class file.
use Rattle.std.specs.Prelude.{◌≡◌, ℕ, ◌<◌, List, length}
use Rattle.std.specs.List.{slice_index_or}
use Rattle.cm_class.specs.declared.class_file.ClassFile.{ClassFile}
use Rattle.cm_class.specs.declared.class_file.Member.{Member}
use Rattle.cm_class.specs.Names.{utf8}

-- two members have the same name and the same descriptor
pub record Agree (c : ClassFile) (m n : Member) : Type 0 where
  pub name : utf8 c m.name ≡ utf8 c n.name
  pub descriptor : utf8 c m.descriptor ≡ utf8 c n.descriptor

-- the member at a place agrees with one at an earlier place
pub record IsDuplicate (c : ClassFile) (members : List Member) (place : ℕ) : Type 0 where
  pub within : place < length members
  pub earlier : ℕ
  pub before : earlier < place
  pub agree : (m : Member)
      → Agree c (slice_index_or members place m) (slice_index_or members earlier m)

-- the member is a duplicate, and none before it is
pub record IsFirstDuplicate (c : ClassFile) (members : List Member) (place : ℕ) : Type 0 where
  pub duplicate : IsDuplicate c members place
  pub first : (k : ℕ) → k < place → ¬ IsDuplicate c members k
