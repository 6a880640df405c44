-- The head of a record, from the numbers of its class file.
use Rattle.std.specs.Prelude.{◌≡◌, ℕ, ◌+◌, ◌*◌, List, [], ◌∷◌, length}
use Rattle.cm_class.specs.declared.class_file.ClassFile.{ClassFile}
use Rattle.cm_record_layout.specs.Packing.{four_numbers}
use Rattle.cm_record_laying.specs.declared.sizes.Numbers.{Numbers}

-- where the attributes begin
abbrev pub attributes_from : Numbers → ℕ
attributes_from n = 8 + n.slots + n.interfaces + 2 * (n.fields + n.methods)

-- the head, with the numbers of words that the attributes and the runs take
abbrev pub head_of : Numbers → ℕ → ℕ → List ℕ
head_of n attributes runs =
    (attributes_from n + attributes + runs)
    ∷ four_numbers n.flags n.this_class n.super_class n.interfaces
    ∷ four_numbers n.slots n.fields n.methods n.attributes
    ∷ 8 ∷ (8 + n.slots) ∷ (8 + n.slots + n.interfaces) ∷ attributes_from n
    ∷ (attributes_from n + attributes) ∷ []

-- these are the numbers of a class
pub record AreNumbers (c : ClassFile) (n : Numbers) : Type 0 where
  pub slots : n.slots ≡ length c.slots + 1
  pub flags : n.flags ≡ c.flags
  pub this_class : n.this_class ≡ c.this_class
  pub super_class : n.super_class ≡ c.super_class
  pub interfaces : n.interfaces ≡ length c.interfaces
  pub fields : n.fields ≡ length c.fields
  pub methods : n.methods ≡ length c.methods
  pub attributes : n.attributes ≡ length c.attributes
