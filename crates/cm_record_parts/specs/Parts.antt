-- The parts of a class: what is found of them in the words of its record.
use Rattle.std.specs.Prelude.{◌≡◌, ◌<◌, ℕ, ◌+◌, ◌*◌, List, ◌++◌, length, slice_get, Option, Some}
use Rattle.std.specs.Prelude.{None, option_map, true, false}
use Rattle.cm_class.specs.declared.class_file.Attribute.{Attribute as ClassAttribute}
use Rattle.cm_class.specs.declared.class_file.Member.{Member as ClassMember}
use Rattle.cm_class.specs.declared.class_file.ClassFile.{ClassFile}
use Rattle.cm_class.specs.Names.{utf8, names_utf8}
use Rattle.cm_record_parts.specs.declared.members.Member.{Member}
use Rattle.cm_record_parts.specs.declared.attributes.Attribute.{Attribute}
use Rattle.cm_record_parts.specs.declared.attributes.Owner.{Owner}
use Rattle.cm_record_parts.specs.declared.attributes.Owner.TheVariants as owner
use Rattle.cm_record_parts.specs.declared.attributes.Listed.{Listed}
use Rattle.cm_record_layout.specs.Layout.{all_attributes, attributes_at}
use Rattle.cm_record_parts.specs.Places.{LieAt}

-- ---- fields and methods

-- what is said of a member: its flags, its name, its descriptor and how many attributes it has
pub record IsMember (c : ClassFile) (words : List ℕ) (m : Member) (own : ClassMember)
    : Type 0 where
  pub flags : m.flags ≡ own.flags
  pub name : LieAt words m.name (utf8 c own.name)
  pub descriptor : LieAt words m.descriptor (utf8 c own.descriptor)
  pub attributes : m.attributes ≡ length own.attributes

-- a member that the class has, and none that it hasn't
abbrev pub MayBeMember : ClassFile → List ℕ → Option Member → Option ClassMember → Type 0
MayBeMember c words None None = Unit {0}
MayBeMember c words None (Some own) = ⊥
MayBeMember c words (Some m) None = ⊥
MayBeMember c words (Some m) (Some own) = IsMember c words m own

-- ---- attributes

-- the attributes of a part of the class; none if there is no such part
abbrev pub attributes_of : ClassFile → Owner → Option (List ClassAttribute)
attributes_of c owner.Class = Some c.attributes
attributes_of c (owner.Field index) = option_map (λ m. m.attributes) (slice_get c.fields index)
attributes_of c (owner.Method index) = option_map (λ m. m.attributes) (slice_get c.methods index)

-- the attributes stand side by side among those of the class, and how many there are
pub record AreListed (c : ClassFile) (listed : Listed) (those : List ClassAttribute) : Type 0 where
  pub before : List ClassAttribute
  pub after : List ClassAttribute
  pub all : all_attributes c ≡ before ++ (those ++ after)
  pub at : listed.at ≡ attributes_at c + 2 * length before
  pub count : listed.count ≡ length those

abbrev pub MayBeListed : ClassFile → Option Listed → Option (List ClassAttribute) → Type 0
MayBeListed c None None = Unit {0}
MayBeListed c None (Some those) = ⊥
MayBeListed c (Some listed) None = ⊥
MayBeListed c (Some listed) (Some those) = AreListed c listed those

-- what is said of an attribute: its name and its content
pub record IsAttribute (c : ClassFile) (words : List ℕ) (a : Attribute) (own : ClassAttribute)
    : Type 0 where
  pub name : LieAt words a.name (utf8 c own.name)
  pub content : LieAt words a.content own.bytes

abbrev pub MayBeAttribute : ClassFile → List ℕ → Option Attribute → Option ClassAttribute → Type 0
MayBeAttribute c words None None = Unit {0}
MayBeAttribute c words None (Some own) = ⊥
MayBeAttribute c words (Some a) None = ⊥
MayBeAttribute c words (Some a) (Some own) = IsAttribute c words a own

-- the attribute at an index of those of a part
abbrev pub attribute_of : Option (List ClassAttribute) → ℕ → Option ClassAttribute
attribute_of None index = None
attribute_of (Some those) index = slice_get those index

abbrev pub count_of : Option (List ClassAttribute) → ℕ
count_of None = 0
count_of (Some those) = length those

-- the first attribute of a name
pub record IsFirstNamed (c : ClassFile) (words name : List ℕ) (those : List ClassAttribute)
    (a : Attribute) : Type 0 where
  pub index : ℕ
  pub own : ClassAttribute
  pub there : slice_get those index ≡ Some own
  pub has : names_utf8 c own.name name ≡ true
  pub is : IsAttribute c words a own
  pub first : (k : ℕ) (other : ClassAttribute) → k < index → slice_get those k ≡ Some other
      → names_utf8 c other.name name ≡ false

-- what is found of a name: none only if no attribute has it
abbrev pub FindsNamed : ClassFile → List ℕ → List ℕ → Option (List ClassAttribute)
    → Option Attribute → Type 0
FindsNamed c words name None None = Unit {0}
FindsNamed c words name None (Some a) = ⊥
FindsNamed c words name (Some those) None = (k : ℕ) (other : ClassAttribute)
    → slice_get those k ≡ Some other → names_utf8 c other.name name ≡ false
FindsNamed c words name (Some those) (Some a) = IsFirstNamed c words name those a
