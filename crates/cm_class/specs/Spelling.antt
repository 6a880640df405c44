-- How a class file of version 52.0 is spelled in bytes (JVMS SE 8, sections 4.1 to 4.7). Numbers
-- are big-endian. To be read beside the tables there, field by field.
use Rattle.std.specs.Prelude.{ℕ, ◌+◌, ◌<◌, ◌^◌, Bool, true, false, List, [], ◌∷◌, ◌++◌, length}
use Rattle.std.specs.List.{flat_map, AllByRecursion}
use Rattle.std.specs.Int.{w16, w32, w64, to_be_bytes}
use Rattle.cm_class.specs.declared.constant.Constant.{Constant}
use Rattle.cm_class.specs.declared.constant.Constant.TheVariants as constant
use Rattle.cm_class.specs.declared.constant.Slot.{Slot}
use Rattle.cm_class.specs.declared.constant.Slot.TheVariants.{Usable, Unusable}
use Rattle.cm_class.specs.declared.class_file.Attribute.{Attribute}
use Rattle.cm_class.specs.declared.class_file.Member.{Member}
use Rattle.cm_class.specs.declared.class_file.ClassFile.{ClassFile}

abbrev pub u1 : ℕ → List ℕ
u1 n = n ∷ []

abbrev pub u2 : ℕ → List ℕ
u2 n = to_be_bytes w16 n

abbrev pub u4 : ℕ → List ℕ
u4 n = to_be_bytes w32 n

abbrev pub u8 : ℕ → List ℕ
u8 n = to_be_bytes w64 n

-- a constant of a class, whose Utf8 has its bytes
abbrev pub ClassConstant : Type 0
ClassConstant = Constant (List ℕ)

-- JVMS 4.4, table 4.4-A
abbrev pub tag : {U : Type 0} → Constant U → ℕ
tag (constant.Utf8 bytes) = 1
tag (constant.Integer bits) = 3
tag (constant.Float bits) = 4
tag (constant.Long bits) = 5
tag (constant.Double bits) = 6
tag (constant.Class name) = 7
tag (constant.String utf8) = 8
tag (constant.Fieldref class name_and_type) = 9
tag (constant.Methodref class name_and_type) = 10
tag (constant.InterfaceMethodref class name_and_type) = 11
tag (constant.NameAndType name descriptor) = 12
tag (constant.MethodHandle kind reference) = 15
tag (constant.MethodType descriptor) = 16
tag (constant.InvokeDynamic bootstrap_method name_and_type) = 18

-- what is after the tag (JVMS 4.4.1 to 4.4.10)
abbrev pub info : ClassConstant → List ℕ
info (constant.Utf8 bytes) = u2 (length bytes) ++ bytes
info (constant.Integer bits) = u4 bits
info (constant.Float bits) = u4 bits
info (constant.Long bits) = u8 bits
info (constant.Double bits) = u8 bits
info (constant.Class name) = u2 name
info (constant.String utf8) = u2 utf8
info (constant.Fieldref class name_and_type) = u2 class ++ u2 name_and_type
info (constant.Methodref class name_and_type) = u2 class ++ u2 name_and_type
info (constant.InterfaceMethodref class name_and_type) = u2 class ++ u2 name_and_type
info (constant.NameAndType name descriptor) = u2 name ++ u2 descriptor
info (constant.MethodHandle kind reference) = u1 kind ++ u2 reference
info (constant.MethodType descriptor) = u2 descriptor
info (constant.InvokeDynamic bootstrap_method name_and_type) =
    u2 bootstrap_method ++ u2 name_and_type

abbrev pub constant_bytes : ClassConstant → List ℕ
constant_bytes c = u1 (tag c) ++ info c

-- the second index of a Long or Double has no bytes of its own
abbrev pub slot_bytes : Slot → List ℕ
slot_bytes (Usable c) = constant_bytes c
slot_bytes Unusable = []

-- JVMS 4.7
abbrev pub attribute_bytes : Attribute → List ℕ
attribute_bytes a = u2 a.name ++ u4 (length a.bytes) ++ a.bytes

-- a count, and that many items
abbrev pub counted : {A : Type 0} → (A → List ℕ) → List A → List ℕ
counted bytes items = u2 (length items) ++ flat_map bytes items

-- JVMS 4.5, 4.6
abbrev pub member_bytes : Member → List ℕ
member_bytes m = u2 m.flags ++ u2 m.name ++ u2 m.descriptor ++ counted attribute_bytes m.attributes

-- the magic number, minor version 0, major version 52
abbrev pub heading : List ℕ
heading = 0xCA ∷ 0xFE ∷ 0xBA ∷ 0xBE ∷ 0 ∷ 0 ∷ 0 ∷ 52 ∷ []

-- JVMS 4.1. The pool's count is one more than its last index.
abbrev pub spell : ClassFile → List ℕ
spell c =
    heading ++ u2 (length c.slots + 1) ++ flat_map slot_bytes c.slots
    ++ u2 c.flags ++ u2 c.this_class ++ u2 c.super_class
    ++ counted u2 c.interfaces
    ++ counted member_bytes c.fields ++ counted member_bytes c.methods
    ++ counted attribute_bytes c.attributes

-- ---- which class files have a spelling

abbrev pub IsU1 : ℕ → Type 0
IsU1 n = n < 2 ^ 8

abbrev pub IsU2 : ℕ → Type 0
IsU2 n = n < 2 ^ 16

abbrev pub IsU4 : ℕ → Type 0
IsU4 n = n < 2 ^ 32

abbrev pub IsU8 : ℕ → Type 0
IsU8 n = n < 2 ^ 64

abbrev pub AreBytes : List ℕ → Type 0
AreBytes bytes = AllByRecursion IsU1 bytes

-- a Long or a Double, which takes two indexes of the pool (JVMS 4.4.5)
abbrev pub is_wide : {U : Type 0} → Constant U → Bool
is_wide (constant.Long bits) = true
is_wide (constant.Double bits) = true
is_wide _ = false

-- each number is within its field
abbrev pub ConstantFits : ClassConstant → Type 0
ConstantFits (constant.Utf8 bytes) = IsU2 (length bytes) × AreBytes bytes
ConstantFits (constant.Integer bits) = IsU4 bits
ConstantFits (constant.Float bits) = IsU4 bits
ConstantFits (constant.Long bits) = IsU8 bits
ConstantFits (constant.Double bits) = IsU8 bits
ConstantFits (constant.Class name) = IsU2 name
ConstantFits (constant.String utf8) = IsU2 utf8
ConstantFits (constant.Fieldref class name_and_type) = IsU2 class × IsU2 name_and_type
ConstantFits (constant.Methodref class name_and_type) = IsU2 class × IsU2 name_and_type
ConstantFits (constant.InterfaceMethodref class name_and_type) = IsU2 class × IsU2 name_and_type
ConstantFits (constant.NameAndType name descriptor) = IsU2 name × IsU2 descriptor
ConstantFits (constant.MethodHandle kind reference) = IsU1 kind × IsU2 reference
ConstantFits (constant.MethodType descriptor) = IsU2 descriptor
ConstantFits (constant.InvokeDynamic bootstrap_method name_and_type) =
    IsU2 bootstrap_method × IsU2 name_and_type

-- The slots from one on; `second` says whether that is the second index of the constant before it.
-- Exactly such indexes are unusable.
abbrev pub SlotsFit : Bool → List Slot → Type 0
SlotsFit true [] = ⊥
SlotsFit true (Unusable ∷ slots) = SlotsFit false slots
SlotsFit true (Usable c ∷ slots) = ⊥
SlotsFit false [] = Unit {0}
SlotsFit false (Unusable ∷ slots) = ⊥
SlotsFit false (Usable c ∷ slots) = ConstantFits c × SlotsFit (is_wide c) slots

-- a list whose count fits into two bytes, and each item of which fits
abbrev pub CountedFit : {A : Type 0} → (A → Type 0) → List A → Type 0
CountedFit Fits items = IsU2 (length items) × AllByRecursion Fits items

pub record AttributeFits (a : Attribute) : Type 0 where
  pub name : IsU2 a.name
  pub size : IsU4 (length a.bytes)
  pub bytes : AreBytes a.bytes

pub record MemberFits (m : Member) : Type 0 where
  pub flags : IsU2 m.flags
  pub name : IsU2 m.name
  pub descriptor : IsU2 m.descriptor
  pub attributes : CountedFit AttributeFits m.attributes

-- the class files whose spelling determines them
pub record HasSpelling (c : ClassFile) : Type 0 where
  pub count : IsU2 (length c.slots + 1)
  pub slots : SlotsFit false c.slots
  pub flags : IsU2 c.flags
  pub this_class : IsU2 c.this_class
  pub super_class : IsU2 c.super_class
  pub interfaces : CountedFit IsU2 c.interfaces
  pub fields : CountedFit MemberFits c.fields
  pub methods : CountedFit MemberFits c.methods
  pub attributes : CountedFit AttributeFits c.attributes
