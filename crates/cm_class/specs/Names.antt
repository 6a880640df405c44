-- What an index of the constant pool names (JVMS SE 8, section 4.4). Index 0 and the second index
-- of a Long or a Double name nothing. If an index names nothing of the requested kind, its bytes
-- are empty and its indexes 0.
use Rattle.std.specs.Prelude.{ℕ, zero, suc, Bool, true, false, ◌&&◌, List, [], Option, Some, None}
use Rattle.std.specs.Prelude.{option_and_then, slice_get, bytes_eq, ◌==◌, if◌then◌else◌}
use Rattle.std.specs.Option.{option_map_or}
use Rattle.cm_class.specs.declared.constant.Constant.{Constant}
use Rattle.cm_class.specs.declared.constant.Constant.TheVariants as constant
use Rattle.cm_class.specs.declared.constant.Slot.{Slot}
use Rattle.cm_class.specs.declared.constant.Slot.TheVariants.{Usable, Unusable}
use Rattle.cm_class.specs.declared.kind.Kind.{Kind}
use Rattle.cm_class.specs.declared.kind.Kind.TheVariants as kinds
use Rattle.cm_class.specs.declared.class_file.ClassFile.{ClassFile}
use Rattle.cm_class.specs.Spelling.{ClassConstant}

-- ---- the constant at an index

abbrev pub constant_in : Slot → Option ClassConstant
constant_in (Usable c) = Some c
constant_in Unusable = None

abbrev pub constant_named : ClassFile → ℕ → Option ClassConstant
constant_named c zero = None
constant_named c (suc i) = option_and_then constant_in (slice_get c.slots i)

-- ---- kinds

-- a constant's kind, the one with its tag
abbrev pub kind_of : {U : Type 0} → Constant U → Kind
kind_of (constant.Utf8 bytes) = kinds.Utf8
kind_of (constant.Integer bits) = kinds.Integer
kind_of (constant.Float bits) = kinds.Float
kind_of (constant.Long bits) = kinds.Long
kind_of (constant.Double bits) = kinds.Double
kind_of (constant.Class name) = kinds.Class
kind_of (constant.String utf8) = kinds.String
kind_of (constant.Fieldref class name_and_type) = kinds.Fieldref
kind_of (constant.Methodref class name_and_type) = kinds.Methodref
kind_of (constant.InterfaceMethodref class name_and_type) = kinds.InterfaceMethodref
kind_of (constant.NameAndType name descriptor) = kinds.NameAndType
kind_of (constant.MethodHandle kind reference) = kinds.MethodHandle
kind_of (constant.MethodType descriptor) = kinds.MethodType
kind_of (constant.InvokeDynamic bootstrap_method name_and_type) = kinds.InvokeDynamic

abbrev pub is_kind : {U : Type 0} → Kind → Constant U → Bool
is_kind kinds.Utf8 (constant.Utf8 bytes) = true
is_kind kinds.Integer (constant.Integer bits) = true
is_kind kinds.Float (constant.Float bits) = true
is_kind kinds.Long (constant.Long bits) = true
is_kind kinds.Double (constant.Double bits) = true
is_kind kinds.Class (constant.Class name) = true
is_kind kinds.String (constant.String utf8) = true
is_kind kinds.Fieldref (constant.Fieldref class name_and_type) = true
is_kind kinds.Methodref (constant.Methodref class name_and_type) = true
is_kind kinds.InterfaceMethodref (constant.InterfaceMethodref class name_and_type) = true
is_kind kinds.NameAndType (constant.NameAndType name descriptor) = true
is_kind kinds.MethodHandle (constant.MethodHandle kind reference) = true
is_kind kinds.MethodType (constant.MethodType descriptor) = true
is_kind kinds.InvokeDynamic (constant.InvokeDynamic bootstrap_method name_and_type) = true
is_kind _ _ = false

-- the index names a constant that passes a test
abbrev pub names_such : (ClassConstant → Bool) → ClassFile → ℕ → Bool
names_such test c i = option_map_or test (constant_named c i) false

-- the index names a constant of this kind
abbrev pub names : Kind → ClassFile → ℕ → Bool
names kind c i = names_such (is_kind kind) c i

-- ---- bytes

abbrev pub utf8_in : ClassConstant → List ℕ
utf8_in (constant.Utf8 bytes) = bytes
utf8_in _ = []

-- the bytes of the Utf8 that an index names
abbrev pub utf8 : ClassFile → ℕ → List ℕ
utf8 c i = option_map_or utf8_in (constant_named c i) []

-- the index names a Utf8 of these bytes
abbrev pub names_utf8 : ClassFile → ℕ → List ℕ → Bool
names_utf8 c i bytes = names kinds.Utf8 c i && bytes_eq (utf8 c i) bytes

-- ---- what constants lead to

abbrev pub class_name_index : ClassConstant → ℕ
class_name_index (constant.Class name) = name
class_name_index _ = 0

-- the name of a class: the bytes of the Utf8 that a Class leads to
abbrev pub class_name : ClassFile → ℕ → List ℕ
class_name c i = utf8 c (option_map_or class_name_index (constant_named c i) 0)

-- the name of the class itself
abbrev pub class_name_of : ClassFile → List ℕ
class_name_of c = class_name c c.this_class

-- the name of its super class, if it has one
abbrev pub super_name_of : ClassFile → Option (List ℕ)
super_name_of c = if c.super_class == 0 then None else Some (class_name c c.super_class)

abbrev pub name_index : ClassConstant → ℕ
name_index (constant.NameAndType name descriptor) = name
name_index _ = 0

abbrev pub descriptor_index : ClassConstant → ℕ
descriptor_index (constant.NameAndType name descriptor) = descriptor
descriptor_index _ = 0

-- the indexes that a NameAndType holds
abbrev pub name_index_at : ClassFile → ℕ → ℕ
name_index_at c i = option_map_or name_index (constant_named c i) 0

abbrev pub descriptor_index_at : ClassFile → ℕ → ℕ
descriptor_index_at c i = option_map_or descriptor_index (constant_named c i) 0

-- the name and the descriptor that it leads to
abbrev pub pair_name : ClassFile → ℕ → List ℕ
pair_name c i = utf8 c (name_index_at c i)

abbrev pub pair_descriptor : ClassFile → ℕ → List ℕ
pair_descriptor c i = utf8 c (descriptor_index_at c i)

abbrev pub pair_index : ClassConstant → ℕ
pair_index (constant.Fieldref class name_and_type) = name_and_type
pair_index (constant.Methodref class name_and_type) = name_and_type
pair_index (constant.InterfaceMethodref class name_and_type) = name_and_type
pair_index _ = 0

-- the name of the field or method that a reference names
abbrev pub reference_name : ClassFile → ℕ → List ℕ
reference_name c i = pair_name c (option_map_or pair_index (constant_named c i) 0)
