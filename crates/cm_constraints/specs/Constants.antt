-- What the rules require of one constant of the pool (JVMS SE 8, sections 4.4.1 to 4.4.10). Each
-- definition presupposes that those above it hold.
use Rattle.std.specs.Prelude.{ℕ, Bool, true, false, ◌&&◌, ◌||◌, not, ◌==◌, if◌then◌else◌}
use Rattle.std.specs.Prelude.{List, Option, Some, None, bytes_eq, nat_lt}
use Rattle.cm_class.specs.declared.constant.Constant.TheVariants as constant
use Rattle.cm_class.specs.declared.constant.Slot.{Slot}
use Rattle.cm_class.specs.declared.class_file.ClassFile.{ClassFile}
use Rattle.cm_attributes.specs.Contents.{bootstrap_count}
use Rattle.cm_descriptors.specs.Forms.{has_utf8_form, is_unqualified_name, is_method_name}
use Rattle.cm_descriptors.specs.Forms.{is_class_name, is_field_descriptor, is_array_descriptor}
use Rattle.cm_descriptors.specs.Forms.{is_method_descriptor, begins_with, ends_in_void, init}
use Rattle.cm_descriptors.specs.Forms.{clinit}
use Rattle.cm_descriptors.specs.Forms.{less}
use Rattle.cm_class.specs.declared.kind.Kind.TheVariants as kinds
use Rattle.cm_constraints.specs.declared.reference_kind.ReferenceKind.{ReferenceKind}
use Rattle.cm_constraints.specs.declared.reference_kind.ReferenceKind.TheVariants as handles
use Rattle.std.specs.Option.{option_map_or}
use Rattle.cm_class.specs.Names.{constant_in, is_kind, names, names_such, pair_descriptor}
use Rattle.cm_class.specs.Names.{pair_name, reference_name, utf8}
use Rattle.cm_class.specs.Spelling.{ClassConstant}

-- a test of the constant in a slot; the second slot of a constant passes
abbrev pub in_slot : (ClassConstant → Bool) → Slot → Bool
in_slot test slot = option_map_or test (constant_in slot) true

-- a Utf8 has the right form (JVMS 4.4.7)
abbrev pub utf8_has_form : ClassConstant → Bool
utf8_has_form (constant.Utf8 bytes) = has_utf8_form bytes
utf8_has_form _ = true

-- a reference to a member names a class, and a name with a descriptor
abbrev pub names_member : ClassFile → ℕ → ℕ → Bool
names_member c class name_and_type =
    names kinds.Class c class && names kinds.NameAndType c name_and_type

-- each index names a constant of its kind (`handle_has_kind` says what method handles name)
abbrev pub names_kinds : ClassFile → ClassConstant → Bool
names_kinds c (constant.Class name) = names kinds.Utf8 c name
names_kinds c (constant.String utf8) = names kinds.Utf8 c utf8
names_kinds c (constant.MethodType descriptor) = names kinds.Utf8 c descriptor
names_kinds c (constant.Fieldref class name_and_type) = names_member c class name_and_type
names_kinds c (constant.Methodref class name_and_type) = names_member c class name_and_type
names_kinds c (constant.InterfaceMethodref class name_and_type) = names_member c class name_and_type
names_kinds c (constant.NameAndType name descriptor) =
    names kinds.Utf8 c name && names kinds.Utf8 c descriptor
names_kinds c (constant.InvokeDynamic bootstrap_method name_and_type) =
    names kinds.NameAndType c name_and_type
names_kinds c _ = true

-- the kinds of method handles by their numbers (JVMS 5.4.3.5, table 5.4.3.5-A)
abbrev pub reference_kind : ℕ → Option ReferenceKind
reference_kind n =
    if n == 1 then Some handles.GetField
    else if n == 2 then Some handles.GetStatic
    else if n == 3 then Some handles.PutField
    else if n == 4 then Some handles.PutStatic
    else if n == 5 then Some handles.InvokeVirtual
    else if n == 6 then Some handles.InvokeStatic
    else if n == 7 then Some handles.InvokeSpecial
    else if n == 8 then Some handles.NewInvokeSpecial
    else if n == 9 then Some handles.InvokeInterface
    else None

-- what a method handle of each kind names (JVMS 4.4.8)
abbrev pub handle_names : ReferenceKind → ClassConstant → Bool
handle_names handles.GetField target = is_kind kinds.Fieldref target
handle_names handles.GetStatic target = is_kind kinds.Fieldref target
handle_names handles.PutField target = is_kind kinds.Fieldref target
handle_names handles.PutStatic target = is_kind kinds.Fieldref target
handle_names handles.InvokeVirtual target = is_kind kinds.Methodref target
handle_names handles.InvokeStatic target =
    is_kind kinds.Methodref target || is_kind kinds.InterfaceMethodref target
handle_names handles.InvokeSpecial target =
    is_kind kinds.Methodref target || is_kind kinds.InterfaceMethodref target
handle_names handles.NewInvokeSpecial target = is_kind kinds.Methodref target
handle_names handles.InvokeInterface target = is_kind kinds.InterfaceMethodref target

abbrev pub handle_has_kind : ClassFile → ClassConstant → Bool
handle_has_kind c (constant.MethodHandle kind reference) =
    option_map_or (λ k. names_such (handle_names k) c reference) (reference_kind kind) false
handle_has_kind c _ = true

abbrev pub class_has_name : ClassFile → ClassConstant → Bool
class_has_name c (constant.Class name) =
    is_class_name (utf8 c name) || is_array_descriptor (utf8 c name)
class_has_name c _ = true

abbrev pub field_reference_is_formed : ClassFile → ClassConstant → Bool
field_reference_is_formed c (constant.Fieldref class pair) =
    is_unqualified_name (pair_name c pair) && is_field_descriptor (pair_descriptor c pair)
field_reference_is_formed c _ = true

abbrev pub names_method : ClassFile → ℕ → Bool
names_method c pair =
    is_method_name (pair_name c pair) && is_method_descriptor (pair_descriptor c pair)

-- Among the names that begin with `<` only `<init>` is called, and it returns nothing (JVMS 4.4.2).
abbrev pub is_callable : ClassFile → ℕ → Bool
is_callable c pair =
    not (begins_with less (pair_name c pair))
    || (bytes_eq (pair_name c pair) init && ends_in_void (pair_descriptor c pair))

abbrev pub method_reference_is_formed : ClassFile → ClassConstant → Bool
method_reference_is_formed c (constant.Methodref class pair) =
    names_method c pair && is_callable c pair
method_reference_is_formed c (constant.InterfaceMethodref class pair) = names_method c pair
method_reference_is_formed c _ = true

abbrev pub dynamic_call_is_formed : ClassFile → ClassConstant → Bool
dynamic_call_is_formed c (constant.InvokeDynamic bootstrap_method pair) = names_method c pair
dynamic_call_is_formed c _ = true

abbrev pub method_type_is_formed : ClassFile → ClassConstant → Bool
method_type_is_formed c (constant.MethodType descriptor) = is_method_descriptor (utf8 c descriptor)
method_type_is_formed c _ = true

-- one kind creates an object, and the others that call a method don't (JVMS 4.4.8)
abbrev pub name_fits : Option ReferenceKind → List ℕ → Bool
name_fits (Some handles.GetField) name = true
name_fits (Some handles.GetStatic) name = true
name_fits (Some handles.PutField) name = true
name_fits (Some handles.PutStatic) name = true
name_fits (Some handles.NewInvokeSpecial) name = bytes_eq name init
name_fits _ name = not (bytes_eq name init || bytes_eq name clinit)

abbrev pub handle_has_name : ClassFile → ClassConstant → Bool
handle_has_name c (constant.MethodHandle kind reference) =
    name_fits (reference_kind kind) (reference_name c reference)
handle_has_name c _ = true

-- a dynamic call names one of the bootstrap methods (JVMS 4.4.10, 4.7.23)
abbrev pub dynamic_call_is_bound : ClassFile → ClassConstant → Bool
dynamic_call_is_bound c (constant.InvokeDynamic bootstrap_method name_and_type) =
    nat_lt bootstrap_method (bootstrap_count c)
dynamic_call_is_bound c _ = true
