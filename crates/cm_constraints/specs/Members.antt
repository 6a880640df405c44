-- What the rules require of one field or method (JVMS SE 8, sections 4.5 and 4.6). Each definition
-- presupposes that those above it hold.
use Rattle.std.specs.Prelude.{◌+◌, Bool, false, ◌&&◌, ◌||◌, nat_le, bytes_eq, ◌==◌, if◌then◌else◌}
use Rattle.std.specs.Option.{option_map_or}
use Rattle.std.specs.List.{list_all}
use Rattle.cm_class.specs.Names.{names, utf8}
use Rattle.cm_class.specs.declared.kind.Kind.TheVariants as kinds
use Rattle.cm_class.specs.declared.class_file.Member.{Member}
use Rattle.cm_class.specs.declared.class_file.ClassFile.{ClassFile}
use Rattle.cm_descriptors.specs.Forms.{is_unqualified_name, is_method_name, is_field_descriptor}
use Rattle.cm_descriptors.specs.Forms.{is_method_descriptor, method_units, init, clinit}
use Rattle.cm_attributes.specs.declared.known.Known.TheVariants as known
use Rattle.cm_attributes.specs.Names.{count_of, with_name}
use Rattle.cm_attributes.specs.Contents.{is_content}
use Rattle.cm_constraints.specs.Flags.{acc_static, acc_native, acc_abstract, has, implies}
use Rattle.cm_constraints.specs.Flags.{method_flags_agree, constructor_flags_agree}

-- the name and the descriptor of a member, and the names of its attributes, are Utf8s
abbrev pub names_utf8s : ClassFile → Member → Bool
names_utf8s c m =
    names kinds.Utf8 c m.name && names kinds.Utf8 c m.descriptor
    && list_all (λ a. names kinds.Utf8 c a.name) m.attributes

abbrev pub field_is_named : ClassFile → Member → Bool
field_is_named c m =
    is_unqualified_name (utf8 c m.name) && is_field_descriptor (utf8 c m.descriptor)

-- ---- methods

abbrev pub method_is_named : ClassFile → Member → Bool
method_is_named c m = is_method_name (utf8 c m.name) && is_method_descriptor (utf8 c m.descriptor)

abbrev pub is_clinit : ClassFile → Member → Bool
is_clinit c m = bytes_eq (utf8 c m.name) clinit

abbrev pub is_init : ClassFile → Member → Bool
is_init c m = bytes_eq (utf8 c m.name) init

-- with its receiver a method takes at most 255 units (JVMS 4.3.3)
abbrev pub units_fit : ClassFile → Member → Bool
units_fit c m =
    has m.flags acc_static || is_clinit c m
    || option_map_or (λ n. nat_le n 254) (method_units (utf8 c m.descriptor)) false

abbrev pub flags_fit_method : ClassFile → Member → Bool
flags_fit_method c m =
    is_clinit c m
    || (method_flags_agree c.flags m.flags
    && implies (is_init c m) (constructor_flags_agree m.flags))

-- how many codes a method has (JVMS 4.7.3)
abbrev pub code_count_is_right : ClassFile → Member → Bool
code_count_is_right c m =
    (if is_clinit c m then nat_le (count_of c known.Code m.attributes) 1
    else if has m.flags (acc_native + acc_abstract) then count_of c known.Code m.attributes == 0
    else count_of c known.Code m.attributes == 1)

abbrev pub code_has_form : ClassFile → Member → Bool
code_has_form c m =
    list_all (λ a. is_content c known.Code a.bytes) (with_name c known.Code m.attributes)
