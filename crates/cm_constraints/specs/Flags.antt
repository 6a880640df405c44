-- The access flags, and which combinations agree (JVMS SE 8, tables 4.1-A, 4.5-A and 4.6-A).
use Rattle.std.specs.Prelude.{ℕ, ◌+◌, Bool, not, ◌&&◌, ◌||◌, ◌==◌, nat_le, bit_and, if◌then◌else◌}

abbrev pub acc_public : ℕ
acc_public = 0x0001

abbrev pub acc_private : ℕ
acc_private = 0x0002

abbrev pub acc_protected : ℕ
acc_protected = 0x0004

abbrev pub acc_static : ℕ
acc_static = 0x0008

abbrev pub acc_final : ℕ
acc_final = 0x0010

-- for a class
abbrev pub acc_super : ℕ
acc_super = 0x0020

-- for a method
abbrev pub acc_synchronized : ℕ
acc_synchronized = 0x0020

-- for a field
abbrev pub acc_volatile : ℕ
acc_volatile = 0x0040

-- for a method
abbrev pub acc_bridge : ℕ
acc_bridge = 0x0040

-- for a field
abbrev pub acc_transient : ℕ
acc_transient = 0x0080

abbrev pub acc_native : ℕ
acc_native = 0x0100

abbrev pub acc_interface : ℕ
acc_interface = 0x0200

abbrev pub acc_abstract : ℕ
acc_abstract = 0x0400

abbrev pub acc_strict : ℕ
acc_strict = 0x0800

abbrev pub acc_annotation : ℕ
acc_annotation = 0x2000

abbrev pub acc_enum : ℕ
acc_enum = 0x4000

-- a flag is set; for several flags, added up, at least one is
abbrev pub has : ℕ → ℕ → Bool
has flags some = not (bit_and flags some == 0)

-- the first doesn't hold, or both do
abbrev pub implies : Bool → Bool → Bool
implies a b = not a || b

abbrev pub one_if : Bool → ℕ
one_if b = if b then 1 else 0

-- how many of public, private and protected are set
abbrev pub visibilities : ℕ → ℕ
visibilities flags =
    one_if (has flags acc_public) + one_if (has flags acc_private) + one_if
    (has flags acc_protected)

-- ---- flags of a class (JVMS 4.1)

abbrev pub not_of_interface : ℕ
not_of_interface = acc_final + acc_super + acc_enum

unfoldable pub class_flags_agree : ℕ → Bool
class_flags_agree flags =
    if has flags acc_interface
    then has flags acc_abstract && not (has flags not_of_interface)
    else not (has flags acc_annotation) && not (has flags acc_final && has flags acc_abstract)

-- ---- flags of a field (JVMS 4.5)

abbrev pub not_of_interface_field : ℕ
not_of_interface_field = acc_private + acc_protected + acc_volatile + acc_transient + acc_enum

unfoldable pub interface_field_agrees : ℕ → Bool
interface_field_agrees flags =
    has flags acc_public && has flags acc_static && has flags acc_final
    && not (has flags not_of_interface_field)

-- a field's flags agree, in a class of these flags
unfoldable pub field_flags_agree : ℕ → ℕ → Bool
field_flags_agree of_class flags =
    nat_le (visibilities flags) 1 && not (has flags acc_final && has flags acc_volatile)
    && implies (has of_class acc_interface) (interface_field_agrees flags)

-- ---- flags of a method (JVMS 4.6)

abbrev pub not_with_abstract : ℕ
not_with_abstract =
    acc_private + acc_static + acc_final + acc_synchronized + acc_native + acc_strict

abbrev pub not_of_interface_method : ℕ
not_of_interface_method = acc_protected + acc_final + acc_synchronized + acc_native

abbrev pub not_of_constructor : ℕ
not_of_constructor =
    acc_static + acc_final + acc_synchronized + acc_bridge + acc_native + acc_abstract

unfoldable pub interface_method_agrees : ℕ → Bool
interface_method_agrees flags =
    one_if (has flags acc_public) + one_if (has flags acc_private) == 1
    && not (has flags not_of_interface_method)

-- a method's flags agree, in a class of these flags
unfoldable pub method_flags_agree : ℕ → ℕ → Bool
method_flags_agree of_class flags =
    nat_le (visibilities flags) 1
    && implies (has flags acc_abstract) (not (has flags not_with_abstract))
    && implies (has of_class acc_interface) (interface_method_agrees flags)

-- required of a constructor in addition
abbrev pub constructor_flags_agree : ℕ → Bool
constructor_flags_agree flags = not (has flags not_of_constructor)
