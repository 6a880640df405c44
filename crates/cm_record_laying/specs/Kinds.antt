-- Which kinds of constant are laid in the same way.
use Rattle.std.specs.Prelude.{Bool, true, false}
use Rattle.cm_class.specs.declared.kind.Kind.{Kind}
use Rattle.cm_class.specs.declared.kind.Kind.TheVariants as kinds

-- those of 32 bits
abbrev pub has_bits : Kind → Bool
has_bits kinds.Integer = true
has_bits kinds.Float = true
has_bits _ = false

-- those of one index
abbrev pub has_index : Kind → Bool
has_index kinds.Class = true
has_index kinds.String = true
has_index kinds.MethodType = true
has_index _ = false

-- those of two indexes
abbrev pub has_pair : Kind → Bool
has_pair kinds.Fieldref = true
has_pair kinds.Methodref = true
has_pair kinds.InterfaceMethodref = true
has_pair kinds.NameAndType = true
has_pair kinds.InvokeDynamic = true
has_pair _ = false
