-- The attributes whose contents are checked, by their names (JVMS SE 8, section 4.7).
use Rattle.std.specs.Prelude.{ℕ, Bool, List, length, filter, position, unwrap_or, codes}
use Rattle.cm_class.specs.Names.{names_utf8}
use Rattle.cm_class.specs.declared.class_file.Attribute.{Attribute}
use Rattle.cm_class.specs.declared.class_file.ClassFile.{ClassFile}
use Rattle.cm_attributes.specs.declared.known.Known.{Known}
use Rattle.cm_attributes.specs.declared.known.Known.TheVariants as known

abbrev pub name_of : Known → List ℕ
name_of known.Code = codes "Code"
name_of known.ConstantValue = codes "ConstantValue"
name_of known.Exceptions = codes "Exceptions"
name_of known.Signature = codes "Signature"
name_of known.Synthetic = codes "Synthetic"
name_of known.Deprecated = codes "Deprecated"
name_of known.SourceFile = codes "SourceFile"
name_of known.EnclosingMethod = codes "EnclosingMethod"
name_of known.InnerClasses = codes "InnerClasses"
name_of known.BootstrapMethods = codes "BootstrapMethods"

-- an attribute is this one, by its name
unfoldable pub is_known : ClassFile → Known → Attribute → Bool
is_known c which a = names_utf8 c a.name (name_of which)

abbrev pub with_name : ClassFile → Known → List Attribute → List Attribute
with_name c which attributes = filter (is_known c which) attributes

abbrev pub count_of : ClassFile → Known → List Attribute → ℕ
count_of c which attributes = length (with_name c which attributes)

-- the first place of such an attribute of the class itself, or how many attributes it has
unfoldable pub first_place : ClassFile → Known → ℕ
first_place c which = unwrap_or (position (is_known c which) c.attributes) (length c.attributes)
