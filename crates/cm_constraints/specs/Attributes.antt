-- What the rules require of the attributes of fields, methods and the class (JVMS SE 8, section
-- 4.7).
use Rattle.std.specs.Prelude.{ℕ, Bool, ◌&&◌, ◌||◌, not, List, [], ◌∷◌, nat_le}
use Rattle.std.specs.List.{list_all}
use Rattle.cm_class.specs.Names.{utf8}
use Rattle.cm_class.specs.declared.class_file.Attribute.{Attribute}
use Rattle.cm_class.specs.declared.class_file.Member.{Member}
use Rattle.cm_class.specs.declared.class_file.ClassFile.{ClassFile}
use Rattle.cm_attributes.specs.declared.known.Known.{Known}
use Rattle.cm_attributes.specs.declared.known.Known.TheVariants as known
use Rattle.cm_attributes.specs.Names.{is_known, count_of, with_name, first_place}
use Rattle.cm_attributes.specs.Contents.{is_content, is_value_of}
use Rattle.cm_constraints.specs.Flags.{acc_static, has, implies}

-- if an attribute is one of these by its name, it has that one's content
abbrev pub has_content_of : ClassFile → List Known → Attribute → Bool
has_content_of c among a =
    list_all (λ which. implies (is_known c which a) (is_content c which a.bytes)) among

-- ---- of members

abbrev pub of_field : List Known
of_field = known.ConstantValue ∷ known.Signature ∷ known.Synthetic ∷ known.Deprecated ∷ []

abbrev pub of_method : List Known
of_method = known.Exceptions ∷ known.Signature ∷ known.Synthetic ∷ known.Deprecated ∷ []

-- each ConstantValue is a value of this descriptor's type (JVMS 4.7.2)
abbrev pub are_values_of : ClassFile → List ℕ → List Attribute → Bool
are_values_of c descriptor attributes =
    list_all (λ a. is_value_of c descriptor a.bytes) (with_name c known.ConstantValue attributes)

-- the value of a static field is one of the field's type
abbrev pub values_agree : ClassFile → Member → Bool
values_agree c m =
    not (has m.flags acc_static) || are_values_of c (utf8 c m.descriptor) m.attributes

abbrev pub field_attributes_are_right : ClassFile → Member → Bool
field_attributes_are_right c m =
    nat_le (count_of c known.ConstantValue m.attributes) 1
    && list_all (has_content_of c of_field) m.attributes && values_agree c m

abbrev pub method_attributes_are_right : ClassFile → Member → Bool
method_attributes_are_right c m =
    nat_le (count_of c known.Exceptions m.attributes) 1
    && list_all (has_content_of c of_method) m.attributes

-- ---- of the class

abbrev pub once_in_class : List Known
once_in_class = known.SourceFile ∷ known.EnclosingMethod ∷ known.InnerClasses ∷ []

abbrev pub of_class : List Known
of_class =
    known.SourceFile ∷ known.EnclosingMethod ∷ known.InnerClasses ∷ known.Signature
    ∷ known.Synthetic ∷ known.Deprecated ∷ []

-- an attribute at a place is none of these, or the first of its name
abbrev pub is_first_of : ClassFile → List Known → ℕ → Attribute → Bool
is_first_of c among i a =
    list_all (λ which. implies (is_known c which a) (nat_le i (first_place c which))) among

abbrev pub class_attribute_is_right : ClassFile → ℕ → Attribute → Bool
class_attribute_is_right c i a = is_first_of c once_in_class i a && has_content_of c of_class a

abbrev pub bootstrap_attribute_is_right : ClassFile → ℕ → Attribute → Bool
bootstrap_attribute_is_right c i a =
    is_first_of c (known.BootstrapMethods ∷ []) i a
    && has_content_of c (known.BootstrapMethods ∷ []) a
