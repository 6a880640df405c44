-- The definitions computed on small classes.
use Rattle.std.proofs.Common.{◌≡◌, ℕ, List, [], ◌∷◌, ◌++◌, replicate, Option, Some, None, refl}
use Rattle.std.specs.Prelude.{codes}
use Rattle.cm_class.specs.declared.constant.Constant.TheVariants as constant
use Rattle.cm_class.specs.declared.constant.Slot.{Slot}
use Rattle.cm_class.specs.declared.constant.Slot.TheVariants.{Usable, Unusable}
use Rattle.cm_class.specs.declared.class_file.Attribute.{Attribute as AttributeOf}
use Rattle.cm_class.specs.declared.class_file.Member.{Member}
use Rattle.cm_class.specs.declared.class_file.ClassFile.{ClassFile}
use Rattle.cm_rules.specs.declared.rule.Rule.{Rule}
use Rattle.cm_rules.specs.declared.rule.Rule.TheVariants as rules
use Rattle.cm_rules.specs.declared.rule.Spot.{Spot}
use Rattle.cm_rules.specs.declared.rule.Spot.TheVariants.{Pool, This, Super, Interface, Field}
use Rattle.cm_rules.specs.declared.rule.Spot.TheVariants.{Method, Attribute}
use Rattle.cm_rules.specs.declared.rule.Broken.{Broken}
use Rattle.cm_descriptors.specs.Forms.{has_utf8_form_after, has_utf8_form, is_class_name_from}
use Rattle.cm_descriptors.specs.Forms.{is_class_name, name_after, after_class, after_field}
use Rattle.cm_descriptors.specs.Forms.{is_unqualified_name, is_method_name, is_field_descriptor}
use Rattle.cm_descriptors.specs.Forms.{parameters, method_units}
use Rattle.cm_attributes.specs.Names.{is_known, first_place}
use Rattle.cm_attributes.specs.Contents.{past_parts, past_many, code_of, value_kind, is_content}
use Rattle.cm_attributes.specs.Contents.{bootstrap_count}
use Rattle.cm_constraints.specs.Flags.{class_flags_agree, interface_field_agrees, field_flags_agree}
use Rattle.cm_constraints.specs.Flags.{interface_method_agrees, method_flags_agree}
use Rattle.cm_constraints.specs.Itself.{object}
use Rattle.cm_rules.specs.Fault.{fault, first_of, broken_spot, pool_rule, this_rule, super_rule}
use Rattle.cm_rules.specs.Fault.{interface_rule, field_constraint, field_rule, method_constraint}
use Rattle.cm_rules.specs.Fault.{method_rule, attribute_rule}

abbrev four : List Slot
four = Usable (constant.Class 2) ∷ Usable (constant.Utf8 (codes "A")) ∷ Usable (constant.Class 4)
    ∷ Usable (constant.Utf8 object) ∷ []

abbrev with_slots : List Slot → ClassFile
with_slots slots =
    record {
      slots =
          slots;
      flags =
          0x21;
      this_class =
          1;
      super_class = 3;
      interfaces = [];
      fields = [];
      methods = [];
      attributes = [];
    }

abbrev class_a : ClassFile
class_a = with_slots four

abbrev broken : Rule → Spot → Option Broken
broken rule spot = Some (record { rule = rule; spot = spot })

a_is_right : fault class_a ≡ None
unfolding fault first_of broken_spot pool_rule this_rule super_rule interface_rule field_constraint
    field_rule method_constraint method_rule attribute_rule class_flags_agree interface_field_agrees
    field_flags_agree interface_method_agrees method_flags_agree is_known first_place past_parts
    past_many code_of value_kind is_content bootstrap_count has_utf8_form_after has_utf8_form
    is_class_name_from is_class_name name_after after_class after_field is_unqualified_name
    is_method_name is_field_descriptor parameters method_units
a_is_right = refl

flags_0221 : fault (record class_a { flags = 0x221 }) ≡ broken rules.ClassFlags This
unfolding fault first_of broken_spot pool_rule this_rule super_rule interface_rule field_constraint
    field_rule method_constraint method_rule attribute_rule class_flags_agree interface_field_agrees
    field_flags_agree interface_method_agrees method_flags_agree is_known first_place past_parts
    past_many code_of value_kind is_content bootstrap_count has_utf8_form_after has_utf8_form
    is_class_name_from is_class_name name_after after_class after_field is_unqualified_name
    is_method_name is_field_descriptor parameters method_units
flags_0221 = refl

flags_0430 : fault (record class_a { flags = 0x430 }) ≡ broken rules.ClassFlags This
unfolding fault first_of broken_spot pool_rule this_rule super_rule interface_rule field_constraint
    field_rule method_constraint method_rule attribute_rule class_flags_agree interface_field_agrees
    field_flags_agree interface_method_agrees method_flags_agree is_known first_place past_parts
    past_many code_of value_kind is_content bootstrap_count has_utf8_form_after has_utf8_form
    is_class_name_from is_class_name name_after after_class after_field is_unqualified_name
    is_method_name is_field_descriptor parameters method_units
flags_0430 = refl

flags_0601 : fault (record class_a { flags = 0x601 }) ≡ None
unfolding fault first_of broken_spot pool_rule this_rule super_rule interface_rule field_constraint
    field_rule method_constraint method_rule attribute_rule class_flags_agree interface_field_agrees
    field_flags_agree interface_method_agrees method_flags_agree is_known first_place past_parts
    past_many code_of value_kind is_content bootstrap_count has_utf8_form_after has_utf8_form
    is_class_name_from is_class_name name_after after_class after_field is_unqualified_name
    is_method_name is_field_descriptor parameters method_units
flags_0601 = refl

no_super : fault (record class_a { super_class = 0 }) ≡ broken rules.SuperClass Super
unfolding fault first_of broken_spot pool_rule this_rule super_rule interface_rule field_constraint
    field_rule method_constraint method_rule attribute_rule class_flags_agree interface_field_agrees
    field_flags_agree interface_method_agrees method_flags_agree is_known first_place past_parts
    past_many code_of value_kind is_content bootstrap_count has_utf8_form_after has_utf8_form
    is_class_name_from is_class_name name_after after_class after_field is_unqualified_name
    is_method_name is_field_descriptor parameters method_units
no_super = refl

interface_2 : fault (record class_a { interfaces = 2 ∷ [] }) ≡ broken rules.EntryKinds (Interface 0)
unfolding fault first_of broken_spot pool_rule this_rule super_rule interface_rule field_constraint
    field_rule method_constraint method_rule attribute_rule class_flags_agree interface_field_agrees
    field_flags_agree interface_method_agrees method_flags_agree is_known first_place past_parts
    past_many code_of value_kind is_content bootstrap_count has_utf8_form_after has_utf8_form
    is_class_name_from is_class_name name_after after_class after_field is_unqualified_name
    is_method_name is_field_descriptor parameters method_units
interface_2 = refl

this_unusable : fault
    (record (with_slots (four ++ Usable (constant.Long 0) ∷ Unusable ∷ [])) { this_class = 6 })
    ≡ broken rules.EntryKinds This
unfolding fault first_of broken_spot pool_rule this_rule super_rule interface_rule field_constraint
    field_rule method_constraint method_rule attribute_rule class_flags_agree interface_field_agrees
    field_flags_agree interface_method_agrees method_flags_agree is_known first_place past_parts
    past_many code_of value_kind is_content bootstrap_count has_utf8_form_after has_utf8_form
    is_class_name_from is_class_name name_after after_class after_field is_unqualified_name
    is_method_name is_field_descriptor parameters method_units
this_unusable = refl

abbrev fifth : List ℕ → ClassFile
fifth bytes = with_slots (four ++ Usable (constant.Utf8 bytes) ∷ [])

text_00 : fault (fifth (0 ∷ [])) ≡ broken rules.Utf8Form (Pool 5)
unfolding fault first_of broken_spot pool_rule this_rule super_rule interface_rule field_constraint
    field_rule method_constraint method_rule attribute_rule class_flags_agree interface_field_agrees
    field_flags_agree interface_method_agrees method_flags_agree is_known first_place past_parts
    past_many code_of value_kind is_content bootstrap_count has_utf8_form_after has_utf8_form
    is_class_name_from is_class_name name_after after_class after_field is_unqualified_name
    is_method_name is_field_descriptor parameters method_units
text_00 = refl

text_C080 : fault (fifth (0xC0 ∷ 0x80 ∷ [])) ≡ None
unfolding fault first_of broken_spot pool_rule this_rule super_rule interface_rule field_constraint
    field_rule method_constraint method_rule attribute_rule class_flags_agree interface_field_agrees
    field_flags_agree interface_method_agrees method_flags_agree is_known first_place past_parts
    past_many code_of value_kind is_content bootstrap_count has_utf8_form_after has_utf8_form
    is_class_name_from is_class_name name_after after_class after_field is_unqualified_name
    is_method_name is_field_descriptor parameters method_units
text_C080 = refl

text_F0 : fault (fifth (0xF0 ∷ [])) ≡ broken rules.Utf8Form (Pool 5)
unfolding fault first_of broken_spot pool_rule this_rule super_rule interface_rule field_constraint
    field_rule method_constraint method_rule attribute_rule class_flags_agree interface_field_agrees
    field_flags_agree interface_method_agrees method_flags_agree is_known first_place past_parts
    past_many code_of value_kind is_content bootstrap_count has_utf8_form_after has_utf8_form
    is_class_name_from is_class_name name_after after_class after_field is_unqualified_name
    is_method_name is_field_descriptor parameters method_units
text_F0 = refl

text_empty : fault (fifth []) ≡ None
unfolding fault first_of broken_spot pool_rule this_rule super_rule interface_rule field_constraint
    field_rule method_constraint method_rule attribute_rule class_flags_agree interface_field_agrees
    field_flags_agree interface_method_agrees method_flags_agree is_known first_place past_parts
    past_many code_of value_kind is_content bootstrap_count has_utf8_form_after has_utf8_form
    is_class_name_from is_class_name name_after after_class after_field is_unqualified_name
    is_method_name is_field_descriptor parameters method_units
text_empty = refl

class_index_1 : fault
    (with_slots (Usable (constant.Class 1) ∷ Usable (constant.Utf8 (codes "A"))
    ∷ Usable (constant.Class 4) ∷ Usable (constant.Utf8 object) ∷ []))
    ≡ broken rules.EntryKinds (Pool 1)
unfolding fault first_of broken_spot pool_rule this_rule super_rule interface_rule field_constraint
    field_rule method_constraint method_rule attribute_rule class_flags_agree interface_field_agrees
    field_flags_agree interface_method_agrees method_flags_agree is_known first_place past_parts
    past_many code_of value_kind is_content bootstrap_count has_utf8_form_after has_utf8_form
    is_class_name_from is_class_name name_after after_class after_field is_unqualified_name
    is_method_name is_field_descriptor parameters method_units
class_index_1 = refl

class_index_FFFF : fault
    (with_slots (Usable (constant.Class 2) ∷ Usable (constant.Utf8 (codes "A"))
    ∷ Usable (constant.Class 0xFFFF) ∷ Usable (constant.Utf8 object) ∷ []))
    ≡ broken rules.EntryKinds (Pool 3)
unfolding fault first_of broken_spot pool_rule this_rule super_rule interface_rule field_constraint
    field_rule method_constraint method_rule attribute_rule class_flags_agree interface_field_agrees
    field_flags_agree interface_method_agrees method_flags_agree is_known first_place past_parts
    past_many code_of value_kind is_content bootstrap_count has_utf8_form_after has_utf8_form
    is_class_name_from is_class_name name_after after_class after_field is_unqualified_name
    is_method_name is_field_descriptor parameters method_units
class_index_FFFF = refl

abbrev member : ℕ → List AttributeOf → Member
member flags attributes =
    record { flags = flags; name = 2; descriptor = 5; attributes = attributes }

two_fields : fault (record (fifth (codes "I")) { fields = member 1 [] ∷ member 2 [] ∷ [] })
    ≡ broken rules.FieldTwice (Field 1)
unfolding fault first_of broken_spot pool_rule this_rule super_rule interface_rule field_constraint
    field_rule method_constraint method_rule attribute_rule class_flags_agree interface_field_agrees
    field_flags_agree interface_method_agrees method_flags_agree is_known first_place past_parts
    past_many code_of value_kind is_content bootstrap_count has_utf8_form_after has_utf8_form
    is_class_name_from is_class_name name_after after_class after_field is_unqualified_name
    is_method_name is_field_descriptor parameters method_units
two_fields = refl

dimensions_255 : fault (record (fifth (replicate 255 91 ++ 73 ∷ [])) { fields = member 1 [] ∷ [] })
    ≡ None
unfolding fault first_of broken_spot pool_rule this_rule super_rule interface_rule field_constraint
    field_rule method_constraint method_rule attribute_rule class_flags_agree interface_field_agrees
    field_flags_agree interface_method_agrees method_flags_agree is_known first_place past_parts
    past_many code_of value_kind is_content bootstrap_count has_utf8_form_after has_utf8_form
    is_class_name_from is_class_name name_after after_class after_field is_unqualified_name
    is_method_name is_field_descriptor parameters method_units
dimensions_255 = refl

dimensions_256 : fault (record (fifth (replicate 256 91 ++ 73 ∷ [])) { fields = member 1 [] ∷ [] })
    ≡ broken rules.FieldName (Field 0)
unfolding fault first_of broken_spot pool_rule this_rule super_rule interface_rule field_constraint
    field_rule method_constraint method_rule attribute_rule class_flags_agree interface_field_agrees
    field_flags_agree interface_method_agrees method_flags_agree is_known first_place past_parts
    past_many code_of value_kind is_content bootstrap_count has_utf8_form_after has_utf8_form
    is_class_name_from is_class_name name_after after_class after_field is_unqualified_name
    is_method_name is_field_descriptor parameters method_units
dimensions_256 = refl

native_255 : fault
    (record (fifth (40 ∷ replicate 255 73 ++ codes ")V")) { methods = member 0x108 [] ∷ [] }) ≡ None
unfolding fault first_of broken_spot pool_rule this_rule super_rule interface_rule field_constraint
    field_rule method_constraint method_rule attribute_rule class_flags_agree interface_field_agrees
    field_flags_agree interface_method_agrees method_flags_agree is_known first_place past_parts
    past_many code_of value_kind is_content bootstrap_count has_utf8_form_after has_utf8_form
    is_class_name_from is_class_name name_after after_class after_field is_unqualified_name
    is_method_name is_field_descriptor parameters method_units
native_255 = refl

receiver_255 : fault
    (record (fifth (40 ∷ replicate 255 73 ++ codes ")V")) { methods = member 0x100 [] ∷ [] })
    ≡ broken rules.MethodUnits (Method 0)
unfolding fault first_of broken_spot pool_rule this_rule super_rule interface_rule field_constraint
    field_rule method_constraint method_rule attribute_rule class_flags_agree interface_field_agrees
    field_flags_agree interface_method_agrees method_flags_agree is_known first_place past_parts
    past_many code_of value_kind is_content bootstrap_count has_utf8_form_after has_utf8_form
    is_class_name_from is_class_name name_after after_class after_field is_unqualified_name
    is_method_name is_field_descriptor parameters method_units
receiver_255 = refl

units_256 : fault
    (record (fifth (40 ∷ replicate 128 74 ++ codes ")V")) { methods = member 0x108 [] ∷ [] })
    ≡ broken rules.MethodName (Method 0)
unfolding fault first_of broken_spot pool_rule this_rule super_rule interface_rule field_constraint
    field_rule method_constraint method_rule attribute_rule class_flags_agree interface_field_agrees
    field_flags_agree interface_method_agrees method_flags_agree is_known first_place past_parts
    past_many code_of value_kind is_content bootstrap_count has_utf8_form_after has_utf8_form
    is_class_name_from is_class_name name_after after_class after_field is_unqualified_name
    is_method_name is_field_descriptor parameters method_units
units_256 = refl

abbrev with_code : List ℕ → ClassFile
with_code bytes =
    record (with_slots
    (four ++ Usable (constant.Utf8 (codes "()V")) ∷ Usable (constant.Utf8 (codes "Code")) ∷ [])) {
      methods = member 1 (record { name = 6; bytes = bytes } ∷ []) ∷ [];
    }

one_byte_of_code : fault (with_code (0 ∷ 0 ∷ 0 ∷ 0 ∷ 0 ∷ 0 ∷ 0 ∷ 1 ∷ 177 ∷ 0 ∷ 0 ∷ 0 ∷ 0 ∷ []))
    ≡ None
unfolding fault first_of broken_spot pool_rule this_rule super_rule interface_rule field_constraint
    field_rule method_constraint method_rule attribute_rule class_flags_agree interface_field_agrees
    field_flags_agree interface_method_agrees method_flags_agree is_known first_place past_parts
    past_many code_of value_kind is_content bootstrap_count has_utf8_form_after has_utf8_form
    is_class_name_from is_class_name name_after after_class after_field is_unqualified_name
    is_method_name is_field_descriptor parameters method_units
one_byte_of_code = refl

no_code_bytes : fault (with_code (0 ∷ 0 ∷ 0 ∷ 0 ∷ 0 ∷ 0 ∷ 0 ∷ 0 ∷ 0 ∷ 0 ∷ 0 ∷ 0 ∷ []))
    ≡ broken rules.CodeForm (Method 0)
unfolding fault first_of broken_spot pool_rule this_rule super_rule interface_rule field_constraint
    field_rule method_constraint method_rule attribute_rule class_flags_agree interface_field_agrees
    field_flags_agree interface_method_agrees method_flags_agree is_known first_place past_parts
    past_many code_of value_kind is_content bootstrap_count has_utf8_form_after has_utf8_form
    is_class_name_from is_class_name name_after after_class after_field is_unqualified_name
    is_method_name is_field_descriptor parameters method_units
no_code_bytes = refl

handler_of_nothing : fault
    (with_code (0 ∷ 0 ∷ 0 ∷ 0 ∷ 0 ∷ 0 ∷ 0 ∷ 1 ∷ 177 ∷ 0 ∷ 1 ∷ 0 ∷ 0 ∷ 0 ∷ 0 ∷ 0 ∷ 0 ∷ 0 ∷ 0 ∷ 0 ∷ 0
    ∷ [])) ≡ broken rules.CodeForm (Method 0)
unfolding fault first_of broken_spot pool_rule this_rule super_rule interface_rule field_constraint
    field_rule method_constraint method_rule attribute_rule class_flags_agree interface_field_agrees
    field_flags_agree interface_method_agrees method_flags_agree is_known first_place past_parts
    past_many code_of value_kind is_content bootstrap_count has_utf8_form_after has_utf8_form
    is_class_name_from is_class_name name_after after_class after_field is_unqualified_name
    is_method_name is_field_descriptor parameters method_units
handler_of_nothing = refl

handler_of_one : fault
    (with_code (0 ∷ 0 ∷ 0 ∷ 0 ∷ 0 ∷ 0 ∷ 0 ∷ 1 ∷ 177 ∷ 0 ∷ 1 ∷ 0 ∷ 0 ∷ 0 ∷ 1 ∷ 0 ∷ 0 ∷ 0 ∷ 0 ∷ 0 ∷ 0
    ∷ [])) ≡ None
unfolding fault first_of broken_spot pool_rule this_rule super_rule interface_rule field_constraint
    field_rule method_constraint method_rule attribute_rule class_flags_agree interface_field_agrees
    field_flags_agree interface_method_agrees method_flags_agree is_known first_place past_parts
    past_many code_of value_kind is_content bootstrap_count has_utf8_form_after has_utf8_form
    is_class_name_from is_class_name name_after after_class after_field is_unqualified_name
    is_method_name is_field_descriptor parameters method_units
handler_of_one = refl

source_file_0 : fault
    (record (fifth (codes "SourceFile")) {
      attributes =
          record { name = 5; bytes = 0 ∷ 0 ∷ [] } ∷ [];
    }) ≡ broken rules.ClassAttributes (Attribute 0)
unfolding fault first_of broken_spot pool_rule this_rule super_rule interface_rule field_constraint
    field_rule method_constraint method_rule attribute_rule class_flags_agree interface_field_agrees
    field_flags_agree interface_method_agrees method_flags_agree is_known first_place past_parts
    past_many code_of value_kind is_content bootstrap_count has_utf8_form_after has_utf8_form
    is_class_name_from is_class_name name_after after_class after_field is_unqualified_name
    is_method_name is_field_descriptor parameters method_units
source_file_0 = refl

source_file_twice : fault
    (record (fifth (codes "SourceFile")) {
      attributes =
          record { name = 5; bytes = 0 ∷ 2 ∷ [] } ∷ record { name = 5; bytes = 0 ∷ 2 ∷ [] } ∷ [];
    })
    ≡ broken rules.ClassAttributes (Attribute 1)
unfolding fault first_of broken_spot pool_rule this_rule super_rule interface_rule field_constraint
    field_rule method_constraint method_rule attribute_rule class_flags_agree interface_field_agrees
    field_flags_agree interface_method_agrees method_flags_agree is_known first_place past_parts
    past_many code_of value_kind is_content bootstrap_count has_utf8_form_after has_utf8_form
    is_class_name_from is_class_name name_after after_class after_field is_unqualified_name
    is_method_name is_field_descriptor parameters method_units
source_file_twice = refl
