-- The rules in their order, the spots in theirs, and the first rule that a class breaks with the
-- first spot at which it does.
use Rattle.std.specs.Prelude.{ℕ, ◌+◌, ◌-◌, Bool, true, ◌||◌, not, List, [], ◌∷◌, ◌++◌, length, map}
use Rattle.std.specs.Prelude.{find, Option, Some, None, slice_get, option_map, ◌==◌, if◌then◌else◌}
use Rattle.std.specs.Option.{option_map_or}
use Rattle.std.specs.List.{range_with_len}
use Rattle.cm_class.specs.declared.class_file.Attribute.{Attribute as AttributeOf}
use Rattle.cm_class.specs.declared.class_file.Member.{Member}
use Rattle.cm_class.specs.declared.class_file.ClassFile.{ClassFile}
use Rattle.cm_rules.specs.declared.rule.Rule.{Rule}
use Rattle.cm_rules.specs.declared.rule.Rule.TheVariants as rules
use Rattle.cm_rules.specs.declared.rule.Spot.{Spot}
use Rattle.cm_rules.specs.declared.rule.Spot.TheVariants.{Pool, This, Super, Interface, Field}
use Rattle.cm_rules.specs.declared.rule.Spot.TheVariants.{Method, Attribute}
use Rattle.cm_rules.specs.declared.rule.Broken.{Broken}
use Rattle.cm_class.specs.declared.kind.Kind.TheVariants as kinds
use Rattle.cm_class.specs.Names.{names}
use Rattle.cm_class.specs.Spelling.{ClassConstant}
use Rattle.cm_duplicates.specs.Duplicates.{is_first, first_failing}
use Rattle.cm_constraints.specs.Flags.{class_flags_agree, field_flags_agree}
use Rattle.cm_constraints.specs.Constants.{in_slot, utf8_has_form, names_kinds, handle_has_kind}
use Rattle.cm_constraints.specs.Constants.{class_has_name, field_reference_is_formed}
use Rattle.cm_constraints.specs.Constants.{method_reference_is_formed, dynamic_call_is_formed}
use Rattle.cm_constraints.specs.Constants.{method_type_is_formed, handle_has_name}
use Rattle.cm_constraints.specs.Constants.{dynamic_call_is_bound}
use Rattle.cm_constraints.specs.Itself.{this_is_no_array, super_is_right}
use Rattle.cm_constraints.specs.Members.{names_utf8s, field_is_named, method_is_named, units_fit}
use Rattle.cm_constraints.specs.Members.{flags_fit_method, code_count_is_right, code_has_form}
use Rattle.cm_constraints.specs.Attributes.{field_attributes_are_right, method_attributes_are_right}
use Rattle.cm_constraints.specs.Attributes.{class_attribute_is_right, bootstrap_attribute_is_right}

abbrev pub number : Rule → ℕ
number rules.Utf8Form = 1
number rules.EntryKinds = 2
number rules.HandleKind = 3
number rules.ClassName = 4
number rules.FieldReference = 5
number rules.MethodReference = 6
number rules.DynamicCall = 7
number rules.MethodType = 8
number rules.HandleName = 9
number rules.ClassFlags = 10
number rules.ThisClass = 11
number rules.SuperClass = 12
number rules.FieldName = 13
number rules.FieldFlags = 14
number rules.FieldTwice = 15
number rules.MethodName = 16
number rules.MethodUnits = 17
number rules.MethodFlags = 18
number rules.MethodTwice = 19
number rules.CodeCount = 20
number rules.CodeForm = 21
number rules.MemberAttributes = 22
number rules.ClassAttributes = 23
number rules.BootstrapMethods = 24

abbrev pub all_rules : List Rule
all_rules =
    rules.Utf8Form ∷ rules.EntryKinds ∷ rules.HandleKind ∷ rules.ClassName
    ∷ rules.FieldReference ∷ rules.MethodReference ∷ rules.DynamicCall ∷ rules.MethodType
    ∷ rules.HandleName ∷ rules.ClassFlags ∷ rules.ThisClass ∷ rules.SuperClass
    ∷ rules.FieldName ∷ rules.FieldFlags ∷ rules.FieldTwice ∷ rules.MethodName
    ∷ rules.MethodUnits ∷ rules.MethodFlags ∷ rules.MethodTwice ∷ rules.CodeCount
    ∷ rules.CodeForm ∷ rules.MemberAttributes ∷ rules.ClassAttributes ∷ rules.BootstrapMethods ∷ []

-- ---- What each rule says, by the sort of spot. It says nothing about sorts that aren't listed.

-- what a rule says about a constant
unfoldable pub pool_rule : Rule → ClassFile → ClassConstant → Bool
pool_rule rules.Utf8Form c constant = utf8_has_form constant
pool_rule rules.EntryKinds c constant = names_kinds c constant
pool_rule rules.HandleKind c constant = handle_has_kind c constant
pool_rule rules.ClassName c constant = class_has_name c constant
pool_rule rules.FieldReference c constant = field_reference_is_formed c constant
pool_rule rules.MethodReference c constant = method_reference_is_formed c constant
pool_rule rules.DynamicCall c constant = dynamic_call_is_formed c constant
pool_rule rules.MethodType c constant = method_type_is_formed c constant
pool_rule rules.HandleName c constant = handle_has_name c constant
pool_rule rules.BootstrapMethods c constant = dynamic_call_is_bound c constant
pool_rule _ c constant = true

-- what a rule says about the class itself
unfoldable pub this_rule : Rule → ClassFile → Bool
this_rule rules.EntryKinds c = names kinds.Class c c.this_class
this_rule rules.ClassFlags c = class_flags_agree c.flags
this_rule rules.ThisClass c = this_is_no_array c
this_rule _ c = true

-- what a rule says about the super class
unfoldable pub super_rule : Rule → ClassFile → Bool
super_rule rules.EntryKinds c = c.super_class == 0 || names kinds.Class c c.super_class
super_rule rules.SuperClass c = super_is_right c
super_rule _ c = true

-- what a rule says about the index of an interface
unfoldable pub interface_rule : Rule → ClassFile → ℕ → Bool
interface_rule rules.EntryKinds c index = names kinds.Class c index
interface_rule _ c index = true

-- what a rule says about a field, independently of the fields before it
unfoldable pub field_constraint : Rule → ClassFile → Member → Bool
field_constraint rules.EntryKinds c m = names_utf8s c m
field_constraint rules.FieldName c m = field_is_named c m
field_constraint rules.FieldFlags c m = field_flags_agree c.flags m.flags
field_constraint rules.MemberAttributes c m = field_attributes_are_right c m
field_constraint _ c m = true

-- what a rule says about a field at a place
unfoldable pub field_rule : Rule → ClassFile → ℕ → Member → Bool
field_rule rules.FieldTwice c i m = is_first c c.fields i m
field_rule rule c i m = field_constraint rule c m

-- what a rule says about a method, independently of the methods before it
unfoldable pub method_constraint : Rule → ClassFile → Member → Bool
method_constraint rules.EntryKinds c m = names_utf8s c m
method_constraint rules.MethodName c m = method_is_named c m
method_constraint rules.MethodUnits c m = units_fit c m
method_constraint rules.MethodFlags c m = flags_fit_method c m
method_constraint rules.CodeCount c m = code_count_is_right c m
method_constraint rules.CodeForm c m = code_has_form c m
method_constraint rules.MemberAttributes c m = method_attributes_are_right c m
method_constraint _ c m = true

-- what a rule says about a method at a place
unfoldable pub method_rule : Rule → ClassFile → ℕ → Member → Bool
method_rule rules.MethodTwice c i m = is_first c c.methods i m
method_rule rule c i m = method_constraint rule c m

-- what a rule says about an attribute of the class at a place
unfoldable pub attribute_rule : Rule → ClassFile → ℕ → AttributeOf → Bool
attribute_rule rules.EntryKinds c i a = names kinds.Utf8 c a.name
attribute_rule rules.ClassAttributes c i a = class_attribute_is_right c i a
attribute_rule rules.BootstrapMethods c i a = bootstrap_attribute_is_right c i a
attribute_rule _ c i a = true

-- a test of the item at a place, if there is one
abbrev pub at_item : {A : Type 0} → List A → ℕ → (A → Bool) → Bool
at_item items i test = option_map_or test (slice_get items i) true

-- whether a class keeps a rule at a spot
abbrev pub holds : Rule → ClassFile → Spot → Bool
holds rule c (Pool i) = at_item c.slots (i - 1) (in_slot (pool_rule rule c))
holds rule c This = this_rule rule c
holds rule c Super = super_rule rule c
holds rule c (Interface i) = at_item c.interfaces i (interface_rule rule c)
holds rule c (Field i) = at_item c.fields i (field_rule rule c i)
holds rule c (Method i) = at_item c.methods i (method_rule rule c i)
holds rule c (Attribute i) = at_item c.attributes i (attribute_rule rule c i)

-- the spots of a class, in order
abbrev pub spots : ClassFile → List Spot
spots c =
    map (λ i. Pool (i + 1)) (range_with_len 0 (length c.slots)) ++ This ∷ Super ∷ []
    ++ map Interface (range_with_len 0 (length c.interfaces))
    ++ map Field (range_with_len 0 (length c.fields))
    ++ map Method (range_with_len 0 (length c.methods))
    ++ map Attribute (range_with_len 0 (length c.attributes))

-- the first spot at which a class breaks a rule
unfoldable pub broken_spot : ClassFile → Rule → Option Spot
broken_spot c rule = find (λ spot. not (holds rule c spot)) (spots c)

unfoldable pub first_of : ClassFile → List Rule → Option Broken
first_of c [] = None
first_of c (rule ∷ others) =
    option_map_or (λ spot. Some (record { rule = rule; spot = spot })) (broken_spot c rule)
    (first_of c others)

-- the first rule that a class breaks, with the first spot
unfoldable pub fault : ClassFile → Option Broken
fault c = first_of c all_rules

-- ---- The same spot, found sort by sort.

-- the first place at which a rule fails, among the spots of one sort
abbrev pub slot_failing : ClassFile → Rule → Option ℕ
slot_failing c rule = first_failing (λ i slot. in_slot (pool_rule rule c) slot) 0 c.slots

abbrev pub interface_failing : ClassFile → Rule → Option ℕ
interface_failing c rule = first_failing (λ i index. interface_rule rule c index) 0 c.interfaces

abbrev pub field_failing : ClassFile → Rule → Option ℕ
field_failing c rule = first_failing (field_rule rule c) 0 c.fields

abbrev pub method_failing : ClassFile → Rule → Option ℕ
method_failing c rule = first_failing (method_rule rule c) 0 c.methods

abbrev pub attribute_failing : ClassFile → Rule → Option ℕ
attribute_failing c rule = first_failing (attribute_rule rule c) 0 c.attributes

abbrev pub or_else : {A : Type 0} → Option A → Option A → Option A
or_else None other = other
or_else (Some x) other = Some x

unfoldable pub item_spot : ClassFile → Rule → Option Spot
item_spot c rule =
    or_else (option_map Interface (interface_failing c rule))
    (or_else (option_map Field (field_failing c rule))
    (or_else (option_map Method (method_failing c rule))
    (option_map Attribute (attribute_failing c rule))))

unfoldable pub own_spot : ClassFile → Rule → Option Spot
own_spot c rule =
    if this_rule rule c then (if super_rule rule c then None else Some Super) else Some This

abbrev pub found_spot : ClassFile → Rule → Option Spot
found_spot c rule =
    or_else (option_map (λ i. Pool (i + 1)) (slot_failing c rule))
    (or_else (own_spot c rule) (item_spot c rule))
