-- What one pass over a class checks for each of its parts: everything that the rules say about a
-- part of its sort.
use Rattle.std.specs.Prelude.{ℕ, Bool, ◌&&◌, List, drop}
use Rattle.std.specs.List.{list_all}
use Rattle.cm_class.specs.declared.class_file.Attribute.{Attribute}
use Rattle.cm_class.specs.declared.class_file.Member.{Member}
use Rattle.cm_class.specs.declared.class_file.ClassFile.{ClassFile}
use Rattle.cm_class.specs.Spelling.{ClassConstant}
use Rattle.cm_rules.specs.declared.rule.Rule.{Rule}
use Rattle.cm_rules.specs.Fault.{all_rules, pool_rule, this_rule, super_rule, interface_rule}
use Rattle.cm_rules.specs.Fault.{attribute_rule}
use Rattle.cm_constraints.specs.Flags.{field_flags_agree}
use Rattle.cm_constraints.specs.Members.{names_utf8s, field_is_named, method_is_named, units_fit}
use Rattle.cm_constraints.specs.Members.{flags_fit_method, code_count_is_right, code_has_form}
use Rattle.cm_constraints.specs.Attributes.{field_attributes_are_right, method_attributes_are_right}

-- all rules but the first, which concerns Utf8s alone
abbrev pub later_rules : List Rule
later_rules = drop 1 all_rules

unfoldable pub constant_keeps : ClassFile → ClassConstant → Bool
constant_keeps c constant = list_all (λ rule. pool_rule rule c constant) later_rules

unfoldable pub this_keeps : ClassFile → Bool
this_keeps c = list_all (λ rule. this_rule rule c) all_rules

unfoldable pub super_keeps : ClassFile → Bool
super_keeps c = list_all (λ rule. super_rule rule c) all_rules

unfoldable pub interface_keeps : ClassFile → ℕ → Bool
interface_keeps c index = list_all (λ rule. interface_rule rule c index) all_rules

-- the rules on a field, except that no other field is the same
unfoldable pub field_keeps : ClassFile → Member → Bool
field_keeps c m =
    names_utf8s c m
    && (field_is_named c m && (field_flags_agree c.flags m.flags && field_attributes_are_right c m))

-- the rules on a method, except that no other method is the same
unfoldable pub method_keeps : ClassFile → Member → Bool
method_keeps c m =
    names_utf8s c m && (method_is_named c m && (units_fit c m && (flags_fit_method c m
    && (code_count_is_right c m && (code_has_form c m && method_attributes_are_right c m)))))

unfoldable pub attribute_keeps : ClassFile → ℕ → Attribute → Bool
attribute_keeps c i a = list_all (λ rule. attribute_rule rule c i a) all_rules
