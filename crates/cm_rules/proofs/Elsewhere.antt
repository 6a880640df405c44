-- All rules but those on duplicate members check the same of a member at any place.
-- For `first_field`, `first_method`.
use Rattle.std.proofs.Common.{◌≡◌, ℕ, refl}
use Rattle.cm_class.specs.declared.class_file.Member.{Member}
use Rattle.cm_class.specs.declared.class_file.ClassFile.{ClassFile}
use Rattle.cm_duplicates.specs.Duplicates.{first_duplicate, first_failing}
use Rattle.cm_rules.specs.declared.rule.Rule.{Rule}
use Rattle.cm_rules.specs.declared.rule.Rule.TheVariants as rules
use Rattle.cm_rules.specs.Fault.{field_constraint, field_rule, field_failing, method_constraint}
use Rattle.cm_rules.specs.Fault.{method_rule, method_failing}

module _ (c : ClassFile) where
  field_anywhere : (rule : Rule) → (rule ≡ rules.FieldTwice → ⊥) → (i : ℕ) (m : Member)
      → field_constraint rule c m ≡ field_rule rule c i m
  unfolding field_rule
  field_anywhere rules.FieldTwice other i m = absurd (other refl)
  field_anywhere _ other i m = refl

  pub field_elsewhere : (rule : Rule) → (rule ≡ rules.FieldTwice → ⊥)
      → first_failing (λ _ m. field_constraint rule c m) 0 c.fields ≡ field_failing c rule
  field_elsewhere rule other =
      (λ k. first_failing (λ i m. field_anywhere rule other i m k) 0 c.fields)

  method_anywhere : (rule : Rule) → (rule ≡ rules.MethodTwice → ⊥) → (i : ℕ) (m : Member)
      → method_constraint rule c m ≡ method_rule rule c i m
  unfolding method_rule
  method_anywhere rules.MethodTwice other i m = absurd (other refl)
  method_anywhere _ other i m = refl

  pub method_elsewhere : (rule : Rule) → (rule ≡ rules.MethodTwice → ⊥)
      → first_failing (λ _ m. method_constraint rule c m) 0 c.methods ≡ method_failing c rule
  method_elsewhere rule other =
      (λ k. first_failing (λ i m. method_anywhere rule other i m k) 0 c.methods)

  pub field_twice : (rule : Rule) → rule ≡ rules.FieldTwice
      → first_duplicate c c.fields ≡ field_failing c rule
  unfolding field_rule
  field_twice rule is = rw is refl

  pub method_twice : (rule : Rule) → rule ≡ rules.MethodTwice
      → first_duplicate c c.methods ≡ method_failing c rule
  unfolding method_rule
  method_twice rule is = rw is refl
