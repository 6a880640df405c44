-- A loop over the rules.
-- For `first_of`.
use Rattle.std.proofs.Common.{◌≡◌, ℕ, ◌+◌, ◌<◌, ◌≤◌, List, length, get_or, drop, Option, Some, None}
use Rattle.std.proofs.Common.{refl, sym, ap, ◌∙◌, add-one, drop-cons}
use Rattle.std.specs.Option.{option_map_or}
use Rattle.std.proofs.lemmas.List.{drop_all}
use Rattle.cm_class.specs.declared.class_file.ClassFile.{ClassFile}
use Rattle.cm_rules.specs.declared.rule.Rule.{Rule}
use Rattle.cm_rules.specs.declared.rule.Spot.{Spot}
use Rattle.cm_rules.specs.declared.rule.Broken.{Broken}
use Rattle.cm_rules.specs.Fault.{broken_spot, first_of}

module _ (c : ClassFile) (some_rule : Rule) where
  abbrev or_next : List Rule → ℕ → Option Spot → Option Broken
  or_next items i found =
      option_map_or (λ spot. Some (record { rule = get_or items i some_rule; spot = spot })) found
      (first_of c (drop (i + 1) items))

  at_rule : (items : List Rule) (i : ℕ) → i < length items
      → first_of c (drop i items) ≡ or_next items i (broken_spot c (get_or items i some_rule))
  unfolding first_of
  at_rule items i lt = rw (drop-cons items i some_rule lt, add-one) refl

  pub is_broken : (items : List Rule) (i : ℕ) (spot : Spot) (total : Option Broken)
      → i < length items → Some spot ≡ broken_spot c (get_or items i some_rule)
      → first_of c (drop i items) ≡ total
      → Some (record { rule = get_or items i some_rule; spot = spot }) ≡ total
  is_broken items i spot total lt h so_far =
      ap (or_next items i) h ∙ sym (at_rule items i lt) ∙ so_far

  pub is_kept : (items : List Rule) (i : ℕ) (total : Option Broken) → i < length items
      → None ≡ broken_spot c (get_or items i some_rule) → first_of c (drop i items) ≡ total
      → first_of c (drop (i + 1) items) ≡ total
  is_kept items i total lt h so_far = ap (or_next items i) h ∙ sym (at_rule items i lt) ∙ so_far

  pub all_kept : (items : List Rule) (i : ℕ) (total : Option Broken) → length items ≤ i
      → first_of c (drop i items) ≡ total → None ≡ total
  unfolding first_of
  all_kept items i total le so_far = ap (first_of c) (sym (drop_all i items le)) ∙ so_far
