-- What the first fault of a class means, in the order of rules and of spots.
use Rattle.std.specs.Prelude.{◌≡◌, true, false, List, ◌∷◌, ◌++◌}
use Rattle.std.specs.List.{AllByRecursion}
use Rattle.cm_class.specs.declared.class_file.ClassFile.{ClassFile}
use Rattle.cm_rules.specs.declared.rule.Rule.{Rule}
use Rattle.cm_rules.specs.declared.rule.Spot.{Spot}
use Rattle.cm_rules.specs.declared.rule.Broken.{Broken}
use Rattle.cm_rules.specs.Fault.{all_rules, holds, spots}

-- the class keeps a rule at each of these spots
abbrev pub KeepsAt : ClassFile → Rule → List Spot → Type 0
KeepsAt c rule among = AllByRecursion (λ spot. holds rule c spot ≡ true) among

-- the class keeps each of these rules at each of its spots
abbrev pub KeepsEach : ClassFile → List Rule → Type 0
KeepsEach c among = AllByRecursion (λ rule. KeepsAt c rule (spots c)) among

abbrev pub KeepsRules : ClassFile → Type 0
KeepsRules c = KeepsEach c all_rules

-- The class breaks this rule at this spot, keeps it at all spots before that, and keeps all rules
-- before it at every spot.
pub record IsFirstFault (c : ClassFile) (broken : Broken) : Type 0 where
  pub lower_rules : List Rule
  pub higher_rules : List Rule
  pub among_rules : all_rules ≡ lower_rules ++ broken.rule ∷ higher_rules
  pub keeps_lower : KeepsEach c lower_rules
  pub lower_spots : List Spot
  pub higher_spots : List Spot
  pub among_spots : spots c ≡ lower_spots ++ broken.spot ∷ higher_spots
  pub keeps_before : KeepsAt c broken.rule lower_spots
  pub breaks : holds broken.rule c broken.spot ≡ false
