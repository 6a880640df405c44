-- The first fault is the least one.
-- For `fault_is_the_first`.
use Rattle.std.proofs.Common.{◌≡◌, Bool, true, false, not, cond, List, [], ◌∷◌, ◌++◌, Option, Some}
use Rattle.std.proofs.Common.{None, refl, ap, subst}
use Rattle.std.specs.Prelude.{find}
use Rattle.std.specs.Option.{option_map_or}
use Rattle.cm_class.specs.declared.class_file.ClassFile.{ClassFile}
use Rattle.cm_rules.specs.declared.rule.Rule.{Rule}
use Rattle.cm_rules.specs.declared.rule.Spot.{Spot}
use Rattle.cm_rules.specs.declared.rule.Broken.{Broken}
use Rattle.cm_rules.specs.Fault.{all_rules, holds, spots, broken_spot, first_of, fault}
use Rattle.cm_rules.specs.Least.{KeepsAt, KeepsEach, KeepsRules, IsFirstFault}

-- what a search among spots finds
record Found (c : ClassFile) (rule : Rule) (among : List Spot) (spot : Spot) : Type 0 where
  before : List Spot
  after : List Spot
  parts : among ≡ before ++ spot ∷ after
  keeps : KeepsAt c rule before
  breaks : holds rule c spot ≡ false

module _ (c : ClassFile) (rule : Rule) where
  found_more : (s : Spot) (among : List Spot) (spot : Spot) → holds rule c s ≡ true
      → Found c rule among spot → Found c rule (s ∷ among) spot
  found_more s among spot h f =
      record {
        before =
            s ∷ f.before;
        after =
            f.after;
        parts =
            ap (λ (l : List Spot). s ∷ l) f.parts;
        keeps = (h, f.keeps);
        breaks = f.breaks;
      }

  found_at : (s : Spot) (among : List Spot) (spot : Spot) (b : Bool) → holds rule c s ≡ b
      → cond (not b) (Some s) (find (λ t. not (holds rule c t)) among) ≡ Some spot
      → (find (λ t. not (holds rule c t)) among ≡ Some spot → Found c rule among spot)
      → Found c rule (s ∷ among) spot
  found_at s among spot true h e next = found_more s among spot h (next e)
  found_at s among spot false h e next =
      let same : s ≡ spot = cc in
      subst (λ (t : Spot). Found c rule (s ∷ among) t) same
      (record { before = []; after = among; parts = refl; keeps = tt; breaks = h })

  found_in : (among : List Spot) (spot : Spot) → find (λ t. not (holds rule c t)) among ≡ Some spot
      → Found c rule among spot
  found_in [] spot e = absurd cc
  found_in (s ∷ among) spot e = found_at s among spot (holds rule c s) refl e (found_in among spot)

  kept_at : (s : Spot) (among : List Spot) (b : Bool) → holds rule c s ≡ b
      → cond (not b) (Some s) (find (λ t. not (holds rule c t)) among) ≡ None
      → (find (λ t. not (holds rule c t)) among ≡ None → KeepsAt c rule among)
      → KeepsAt c rule (s ∷ among)
  kept_at s among true h e next = (h, next e)
  kept_at s among false h e next = absurd cc

  kept_in : (among : List Spot) → find (λ t. not (holds rule c t)) among ≡ None
      → KeepsAt c rule among
  kept_in [] e = tt
  kept_in (s ∷ among) e = kept_at s among (holds rule c s) refl e (kept_in among)

-- what a search among rules finds
record FoundRule (c : ClassFile) (among : List Rule) (broken : Broken) : Type 0 where
  before : List Rule
  after : List Rule
  parts : among ≡ before ++ broken.rule ∷ after
  keeps : KeepsEach c before
  spot : Found c broken.rule (spots c) broken.spot

module _ (c : ClassFile) where
  abbrev made : Rule → Spot → Option Broken
  made rule spot = Some (record { rule = rule; spot = spot })

  rule_at : (rule : Rule) (others : List Rule) (broken : Broken) (o : Option Spot)
      → broken_spot c rule ≡ o → option_map_or (made rule) o (first_of c others) ≡ Some broken
      → (first_of c others ≡ Some broken → FoundRule c others broken)
      → FoundRule c (rule ∷ others) broken
  unfolding broken_spot
  rule_at rule others broken None h e next =
      let f = next e in
      record {
        before =
            rule ∷ f.before;
        after =
            f.after;
        parts =
            ap (λ (l : List Rule). rule ∷ l) f.parts;
        keeps =
            (kept_in c rule (spots c) h, f.keeps);
        spot = f.spot;
      }
  rule_at rule others broken (Some spot) h e next =
      let this : Broken = record { rule = rule; spot = spot } in
      let same : this ≡ broken = cc in
      subst (λ (b : Broken). FoundRule c (rule ∷ others) b) same
      (record {
        before =
            [];
        after = others;
        parts = refl;
        keeps = tt;
        spot = found_in c rule (spots c) spot h;
      })

  rule_in : (among : List Rule) (broken : Broken) → first_of c among ≡ Some broken
      → FoundRule c among broken
  unfolding first_of
  rule_in [] broken e = absurd cc
  rule_in (rule ∷ others) broken e =
      rule_at rule others broken (broken_spot c rule) refl e (rule_in others broken)

  rule_kept : (rule : Rule) (others : List Rule) (o : Option Spot) → broken_spot c rule ≡ o
      → option_map_or (made rule) o (first_of c others) ≡ None
      → (first_of c others ≡ None → KeepsEach c others) → KeepsEach c (rule ∷ others)
  unfolding broken_spot
  rule_kept rule others None h e next = (kept_in c rule (spots c) h, next e)
  rule_kept rule others (Some spot) h e next = absurd cc

  rules_kept : (among : List Rule) → first_of c among ≡ None → KeepsEach c among
  unfolding first_of
  rules_kept [] e = tt
  rules_kept (rule ∷ others) e =
      rule_kept rule others (broken_spot c rule) refl e (rules_kept others)

pub is_first : (c : ClassFile) (broken : Broken) → fault c ≡ Some broken → IsFirstFault c broken
unfolding fault
is_first c broken e =
    let f = rule_in c all_rules broken e in
    record {
      lower_rules = f.before;
      higher_rules = f.after;
      among_rules = f.parts;
      keeps_lower = f.keeps;
      lower_spots = f.spot.before;
      higher_spots = f.spot.after;
      among_spots = f.spot.parts;
      keeps_before = f.spot.keeps;
      breaks = f.spot.breaks;
    }

pub is_kept : (c : ClassFile) → fault c ≡ None → KeepsRules c
unfolding fault
is_kept c e = rules_kept c all_rules e
