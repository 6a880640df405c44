-- Loops that search for the first item that fails a test.
-- For `attributes_keep`, `broken_spot`, `first_attribute` and others.
use Rattle.std.proofs.Common.{◌≡◌, ℕ, suc, ◌+◌, ◌-◌, ◌<◌, ◌≤◌, Bool, true, false, cond, not, List}
use Rattle.std.proofs.Common.{[], ◌∷◌, ◌++◌, map, length, get_or, drop, Option, Some, None, refl}
use Rattle.std.proofs.Common.{sym, ap, ◌∙◌, add-one, add-zero, zero-add, drop-cons, arith}
use Rattle.std.proofs.lemmas.List.{drop_all}
use Rattle.std.specs.Prelude.{find, option_map}
use Rattle.std.specs.List.{range_with_len}
use Rattle.cm_class.specs.declared.class_file.ClassFile.{ClassFile}
use Rattle.cm_class.specs.declared.constant.Slot.{Slot}
use Rattle.cm_class.specs.declared.constant.Slot.TheVariants.{Usable, Unusable}
use Rattle.cm_class.specs.Spelling.{ClassConstant}
use Rattle.cm_rules.specs.declared.rule.Rule.{Rule}
use Rattle.cm_rules.specs.declared.rule.Spot.{Spot}
use Rattle.cm_rules.specs.declared.rule.Spot.TheVariants.{Pool, This, Super, Interface, Field}
use Rattle.cm_rules.specs.declared.rule.Spot.TheVariants.{Method, Attribute}
use Rattle.cm_duplicates.specs.Duplicates.{first_failing}
use Rattle.cm_constraints.specs.Constants.{in_slot}
use Rattle.cm_rules.specs.Fault.{at_item, holds, pool_rule, this_rule, super_rule, interface_rule}
use Rattle.cm_rules.specs.Fault.{field_rule, method_rule, attribute_rule, or_else, item_spot}
use Rattle.cm_rules.specs.Fault.{own_spot, broken_spot, found_spot}

module _ {A : Type 0} (test : ℕ → A → Bool) where
  step : (items : List A) (i : ℕ) (x : A) → i < length items → x ≡ get_or items i x
      → first_failing test i (drop i items)
      ≡ cond (test i x) (first_failing test (i + 1) (drop (i + 1) items)) (Some i)
  unfolding first_failing
  step items i x lt is = rw (drop-cons items i x lt, ← is, add-one) refl

  pub fails_here : (items : List A) (i : ℕ) (x : A) (total : Option ℕ) → i < length items
      → x ≡ get_or items i x → false ≡ test i x → first_failing test i (drop i items) ≡ total
      → Some i ≡ total
  fails_here items i x total lt is h so_far =
      ap (λ (b : Bool). cond b (first_failing test (i + 1) (drop (i + 1) items)) (Some i)) h ∙ sym
      (step items i x lt is) ∙ so_far

  pub passes_here : (items : List A) (i : ℕ) (x : A) (total : Option ℕ) → i < length items
      → x ≡ get_or items i x → true ≡ test i x → first_failing test i (drop i items) ≡ total
      → first_failing test (i + 1) (drop (i + 1) items) ≡ total
  passes_here items i x total lt is h so_far =
      ap (λ (b : Bool). cond b (first_failing test (i + 1) (drop (i + 1) items)) (Some i)) h ∙ sym
      (step items i x lt is) ∙ so_far

  pub none_fails : (items : List A) (i : ℕ) (total : Option ℕ) → length items ≤ i
      → first_failing test i (drop i items) ≡ total → None ≡ total
  unfolding first_failing
  none_fails items i total le so_far =
      ap (first_failing test i) (sym (drop_all i items le)) ∙ so_far

  -- the same if an iterator yields the items

  pub fails_next : (rest others : List A) (i : ℕ) (x : A) (total : Option ℕ) → rest ≡ x ∷ others
      → false ≡ test i x → first_failing test i rest ≡ total → Some i ≡ total
  unfolding first_failing
  fails_next rest others i x total is h so_far =
      ap (λ (b : Bool). cond b (first_failing test (i + 1) others) (Some i)) h
      ∙ ap (first_failing test i) (sym is) ∙ so_far

  pub passes_next : (rest others : List A) (i : ℕ) (x : A) (total : Option ℕ) → rest ≡ x ∷ others
      → true ≡ test i x → first_failing test i rest ≡ total
      → first_failing test (i + 1) others ≡ total
  unfolding first_failing
  passes_next rest others i x total is h so_far =
      ap (λ (b : Bool). cond b (first_failing test (i + 1) others) (Some i)) h
      ∙ ap (first_failing test i) (sym is) ∙ so_far

  pub none_left : (rest : List A) (i : ℕ) (total : Option ℕ) → rest ≡ []
      → first_failing test i rest ≡ total → None ≡ total
  unfolding first_failing
  none_left rest i total is so_far = ap (first_failing test i) (sym is) ∙ so_far

-- ---- from places to spots

or_else-cond : {A : Type 0} (b : Bool) (x : A) (y z w : Option A) → w ≡ or_else y z
    → cond b (Some x) w ≡ or_else (cond b (Some x) y) z
or_else-cond true x y z w e = refl
or_else-cond false x y z w e = e

find-append : {A : Type 0} (p : A → Bool) (xs ys : List A)
    → find p (xs ++ ys) ≡ or_else (find p xs) (find p ys)
find-append p [] ys = refl
find-append p (x ∷ xs) ys =
    or_else-cond (p x) x (find p xs) (find p ys) (find p (xs ++ ys)) (find-append p xs ys)

-- spots of one sort; H gives what the rule says about the item there
find_sort : {A : Type 0} (H : Spot → Bool) (make : ℕ → Spot) (test : ℕ → A → Bool) (items : List A)
    (k : ℕ)
    → ((i : ℕ) → H (make (k + i)) ≡ at_item items i (test (k + i)))
    → find (λ s. not (H s)) (map make (range_with_len k (length items)))
    ≡ option_map make (first_failing test k items)
unfolding first_failing
find_sort H make test [] k h = refl
find_sort H make test (x ∷ items) k h =
    let here : H (make k) ≡ test k x = rw add-zero at (h 0) in
    let rest = find_sort H make test items (k + 1)
    (λ i. let e : (k + 1) + i ≡ k + suc i = omega arith in rw e (h (suc i))) in
    rw (here, rest) (by_test (test k x))
  where
    by_test : (b : Bool)
        → cond (not b) (Some (make k)) (option_map make (first_failing test (k + 1) items))
        ≡ option_map make (cond b (first_failing test (k + 1) items) (Some k))
    by_test true = refl
    by_test false = refl

or_else-assoc : {A : Type 0} (x y z : Option A) → or_else (or_else x y) z ≡ or_else x (or_else y z)
or_else-assoc None y z = refl
or_else-assoc (Some x) y z = refl

find_parts : {A : Type 0} (p : A → Bool) (a b c d e f : List A)
    → find p (((((a ++ b) ++ c) ++ d) ++ e) ++ f)
    ≡ or_else (find p a)
    (or_else (find p b) (or_else (find p c) (or_else (find p d) (or_else (find p e) (find p f)))))
find_parts p a b c d e f = simp (find-append, or_else-assoc)

module _ (c : ClassFile) (rule : Rule) where
  pool_here : (i : ℕ)
      → holds rule c (Pool ((0 + i) + 1)) ≡ at_item c.slots i (in_slot (pool_rule rule c))
  pool_here i =
      let e : ((0 + i) + 1) - 1 ≡ i =
      omega arith in ap (λ (k : ℕ). at_item c.slots k (in_slot (pool_rule rule c))) e

  at_place : {A : Type 0} (items : List A) (test : ℕ → A → Bool) (i : ℕ)
      → at_item items (0 + i) (test (0 + i)) ≡ at_item items i (test (0 + i))
  at_place items test i = ap (λ (k : ℕ). at_item items k (test (0 + i))) (zero-add i)

  own_here : find (λ s. not (holds rule c s)) (This ∷ Super ∷ []) ≡ own_spot c rule
  unfolding own_spot
  own_here = by_tests (this_rule rule c) (super_rule rule c)
    where
      by_tests : (t u : Bool)
          → cond (not t) (Some This) (cond (not u) (Some Super) None)
          ≡ cond t (cond u None (Some Super)) (Some This)
      by_tests true true = refl
      by_tests true false = refl
      by_tests false u = refl

  pub broken_is : broken_spot c rule ≡ found_spot c rule
  unfolding broken_spot item_spot
  broken_is =
      let H : Spot → Bool = λ s. holds rule c s in
      let parts = find_parts (λ s. not (H s))
      (map (λ i. Pool (i + 1)) (range_with_len 0 (length c.slots))) (This ∷ Super ∷ [])
      (map Interface (range_with_len 0 (length c.interfaces)))
      (map Field (range_with_len 0 (length c.fields)))
      (map Method (range_with_len 0 (length c.methods)))
      (map Attribute (range_with_len 0 (length c.attributes))) in
      let slots = find_sort H (λ i. Pool (i + 1)) (λ _ slot. in_slot (pool_rule rule c) slot)
      c.slots 0 pool_here in
      let interfaces =
      find_sort H Interface (λ _ index. interface_rule rule c index) c.interfaces 0
      (at_place c.interfaces (λ _ index. interface_rule rule c index)) in
      let fields =
      find_sort H Field (field_rule rule c) c.fields 0 (at_place c.fields (field_rule rule c))
      in
      let methods =
      find_sort H Method (method_rule rule c) c.methods 0
      (at_place c.methods (method_rule rule c)) in
      let attributes =
      find_sort H Attribute (attribute_rule rule c) c.attributes 0
      (at_place c.attributes (attribute_rule rule c)) in
      parts ∙ rw (slots, own_here, interfaces, fields, methods, attributes) refl

-- ---- a rule that no item breaks

pub nothing_fails : {A : Type 0} (test : ℕ → A → Bool) (i : ℕ) (items : List A)
    → ((j : ℕ) (x : A) → test j x ≡ true) → first_failing test i items ≡ None
unfolding first_failing
nothing_fails test i [] h = refl
nothing_fails test i (x ∷ items) h = rw (h i x) (nothing_fails test (i + 1) items h)

pub slot_passes : (test : ClassConstant → Bool) (slot : Slot)
    → ((k : ClassConstant) → test k ≡ true)
    → in_slot test slot ≡ true
slot_passes test (Usable k) h = h k
slot_passes test Unusable h = refl
