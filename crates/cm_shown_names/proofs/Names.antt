-- A class that keeps rule EntryKinds names itself.
-- For `kept_names_itself`.
use Rattle.std.proofs.Common.{◌≡◌, ◌<◌, ℕ, zero, suc, ◌+◌, ◌-◌, true, false, List, [], ◌∷◌}
use Rattle.std.proofs.Common.{◌++◌}
use Rattle.std.proofs.Common.{length, slice_get, Option, Some, None, refl, ◌∙◌, ap, subst}
use Rattle.std.proofs.Common.{arith}
use Rattle.std.specs.Prelude.{map, option_and_then}
use Rattle.std.specs.Option.{option_map_or}
use Rattle.std.specs.List.{AllByRecursion, range_with_len}
use Rattle.cm_class.specs.declared.constant.Constant.TheVariants as constant
use Rattle.cm_class.specs.declared.constant.Slot.{Slot}
use Rattle.cm_class.specs.declared.constant.Slot.TheVariants.{Usable, Unusable}
use Rattle.cm_class.specs.declared.class_file.ClassFile.{ClassFile}
use Rattle.cm_class.specs.declared.kind.Kind.{Kind}
use Rattle.cm_class.specs.declared.kind.Kind.TheVariants as kinds
use Rattle.cm_class.specs.Names.{constant_in, is_kind, names}
use Rattle.cm_class.specs.Spelling.{ClassConstant}
use Rattle.cm_rules.specs.declared.rule.Rule.TheVariants as rules
use Rattle.cm_rules.specs.declared.rule.Spot.{Spot}
use Rattle.cm_rules.specs.declared.rule.Spot.TheVariants.{Pool, This, Super, Interface, Field}
use Rattle.cm_rules.specs.declared.rule.Spot.TheVariants.{Method, Attribute}
use Rattle.cm_rules.specs.Fault.{holds, spots, pool_rule, this_rule, at_item}
use Rattle.cm_constraints.specs.Constants.{in_slot, names_kinds}
use Rattle.cm_rules.specs.Least.{KeepsRules, KeepsAt}
use Rattle.cm_shown_names.specs.Itself.{NamesItself}

-- ---- what holds of all

all_front : {A : Type 0} (P : A → Type 0) (xs ys : List A) → AllByRecursion P (xs ++ ys)
    → AllByRecursion P xs
all_front P [] ys all = tt
all_front P (x ∷ xs) ys all = (all.0, all_front P xs ys all.1)

all_back : {A : Type 0} (P : A → Type 0) (xs ys : List A) → AllByRecursion P (xs ++ ys)
    → AllByRecursion P ys
all_back P [] ys all = all
all_back P (x ∷ xs) ys all = all_back P xs ys all.1

all_at : {A : Type 0} (P : A → Type 0) (f : ℕ → A) (from n i : ℕ) → i < n
    → AllByRecursion P (map f (range_with_len from n)) → P (f (from + i))
all_at P f from zero i lt all = absurd (omega arith)
all_at P f from (suc n) zero lt all =
    let here : from ≡ from + 0 = omega arith in subst (λ (k : ℕ). P (f k)) here all.0
all_at P f from (suc n) (suc i) lt all =
    let here : from + 1 + i ≡ from + suc i = omega arith in
    subst (λ (k : ℕ). P (f k)) here (all_at P f (from + 1) n i (omega arith) all.1)

-- ---- an index that names a constant of a kind

record NamesAt (c : ClassFile) (index : ℕ) (kind : Kind) : Type 0 where
  slot : ℕ
  constant_at : ClassConstant
  index_is : index ≡ suc slot
  slot_is : slice_get c.slots slot ≡ Some (Usable constant_at)
  kind_is : is_kind kind constant_at ≡ true

named_at : (c : ClassFile) (kind : Kind) (index : ℕ) → names kind c index ≡ true
    → NamesAt c index kind
named_at c kind zero e = absurd (cc)
named_at c kind (suc i) e = by_slot (slice_get c.slots i) refl e
  where
    by_slot : (o : Option Slot) → slice_get c.slots i ≡ o
        → option_map_or (is_kind kind) (option_and_then constant_in o) false ≡ true
        → NamesAt c (suc i) kind
    by_slot None is e = absurd (cc)
    by_slot (Some Unusable) is e = absurd (cc)
    by_slot (Some (Usable d)) is e = record {
      slot = i;
      constant_at = d;
      index_is = refl;
      slot_is = is;
      kind_is = e;
    }

a_class : (d : ClassConstant) → is_kind kinds.Class d ≡ true
    → (name : ℕ) × (d ≡ constant.Class name)
a_class (constant.Utf8 bytes) e = absurd (cc)
a_class (constant.Integer bits) e = absurd (cc)
a_class (constant.Float bits) e = absurd (cc)
a_class (constant.Long bits) e = absurd (cc)
a_class (constant.Double bits) e = absurd (cc)
a_class (constant.Class name) e = (name, refl)
a_class (constant.String utf8) e = absurd (cc)
a_class (constant.Fieldref a b) e = absurd (cc)
a_class (constant.Methodref a b) e = absurd (cc)
a_class (constant.InterfaceMethodref a b) e = absurd (cc)
a_class (constant.NameAndType a b) e = absurd (cc)
a_class (constant.MethodHandle a b) e = absurd (cc)
a_class (constant.MethodType descriptor) e = absurd (cc)
a_class (constant.InvokeDynamic a b) e = absurd (cc)

a_text : (d : ClassConstant) → is_kind kinds.Utf8 d ≡ true
    → (text : List ℕ) × (d ≡ constant.Utf8 text)
a_text (constant.Utf8 bytes) e = (bytes, refl)
a_text (constant.Integer bits) e = absurd (cc)
a_text (constant.Float bits) e = absurd (cc)
a_text (constant.Long bits) e = absurd (cc)
a_text (constant.Double bits) e = absurd (cc)
a_text (constant.Class name) e = absurd (cc)
a_text (constant.String utf8) e = absurd (cc)
a_text (constant.Fieldref a b) e = absurd (cc)
a_text (constant.Methodref a b) e = absurd (cc)
a_text (constant.InterfaceMethodref a b) e = absurd (cc)
a_text (constant.NameAndType a b) e = absurd (cc)
a_text (constant.MethodHandle a b) e = absurd (cc)
a_text (constant.MethodType descriptor) e = absurd (cc)
a_text (constant.InvokeDynamic a b) e = absurd (cc)

within : {A : Type 0} (xs : List A) (i : ℕ) (x : A) → slice_get xs i ≡ Some x → i < length xs
within [] i x e = absurd (cc)
within (y ∷ xs) zero x e = omega arith
within (y ∷ xs) (suc i) x e = let lt = within xs i x e in omega arith

-- ---- what the rule says of a class

module _ (c : ClassFile) (keeps : KeepsAt c rules.EntryKinds (spots c)) where
  abbrev Keeps : Spot → Type 0
  Keeps spot = holds rules.EntryKinds c spot ≡ true

  abbrev pool_spots : List Spot
  pool_spots = map (λ i. Pool (i + 1)) (range_with_len 0 (length c.slots))

  first_spots : AllByRecursion Keeps (pool_spots ++ This ∷ Super ∷ [])
  first_spots =
      let interfaces = map Interface (range_with_len 0 (length c.interfaces)) in
      let fields = map Field (range_with_len 0 (length c.fields)) in
      let methods = map Method (range_with_len 0 (length c.methods)) in
      let attributes = map Attribute (range_with_len 0 (length c.attributes)) in
      let first = pool_spots ++ This ∷ Super ∷ [] in
      all_front Keeps first interfaces
      (all_front Keeps (first ++ interfaces) fields
      (all_front Keeps (first ++ interfaces ++ fields) methods
      (all_front Keeps (first ++ interfaces ++ fields ++ methods) attributes keeps)))

  this_names : names kinds.Class c c.this_class ≡ true
  unfolding this_rule
  this_names = (all_back Keeps pool_spots (This ∷ Super ∷ []) first_spots).0

  slot_names : (i : ℕ) (d : ClassConstant) → slice_get c.slots i ≡ Some (Usable d)
      → names_kinds c d ≡ true
  unfolding pool_rule
  slot_names i d is =
      let test = in_slot (pool_rule rules.EntryKinds c) in
      let at : at_item c.slots (0 + i + 1 - 1) test ≡ true =
      all_at Keeps (λ (k : ℕ). Pool (k + 1)) 0 (length c.slots) i
      (within c.slots i (Usable d) is)
      (all_front Keeps pool_spots (This ∷ Super ∷ []) first_spots) in
      let place : 0 + i + 1 - 1 ≡ i = omega arith in
      let here : at_item c.slots i test ≡ true =
      subst (λ (k : ℕ). at_item c.slots k test ≡ true) place at in
      subst (λ (o : Option Slot). option_map_or test o true ≡ true) is here

  itself : NamesItself c
  itself =
      let own = named_at c kinds.Class c.this_class this_names in
      let class = a_class own.constant_at own.kind_is in
      let class_is : slice_get c.slots own.slot ≡ Some (Usable (constant.Class class.0)) =
      own.slot_is ∙ ap (λ d. Some (Usable d)) class.1 in
      let named =
      named_at c kinds.Utf8 class.0 (slot_names own.slot (constant.Class class.0) class_is) in
      let text = a_text named.constant_at named.kind_is in
      record {
        class_at = own.slot;
        text_at_slot = named.slot;
        text = text.0;
        this_is = own.index_is;
        class_is = class_is ∙ ap (λ n. Some (Usable (constant.Class n))) named.index_is;
        text_is = named.slot_is ∙ ap (λ d. Some (Usable d)) text.1;
      }

pub names_itself : (c : ClassFile) → KeepsRules c → NamesItself c
names_itself c keeps = itself c keeps.1.0
