-- The constants of a pool, one index after another.
-- For `constants_keep`, `have_form`, `is_kept_at`.
use Rattle.std.proofs.Common.{◌≡◌, ◌<◌, ◌≤◌, ◌+◌, ℕ, zero, suc, Bool, true, List, [], ◌∷◌}
use Rattle.std.proofs.Common.{length}
use Rattle.std.proofs.Common.{take, get_or, slice_get, refl, sym, ap, ◌∙◌, arith}
use Rattle.std.proofs.lemmas.List.{take_all}
use Rattle.std.specs.Prelude.{option_and_then}
use Rattle.std.specs.Option.{option_map_or}
use Rattle.std.specs.List.{list_all}
use Rattle.std.proofs.lemmas.List.Folds.{list_all_more}
use Rattle.std.proofs.lemmas.Bool.{and_from}
use Rattle.cm_class.specs.declared.constant.Slot.{Slot}
use Rattle.cm_class.specs.declared.constant.Slot.TheVariants.{Usable, Unusable}
use Rattle.cm_class.specs.declared.class_file.ClassFile.{ClassFile}
use Rattle.cm_class.specs.Names.{constant_named, constant_in}
use Rattle.cm_class.specs.Spelling.{ClassConstant}
use Rattle.cm_class.specs.declared.constant.Constant.TheVariants as constant
use Rattle.cm_constraints.specs.Constants.{in_slot}
use Rattle.cm_rules.specs.Fault.{pool_rule}
use Rattle.cm_rules.specs.Kept.{constant_keeps}

module _ (test : ClassConstant → Bool) where
  slot_there : (slots : List Slot) (i : ℕ) → i < length slots
      → in_slot test (get_or slots i Unusable)
      ≡ option_map_or test (option_and_then constant_in (slice_get slots i)) true
  slot_there [] i h = absurd (omega arith)
  slot_there (Usable d ∷ slots) zero h = refl
  slot_there (Unusable ∷ slots) zero h = refl
  slot_there (s ∷ slots) (suc i) h = slot_there slots i (omega arith)

  -- one more index passes the test
  pub one_more : (c : ClassFile) (i j : ℕ) → j ≡ i + 1 → i < length c.slots
      → option_map_or test (constant_named c j) true ≡ true
      → list_all (in_slot test) (take i c.slots) ≡ true
      → list_all (in_slot test) (take j c.slots) ≡ true
  one_more c i j next lt here before =
      let count : i + 1 ≡ suc i = omega arith in
      let named : option_map_or test (constant_named c (suc i)) true ≡ true =
      ap (λ n. option_map_or test (constant_named c n) true) (sym (next ∙ count)) ∙ here in
      let passes : in_slot test (get_or c.slots i Unusable) ≡ true =
      slot_there c.slots i lt ∙ named in
      ap (λ n. list_all (in_slot test) (take n c.slots)) next
      ∙ (list_all_more (in_slot test) c.slots i Unusable lt
      ∙ and_from _ _ before passes)

  pub all_of : (c : ClassFile) (i : ℕ) → length c.slots ≤ i
      → list_all (in_slot test) (take i c.slots) ≡ true → list_all (in_slot test) c.slots ≡ true
  all_of c i le so_far = ap (list_all (in_slot test)) (sym (take_all i c.slots le)) ∙ so_far

-- ---- what is required of a Utf8, except its form

pub text_keeps : (c : ClassFile) (text : List ℕ) → constant_keeps c (constant.Utf8 text) ≡ true
unfolding constant_keeps pool_rule
text_keeps c text = refl
