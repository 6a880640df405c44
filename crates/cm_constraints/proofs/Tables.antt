-- What a table has for each slot.
-- For `Subject::judgement`, `Subject::utf8s_have_form`.
use Rattle.std.proofs.Common.{◌≡◌, ℕ, zero, suc, ◌-◌, List, [], ◌∷◌, map, refl, ap, ◌∙◌, arith}
use Rattle.std.specs.Prelude.{◌&&◌, slice_get, unwrap_or, option_and_then}
use Rattle.std.specs.List.{list_all}
use Rattle.std.specs.Option.{option_map_or}
use Rattle.cm_class.specs.declared.constant.Constant.TheVariants as constant
use Rattle.cm_class.specs.declared.constant.Slot.{Slot}
use Rattle.cm_class.specs.declared.constant.Slot.TheVariants.{Usable, Unusable}
use Rattle.cm_class.specs.declared.class_file.ClassFile.{ClassFile}
use Rattle.cm_descriptors.specs.declared.judgement.Judgement.{Judgement}
use Rattle.cm_class.specs.Names.{constant_in, utf8, utf8_in}
use Rattle.cm_class.specs.Spelling.{ClassConstant}
use Rattle.cm_descriptors.specs.Judgement.{judgement}
use Rattle.cm_descriptors.specs.Forms.{has_utf8_form, has_utf8_form_after}
use Rattle.cm_constraints.specs.Subject.{judgement_in}
use Rattle.cm_constraints.specs.Constants.{in_slot}
use Rattle.cm_constraints.specs.Constants.{utf8_has_form}

look_up : (slots : List Slot) (i : ℕ)
    → unwrap_or (slice_get (map judgement_in slots) i) (judgement [])
    ≡ judgement (option_map_or utf8_in (option_and_then constant_in (slice_get slots i)) [])
look_up [] i = refl
look_up (Usable c ∷ slots) zero = refl
look_up (Unusable ∷ slots) zero = refl
look_up (slot ∷ slots) (suc i) = look_up slots i

-- the table at an index that isn't 0
pub at_index : (c : ClassFile) (table : List Judgement) (index : ℕ)
    → table ≡ map judgement_in c.slots → (index ≡ 0 → ⊥)
    → unwrap_or (slice_get table (index - 1)) (judgement []) ≡ judgement (utf8 c index)
at_index c table zero is nonzero = absurd (nonzero refl)
at_index c table (suc i) is nonzero =
    let place : suc i - 1 ≡ i = omega arith in
    ap (λ (k : ℕ). unwrap_or (slice_get table k) (judgement [])) place ∙ ap
    (λ (t : List Judgement). unwrap_or (slice_get t i) (judgement [])) is ∙ look_up c.slots i

pub at_zero : (c : ClassFile) → judgement [] ≡ judgement (utf8 c 0)
at_zero c = refl

-- ---- the form of Utf8s; the empty one has it too

utf8_in_slot : (slot : Slot) → (judgement_in slot).utf8 ≡ in_slot utf8_has_form slot
unfolding judgement has_utf8_form has_utf8_form_after
utf8_in_slot Unusable = refl
utf8_in_slot (Usable c) = of c
  where
    of : (c : ClassConstant) → (judgement_in (Usable c)).utf8 ≡ in_slot utf8_has_form (Usable c)
    of (constant.Utf8 bytes) = refl
    of (constant.Integer n) = refl
    of (constant.Float n) = refl
    of (constant.Long n) = refl
    of (constant.Double n) = refl
    of (constant.Class n) = refl
    of (constant.String n) = refl
    of (constant.Fieldref n m) = refl
    of (constant.Methodref n m) = refl
    of (constant.InterfaceMethodref n m) = refl
    of (constant.NameAndType n m) = refl
    of (constant.MethodHandle n m) = refl
    of (constant.MethodType n) = refl
    of (constant.InvokeDynamic n m) = refl

pub utf8s_in_table : (slots : List Slot)
    → list_all (λ found. found.utf8) (map judgement_in slots)
    ≡ list_all (in_slot utf8_has_form) slots
utf8s_in_table [] = refl
utf8s_in_table (slot ∷ slots) = (λ i. utf8_in_slot slot i && utf8s_in_table slots i)
