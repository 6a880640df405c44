-- What the kinds of bytes in a Utf8 say about it: `judge` by its marks.
-- For `has_utf8_form_by_marks`, `is_class_name_by_marks`, `is_field_descriptor_by_marks` and
-- others.
use Rattle.std.proofs.Common.{◌≡◌, ℕ, suc, eqb, cond, Bool, true, false, not, ◌&&◌, List, [], ◌∷◌}
use Rattle.std.proofs.Common.{length, Option, Some, None, refl, sym, ap, ap₂, ◌∙◌, arith}
use Rattle.std.specs.Prelude.{◌||◌, ◌==◌, bytes_eq}
use Rattle.std.proofs.lemmas.Bool.{ne_eqb, eqb-true}
use Rattle.std.proofs.lemmas.Slice.Eq.{bytes_eq-Decides}
use Rattle.std.specs.List.{list_all}
use Rattle.std.specs.Option.{option_map_or, option_and_then}
use Rattle.cm_descriptors.specs.declared.marks.ByteMarks.{ByteMarks}
use Rattle.cm_descriptors.specs.Forms.{dot, slash, semicolon, bracket, init, clinit, has_utf8_form}
use Rattle.cm_descriptors.specs.Forms.{name_after, is_name_byte, is_empty, is_base_type}
use Rattle.cm_descriptors.specs.Forms.{is_unqualified_name, is_method_name, is_class_name}
use Rattle.cm_descriptors.specs.Forms.{is_class_name_from, after_class, after_field}
use Rattle.cm_descriptors.specs.Forms.{is_field_descriptor}
use Rattle.cm_descriptors.specs.Judgement.{is_special_name}
use Rattle.cm_descriptors.specs.Marks.{marks_of, is_plain, is_no_slash, is_no_stop, is_no_angle}
use Rattle.cm_descriptors.proofs.FormLoops.{plain_has_form, name_is_class_name, both_true, not_true}

shuffle : (a b c d : Bool) → (a && b) && (c && d) ≡ (a && c) && (b && d)
shuffle true true c d = refl
shuffle true false true d = refl
shuffle true false false d = refl
shuffle false b c d = refl

name_bytes : (xs : List ℕ)
    → list_all is_no_stop xs && list_all is_no_slash xs ≡ list_all is_name_byte xs
name_bytes [] = refl
name_bytes (x ∷ xs) =
    shuffle (is_no_stop x) (list_all is_no_stop xs) (is_no_slash x) (list_all is_no_slash xs) ∙ ap
    (λ b. is_name_byte x && b) (name_bytes xs)

pub and_assoc : (x y z : Bool) → (x && y) && z ≡ x && (y && z)
and_assoc true y z = refl
and_assoc false y z = refl

-- ---- a class name has no stop

-- a stop is no slash
pub stop_step : (begins : Bool) (b : ℕ) → is_no_stop b ≡ false → name_after begins b ≡ None
unfolding name_after
stop_step begins b h = by_test (eqb b slash) refl
  where
    by_test : (t : Bool) → t ≡ eqb b slash
        → cond (eqb b slash) (cond begins None (Some true))
        (cond (is_name_byte b) (Some false) None) ≡ None
    by_test true e =
        let is : b ≡ 47 = eqb-true b slash (sym e) in absurd (cc (ap is_no_stop (sym is) ∙ h))
    by_test false e = rw (sym e, h) refl

refused : (o : Option Bool) (f : Bool → Bool) → ((b : Bool) → f b ≡ false)
    → option_map_or f o false ≡ false
refused None f h = refl
refused (Some b) f h = h b

stop_refuses : (begins : Bool) (xs : List ℕ) → list_all is_no_stop xs ≡ false
    → is_class_name_from begins xs ≡ false
unfolding is_class_name_from
stop_refuses begins [] h = absurd cc
stop_refuses begins (x ∷ xs) h = by_test (is_no_stop x) refl (λ e after. stop_refuses after xs e)
  where
    by_test : (t : Bool) → t ≡ is_no_stop x
        → (list_all is_no_stop xs ≡ false → (after : Bool) → is_class_name_from after xs ≡ false)
        → option_map_or (λ after. is_class_name_from after xs) (name_after begins x) false ≡ false
    by_test true e on =
        refused (name_after begins x) (λ after. is_class_name_from after xs)
        (on (ap (λ t. t && list_all is_no_stop xs) e ∙ h))
    by_test false e on =
        ap (λ o. option_map_or (λ after. is_class_name_from after xs) o false)
        (stop_step begins x (sym e))

-- ---- a field descriptor has a stop, or one byte

no_end : (begins : Bool) (xs : List ℕ) → list_all is_no_stop xs ≡ true
    → after_class begins xs ≡ None
unfolding after_class
no_end begins [] h = refl
no_end begins (x ∷ xs) h =
    let both = both_true (is_no_stop x) (list_all is_no_stop xs) h in
    let before = both_true (not (x == dot) && not (x == semicolon)) (not (x == bracket)) both.0 in
    let no : eqb x semicolon ≡ false =
    not_true (eqb x semicolon) (both_true (not (x == dot)) (not (x == semicolon)) before.0).1 in
    rw no (by_option (name_after begins x) (λ after. no_end after xs both.1))
  where
    by_option : (o : Option Bool) → ((after : Bool) → after_class after xs ≡ None)
        → option_and_then (λ after. after_class after xs) o ≡ None
    by_option None on = refl
    by_option (Some b) on = on b

field_ends : (n : ℕ) (b : ℕ) (xs : List ℕ) → list_all is_no_stop (b ∷ xs) ≡ true
    → (length xs ≡ 0 → ⊥) → option_map_or is_empty (after_field (suc n) (b ∷ xs)) false ≡ false
unfolding after_field
field_ends n b xs h long =
    let both = both_true (is_no_stop b) (list_all is_no_stop xs) h in
    let no : eqb b bracket ≡ false =
    not_true (eqb b bracket)
    (both_true (not (b == dot) && not (b == semicolon)) (not (b == bracket)) both.0).1 in
    rw (no, no_end true xs both.1) (by_tests (eqb b 76) (is_base_type b))
  where
    by_tests : (l base : Bool)
        → option_map_or is_empty (cond l None (cond base (Some xs) None)) false ≡ false
    by_tests true base = refl
    by_tests false true = ne_eqb (length xs) 0 long
    by_tests false false = refl

no_field : (xs : List ℕ) → list_all is_no_stop xs ≡ true → (length xs ≡ 1 → ⊥)
    → is_field_descriptor xs ≡ false
unfolding is_field_descriptor after_field
no_field [] h long = refl
no_field (b ∷ xs) h long = field_ends 254 b xs h (λ e. long (omega (arith, e)))

-- ---- the two names with angles are unqualified names

special_is_name : (xs : List ℕ) → is_special_name xs ≡ true → is_unqualified_name xs ≡ true
unfolding is_unqualified_name
special_is_name xs h = by_test (bytes_eq xs init) refl
  where
    by_test : (t : Bool) → t ≡ bytes_eq xs init → is_unqualified_name xs ≡ true
    by_test true e =
        let is : xs ≡ init = (bytes_eq-Decides xs init).0 (sym e) in ap is_unqualified_name is
    by_test false e =
        let is : xs ≡ clinit =
        (bytes_eq-Decides xs clinit).0 (ap (λ t. t || bytes_eq xs clinit) e ∙ h) in
        ap is_unqualified_name is

no_special : (xs : List ℕ) → is_unqualified_name xs ≡ false → is_special_name xs ≡ false
no_special xs h = by_test (is_special_name xs) refl
  where
    by_test : (t : Bool) → t ≡ is_special_name xs → is_special_name xs ≡ false
    by_test true e = absurd (cc (special_is_name xs (sym e), h))
    by_test false e = sym e

-- ---- what marks say

module _ (xs : List ℕ) (m : ByteMarks) (of : m ≡ marks_of xs) where
  plain_of : m.plain ≡ list_all is_plain xs
  unfolding marks_of
  plain_of = ap (λ k. k.plain) of

  no_slash_of : m.no_slash ≡ list_all is_no_slash xs
  unfolding marks_of
  no_slash_of = ap (λ k. k.no_slash) of

  pub no_stop_of : m.no_stop ≡ list_all is_no_stop xs
  unfolding marks_of
  no_stop_of = ap (λ k. k.no_stop) of

  no_angle_of : m.no_angle ≡ list_all is_no_angle xs
  unfolding marks_of
  no_angle_of = ap (λ k. k.no_angle) of

  pub utf8_by_marks : m.plain ≡ true → m.plain ≡ has_utf8_form xs
  utf8_by_marks h = h ∙ sym (plain_has_form xs (sym plain_of ∙ h))

  pub unqualified_by_marks : (not (is_empty xs) && m.no_stop) && m.no_slash ≡ is_unqualified_name xs
  unfolding is_unqualified_name
  unqualified_by_marks =
      ap₂ (λ s t. (not (is_empty xs) && s) && t) no_stop_of no_slash_of ∙ and_assoc
      (not (is_empty xs)) (list_all is_no_stop xs) (list_all is_no_slash xs) ∙ ap
      (λ b. not (is_empty xs) && b) (name_bytes xs)

  pub no_class_by_marks : m.no_stop ≡ false → m.no_stop ≡ is_class_name xs
  unfolding is_class_name
  no_class_by_marks h = h ∙ sym (stop_refuses true xs (sym no_stop_of ∙ h))

  pub method_by_marks : is_unqualified_name xs ≡ true → m.no_angle ≡ true
      → m.no_angle ≡ is_method_name xs
  unfolding is_method_name
  method_by_marks named h = h ∙ rw (named, sym no_angle_of ∙ h) refl

  pub special_by_marks : is_unqualified_name xs ≡ true → m.no_angle ≡ false
      → is_special_name xs ≡ is_method_name xs
  unfolding is_method_name
  special_by_marks named h = rw (named, sym no_angle_of ∙ h) refl

  pub no_field_by_marks : m.no_stop ≡ true → (length xs ≡ 1 → ⊥) → false ≡ is_field_descriptor xs
  no_field_by_marks h long = sym (no_field xs (sym no_stop_of ∙ h) long)

pub unqualified_class : (xs : List ℕ) (r : Bool) → r ≡ true → r ≡ is_unqualified_name xs
    → r ≡ is_class_name xs
unqualified_class xs r h is = h ∙ sym (name_is_class_name xs (sym is ∙ h))

pub no_method : (xs : List ℕ) (r : Bool) → r ≡ false → r ≡ is_unqualified_name xs
    → r ≡ is_method_name xs
unfolding is_method_name
no_method xs r h is =
    let named : is_unqualified_name xs ≡ false =
    sym is ∙ h in h ∙ rw named (sym (no_special xs named))
