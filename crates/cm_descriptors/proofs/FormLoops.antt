-- Loops over the bytes of names and descriptors.
-- For `are_characters`, `are_joined_names`, `has_utf8_form` and others.
use Rattle.std.proofs.Common.{◌≡◌, ℕ, zero, suc, ◌+◌, ◌-◌, ◌<◌, ◌≤◌, Bool, true, false, not, eqb}
use Rattle.std.proofs.Common.{eq-eqb, cond, List, [], ◌∷◌, length, get_or, drop, Option, Some, None}
use Rattle.std.proofs.Common.{refl, sym, ap, ◌∙◌, add-one, add-zero, add_assoc, drop-cons, arith}
use Rattle.std.specs.Prelude.{◌||◌, ◌&&◌}
use Rattle.std.specs.List.{list_all}
use Rattle.std.specs.Option.{option_map_or, option_and_then}
use Rattle.std.proofs.lemmas.Bool.{ne_eqb}
use Rattle.std.proofs.lemmas.List.{drop_all}
use Rattle.cm_descriptors.specs.Forms.{has_utf8_form_after, owed_after, is_class_name_from}
use Rattle.cm_descriptors.specs.Forms.{name_after}
use Rattle.cm_descriptors.specs.Forms.{after_class, after_field, parameters, units_of_first}
use Rattle.cm_descriptors.specs.Forms.{begins_with}
use Rattle.cm_descriptors.specs.Forms.{semicolon, bracket, slash, dot, is_within, has_utf8_form}
use Rattle.cm_descriptors.specs.Forms.{is_name_byte, is_unqualified_name, is_class_name, is_empty}

-- A machine that reads bytes: a state and a byte give the next state, or nothing if it rejects.
module _ {S : Type 0} (step : S → ℕ → Option S) (run : S → List ℕ → Bool)
    (next : (s : S) (b : ℕ) (bytes : List ℕ)
    → run s (b ∷ bytes) ≡ option_map_or (λ t. run t bytes) (step s b) false) where
  run_at : (bytes : List ℕ) (i : ℕ) (s : S) → i < length bytes
      → run s (drop i bytes)
      ≡ option_map_or (λ t. run t (drop (i + 1) bytes)) (step s (get_or bytes i 0)) false
  run_at bytes i s lt =
      ap (run s) (drop-cons bytes i 0 lt) ∙ next s (get_or bytes i 0) (drop (suc i) bytes) ∙ ap
      (λ (k : ℕ). option_map_or (λ t. run t (drop k bytes)) (step s (get_or bytes i 0)) false)
      (sym (add-one i))

  pub refuses : (bytes : List ℕ) (i : ℕ) (s : S) (total : Bool) → i < length bytes
      → None ≡ step s (get_or bytes i 0) → run s (drop i bytes) ≡ total → false ≡ total
  refuses bytes i s total lt h so_far =
      ap (λ (o : Option S). option_map_or (λ t. run t (drop (i + 1) bytes)) o false) h ∙ sym
      (run_at bytes i s lt) ∙ so_far

  pub goes_on : (bytes : List ℕ) (i : ℕ) (s t : S) (total : Bool) → i < length bytes
      → Some t ≡ step s (get_or bytes i 0) → run s (drop i bytes) ≡ total
      → run t (drop (i + 1) bytes) ≡ total
  goes_on bytes i s t total lt h so_far =
      ap (λ (o : Option S). option_map_or (λ u. run u (drop (i + 1) bytes)) o false) h ∙ sym
      (run_at bytes i s lt) ∙ so_far

  pub at_end : (bytes : List ℕ) (i : ℕ) (s : S) (total : Bool) → length bytes ≤ i
      → run s (drop i bytes) ≡ total → run s [] ≡ total
  at_end bytes i s total le so_far = ap (run s) (sym (drop_all i bytes le)) ∙ so_far

pub utf8_next : (owed b : ℕ) (bytes : List ℕ)
    → has_utf8_form_after owed (b ∷ bytes)
    ≡ option_map_or (λ n. has_utf8_form_after n bytes) (owed_after owed b) false
unfolding has_utf8_form_after
utf8_next owed b bytes = refl

pub utf8_end : (owed : ℕ) → has_utf8_form_after owed [] ≡ eqb owed 0
unfolding has_utf8_form_after
utf8_end owed = refl

pub class_name_next : (begins : Bool) (b : ℕ) (bytes : List ℕ)
    → is_class_name_from begins (b ∷ bytes)
    ≡ option_map_or (λ after. is_class_name_from after bytes) (name_after begins b) false
unfolding is_class_name_from
class_name_next begins b bytes = refl

pub class_name_end : (begins : Bool) → is_class_name_from begins [] ≡ not begins
unfolding is_class_name_from
class_name_end begins = refl

-- ---- after a class name

pub class_at : (bytes : List ℕ) (i : ℕ) (begins : Bool) → i < length bytes
    → after_class begins (drop i bytes)
    ≡ cond (eqb (get_or bytes i 0) semicolon) (cond begins None (Some (drop (i + 1) bytes)))
    (option_and_then (λ after. after_class after (drop (i + 1) bytes))
    (name_after begins (get_or bytes i 0)))
unfolding after_class
class_at bytes i begins lt = rw (add-one, drop-cons bytes i 0 lt) refl

pub class_semicolon : (bytes : List ℕ) (i : ℕ) (begins : Bool) (total : Option (List ℕ))
    → i < length bytes → get_or bytes i 0 ≡ semicolon
    → after_class begins (drop i bytes) ≡ total
    → cond begins None (Some (drop (i + 1) bytes)) ≡ total
class_semicolon bytes i begins total lt h so_far =
    let test : eqb (get_or bytes i 0) semicolon ≡ true = eq-eqb _ _ h in
    rw test at (sym (class_at bytes i begins lt)) ∙ so_far

pub class_goes_on : (bytes : List ℕ) (i : ℕ) (begins after : Bool) (total : Option (List ℕ))
    → i < length bytes → (get_or bytes i 0 ≡ semicolon → ⊥)
    → Some after ≡ name_after begins (get_or bytes i 0)
    → after_class begins (drop i bytes) ≡ total → after_class after (drop (i + 1) bytes) ≡ total
class_goes_on bytes i begins after total lt h e so_far =
    let test : eqb (get_or bytes i 0) semicolon ≡ false = ne_eqb _ _ h in
    ap (λ (o : Option Bool). option_and_then (λ a. after_class a (drop (i + 1) bytes)) o) e ∙
    (rw test at (sym (class_at bytes i begins lt))) ∙ so_far

pub class_refuses : (bytes : List ℕ) (i : ℕ) (begins : Bool) (total : Option (List ℕ))
    → i < length bytes → (get_or bytes i 0 ≡ semicolon → ⊥)
    → None ≡ name_after begins (get_or bytes i 0)
    → after_class begins (drop i bytes) ≡ total → None ≡ total
class_refuses bytes i begins total lt h e so_far =
    let test : eqb (get_or bytes i 0) semicolon ≡ false = ne_eqb _ _ h in
    ap (λ (o : Option Bool). option_and_then (λ a. after_class a (drop (i + 1) bytes)) o) e ∙
    (rw test at (sym (class_at bytes i begins lt))) ∙ so_far

pub class_ends : (bytes : List ℕ) (i : ℕ) (begins : Bool) (total : Option (List ℕ))
    → length bytes ≤ i → after_class begins (drop i bytes) ≡ total → None ≡ total
unfolding after_class
class_ends bytes i begins total le so_far =
    ap (after_class begins) (sym (drop_all i bytes le)) ∙ so_far

-- ---- after a field descriptor

-- a bracket is one more dimension
pub field_bracket : (n i : ℕ) (b : ℕ) (rest inner : List ℕ) (total : Option (List ℕ)) → i < n
    → rest ≡ b ∷ inner → b ≡ bracket
    → after_field (n - i) rest ≡ total → after_field (n - (i + 1)) inner ≡ total
unfolding after_field
field_bracket n i b rest inner total lt parts is so_far =
    let k : n - i ≡ suc (n - (i + 1)) = omega arith in
    let one : after_field (n - i) rest ≡ after_field (n - (i + 1)) inner = rw (k, parts, is) refl in
    sym one ∙ so_far

-- without one the number of dimensions doesn't matter
pub field_element : (n : ℕ) (b : ℕ) (rest inner : List ℕ) (total : Option (List ℕ))
    → rest ≡ b ∷ inner → (b ≡ bracket → ⊥)
    → after_field n rest ≡ total → after_field 0 rest ≡ total
unfolding after_field
field_element zero b rest inner total parts is so_far = so_far
field_element (suc n) b rest inner total parts is so_far =
    let test : eqb b bracket ≡ false = ne_eqb b bracket is in
    let one : after_field (suc n) rest ≡ after_field 0 rest = rw (parts, test) refl in
    sym one ∙ so_far

pub field_nothing : (n : ℕ) (rest : List ℕ) (total : Option (List ℕ)) → rest ≡ []
    → after_field n rest ≡ total → None ≡ total
unfolding after_field
field_nothing zero rest total e so_far =
    let one : after_field 0 rest ≡ None = rw e refl in sym one ∙ so_far
field_nothing (suc n) rest total e so_far =
    let one : after_field (suc n) rest ≡ None = rw e refl in sym one ∙ so_far

-- ---- parameters

-- what is added to the units that are read after it
abbrev pub with_units : ℕ → Option (ℕ × List ℕ) → Option (ℕ × List ℕ)
with_units n read = option_and_then (λ p. Some (n + p.0, p.1)) read

units_add : (m n : ℕ) (read : Option (ℕ × List ℕ))
    → with_units m (with_units n read) ≡ with_units (m + n) read
units_add m n None = refl
units_add m n (Some p) = ap (λ (k : ℕ). Some (k, p.1)) (sym (add_assoc m n p.0))

pub parameters_end : (n i units b : ℕ) (rest inner : List ℕ) (total : Option (ℕ × List ℕ)) → i < n
    → rest ≡ b ∷ inner → b ≡ 41
    → with_units units (parameters (n - i) rest) ≡ total → Some (units, inner) ≡ total
unfolding parameters
parameters_end n i units b rest inner total lt parts is so_far =
    let k : n - i ≡ suc (n - (i + 1)) = omega arith in
    let one : with_units units (parameters (n - i) rest) ≡ Some (units, inner) =
    rw (k, parts, is) (ap (λ (u : ℕ). Some (u, inner)) (add-zero units)) in
    sym one ∙ so_far

parameters_next : (n i units b : ℕ) (rest inner : List ℕ) → i < n → rest ≡ b ∷ inner → (b ≡ 41 → ⊥)
    → parameters (n - i) rest
    ≡ option_and_then (λ behind. with_units (units_of_first rest) (parameters (n - (i + 1)) behind))
    (after_field 255 rest)
unfolding parameters
parameters_next n i units b rest inner lt parts is =
    let k : n - i ≡ suc (n - (i + 1)) = omega arith in
    let test : eqb b 41 ≡ false = ne_eqb b 41 is in
    rw (k, parts, test) refl

pub parameters_goes_on : (n i units b : ℕ) (rest inner behind : List ℕ)
    (total : Option (ℕ × List ℕ)) → i < n → rest ≡ b ∷ inner → (b ≡ 41 → ⊥)
    → Some behind ≡ after_field 255 rest
    → with_units units (parameters (n - i) rest) ≡ total
    → with_units (units + units_of_first rest) (parameters (n - (i + 1)) behind) ≡ total
parameters_goes_on n i units b rest inner behind total lt parts is h so_far =
    let next = parameters_next n i units b rest inner lt parts is in
    let read : parameters (n - i) rest
    ≡ with_units (units_of_first rest) (parameters (n - (i + 1)) behind) =
    next ∙ ap (λ (o : Option (List ℕ)).
    option_and_then (λ l. with_units (units_of_first rest) (parameters (n - (i + 1)) l)) o)
    (sym h) in
    sym (units_add units (units_of_first rest) (parameters (n - (i + 1)) behind)) ∙ ap
    (with_units units) (sym read) ∙ so_far

pub parameters_refuse : (n i units b : ℕ) (rest inner : List ℕ) (total : Option (ℕ × List ℕ))
    → i < n → rest ≡ b ∷ inner → (b ≡ 41 → ⊥) → None ≡ after_field 255 rest
    → with_units units (parameters (n - i) rest) ≡ total → None ≡ total
parameters_refuse n i units b rest inner total lt parts is h so_far =
    let next = parameters_next n i units b rest inner lt parts is in
    let read : parameters (n - i) rest ≡ None =
    next ∙ ap (λ (o : Option (List ℕ)).
    option_and_then (λ l. with_units (units_of_first rest) (parameters (n - (i + 1)) l)) o)
    (sym h) in
    ap (with_units units) (sym read) ∙ so_far

pub parameters_nothing : (n units : ℕ) (rest : List ℕ) (total : Option (ℕ × List ℕ)) → rest ≡ []
    → with_units units (parameters n rest) ≡ total → None ≡ total
unfolding parameters
parameters_nothing zero units rest total e so_far = so_far
parameters_nothing (suc n) units rest total e so_far =
    let one : parameters (suc n) rest ≡ None = rw e refl in ap (with_units units) (sym one) ∙ so_far

pub parameters_over : (n i units : ℕ) (rest : List ℕ) (total : Option (ℕ × List ℕ)) → n ≤ i
    → with_units units (parameters (n - i) rest) ≡ total → None ≡ total
unfolding parameters
parameters_over n i units rest total le so_far =
    let k : n - i ≡ 0 = omega arith in
    let one : parameters (n - i) rest ≡ None = rw k refl in
    ap (with_units units) (sym one) ∙ so_far

pub units_small : (bytes : List ℕ) → units_of_first bytes ≤ 2
units_small bytes = by_test (begins_with 68 bytes || begins_with 74 bytes)
  where
    by_test : (t : Bool) → cond t 2 1 ≤ 2
    by_test true = omega arith
    by_test false = omega arith

-- ---- byte strings of which more is known

pub both_true : (x y : Bool) → x && y ≡ true → (x ≡ true) × (y ≡ true)
both_true true y e = (refl, e)
both_true false y e = absurd cc

pub not_true : (x : Bool) → not x ≡ true → x ≡ false
not_true true e = absurd cc
not_true false e = refl

plain_after : (bytes : List ℕ) → list_all (is_within 0x01 0x7F) bytes ≡ true
    → has_utf8_form_after 0 bytes ≡ true
unfolding has_utf8_form_after
plain_after [] h = refl
plain_after (b ∷ bytes) h =
    let both = both_true (is_within 0x01 0x7F b) (list_all (is_within 0x01 0x7F) bytes) h in
    rw both.0 (plain_after bytes both.1)

-- what is plain has the form
pub plain_has_form : (bytes : List ℕ) → list_all (is_within 0x01 0x7F) bytes ≡ true
    → has_utf8_form bytes ≡ true
unfolding has_utf8_form
plain_has_form bytes h = plain_after bytes h

pub name_step : (begins : Bool) (b : ℕ) → is_name_byte b ≡ true → name_after begins b ≡ Some false
unfolding name_after
name_step begins b h =
    let slash_is : eqb b slash ≡ false =
    not_true (eqb b slash)
    (both_true (not (eqb b dot) && not (eqb b semicolon) && not (eqb b bracket))
    (not (eqb b slash)) h).1 in
    ap (λ x. cond x (cond begins None (Some true)) (cond (is_name_byte b) (Some false) None))
    slash_is ∙ ap (λ x. cond x (Some false) None) h

names_on : (bytes : List ℕ) → list_all is_name_byte bytes ≡ true
    → is_class_name_from false bytes ≡ true
unfolding is_class_name_from
names_on [] h = refl
names_on (b ∷ bytes) h =
    let both = both_true (is_name_byte b) (list_all is_name_byte bytes) h in
    rw (name_step false b both.0) (names_on bytes both.1)

-- an unqualified name is a class name
pub name_is_class_name : (bytes : List ℕ) → is_unqualified_name bytes ≡ true
    → is_class_name bytes ≡ true
unfolding is_unqualified_name is_class_name is_class_name_from
name_is_class_name [] h = absurd cc
name_is_class_name (b ∷ bytes) h =
    let named = both_true (not (is_empty (b ∷ bytes))) (list_all is_name_byte (b ∷ bytes)) h in
    let both = both_true (is_name_byte b) (list_all is_name_byte bytes) named.1 in
    rw (name_step true b both.0) (names_on bytes both.1)
