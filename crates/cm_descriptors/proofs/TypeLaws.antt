-- A descriptor is exactly the spelling of a type.
-- For `field_descriptor_spells_a_type`, `method_descriptor_spells_types`.
use Rattle.std.proofs.Common.{◌≡◌, ⊎_elim, ℕ, zero, suc, ◌+◌, ◌<◌, ◌≤◌, Bool, true, false, eqb}
use Rattle.std.proofs.Common.{cond, List, [], ◌∷◌, ◌++◌, length, Option, Some, None, refl, sym, ap}
use Rattle.std.proofs.Common.{ap₂, ◌∙◌, arith, IsTrue, ◌↔◌}
use Rattle.std.specs.Prelude.{◌&&◌, ◌||◌, bytes_eq, nat_le, IfSome}
use Rattle.std.specs.List.{flat_map, AllByRecursion}
use Rattle.std.specs.Option.{option_map_or, option_and_then}
use Rattle.std.specs.Cmp.Lexicographic.{bytes_decides}
use Rattle.std.proofs.lemmas.Bool.{or_cases, or_right, and_parts, and_from, leb-true, le-leb}
use Rattle.std.proofs.lemmas.Bool.{eqb-true, ne_eqb}
use Rattle.std.proofs.lemmas.List.{append-nil, append_assoc, length-append}
use Rattle.cm_descriptors.specs.Forms.{semicolon, bracket, is_empty, name_after, is_class_name}
use Rattle.cm_descriptors.specs.Forms.{is_class_name_from, is_base_type, after_class, after_field}
use Rattle.cm_descriptors.specs.Forms.{is_field_descriptor, units_of_first, parameters}
use Rattle.cm_descriptors.specs.Forms.{is_return_descriptor, method_units, is_method_descriptor}
use Rattle.cm_descriptors.specs.Types.{BaseType, Byte, Char, Double, Float, Int, Long, Short}
use Rattle.cm_descriptors.specs.Types.{Boolean}
use Rattle.cm_descriptors.specs.Types.{letter, FieldType, Base, Class, Array, field_descriptor}
use Rattle.cm_descriptors.specs.Types.{dimensions, NamesClasses, IsFieldType, SpellsFieldType}
use Rattle.cm_descriptors.specs.Types.{MethodType}
use Rattle.cm_descriptors.specs.Types.{return_descriptor, method_descriptor, units, all_units}
use Rattle.cm_descriptors.specs.Types.{IsMethodType, SpellsMethodType}

-- ---- base types

pub record IsLetter (b : ℕ) : Type 0 where
  pub base : BaseType
  pub is : letter base ≡ b

is_letter : (base : BaseType) (b : ℕ) → eqb b (letter base) ≡ true → IsLetter b
is_letter base b h = record { base = base; is = sym (eqb-true b (letter base) h) }

base_of : (b : ℕ) → is_base_type b ≡ true → IsLetter b
base_of b h =
    ⊎_elim (λ h.
    ⊎_elim (λ h.
    ⊎_elim (λ h.
    ⊎_elim (λ h.
    ⊎_elim (λ h.
    ⊎_elim (λ h.
    ⊎_elim (is_letter Byte b) (is_letter Char b) (or_cases (eqb b 66) (eqb b 67) h))
    (is_letter Double b) (or_cases (eqb b 66 || eqb b 67) (eqb b 68) h))
    (is_letter Float b) (or_cases (eqb b 66 || eqb b 67 || eqb b 68) (eqb b 70) h))
    (is_letter Int b) (or_cases (eqb b 66 || eqb b 67 || eqb b 68 || eqb b 70) (eqb b 73) h))
    (is_letter Long b)
    (or_cases (eqb b 66 || eqb b 67 || eqb b 68 || eqb b 70 || eqb b 73) (eqb b 74) h))
    (is_letter Short b)
    (or_cases (eqb b 66 || eqb b 67 || eqb b 68 || eqb b 70 || eqb b 73 || eqb b 74) (eqb b 83)
    h))
    (is_letter Boolean b)
    (or_cases (eqb b 66 || eqb b 67 || eqb b 68 || eqb b 70 || eqb b 73 || eqb b 74 || eqb b 83)
    (eqb b 90) h)

-- ---- class names with a semicolon

-- no name continues with a semicolon
no_semicolon : (begins : Bool) (b : ℕ) (after : Bool) → name_after begins b ≡ Some after
    → eqb b semicolon ≡ false
unfolding name_after
no_semicolon begins b after h = ne_eqb b semicolon (λ e. refused begins (rw e at h))
  where
    refused : (begins : Bool) → name_after begins semicolon ≡ Some after → ⊥
    refused true e = cc
    refused false e = cc

-- a name that continues is read up to its semicolon
named : (begins : Bool) (name rest : List ℕ) → is_class_name_from begins name ≡ true
    → after_class begins (name ++ semicolon ∷ rest) ≡ Some rest
unfolding is_class_name_from after_class
named true [] rest h = absurd cc
named false [] rest h = refl
named begins (b ∷ name) rest h =
    by_option (name_after begins b) refl h (λ after. named after name rest)
  where
    by_option : (o : Option Bool) → name_after begins b ≡ o
        → option_map_or (λ after. is_class_name_from after name) o false ≡ true
        → ((after : Bool) → is_class_name_from after name ≡ true
        → after_class after (name ++ semicolon ∷ rest) ≡ Some rest)
        → cond (eqb b semicolon) (cond begins None (Some (name ++ semicolon ∷ rest)))
        (option_and_then (λ after. after_class after (name ++ semicolon ∷ rest))
        (name_after begins b)) ≡ Some rest
    by_option None e h on = absurd cc
    by_option (Some after) e h on =
        ap (λ t. cond t (cond begins None (Some (name ++ semicolon ∷ rest)))
        (option_and_then (λ after. after_class after (name ++ semicolon ∷ rest))
        (name_after begins b))) (no_semicolon begins b after e)
        ∙ ap (λ o. option_and_then (λ after. after_class after (name ++ semicolon ∷ rest)) o) e
        ∙ on after h

pub record HasName (begins : Bool) (bytes rest : List ℕ) : Type 0 where
  pub name : List ℕ
  pub is : is_class_name_from begins name ≡ true
  pub before : name ++ semicolon ∷ rest ≡ bytes

-- what is read up to a semicolon is a name
name_of : (begins : Bool) (bytes rest : List ℕ) → after_class begins bytes ≡ Some rest
    → HasName begins bytes rest
unfolding is_class_name_from after_class
name_of begins [] rest h = absurd cc
name_of begins (b ∷ bytes) rest h =
    by_tests begins (eqb b semicolon) (name_after begins b) refl refl h
    (λ after. name_of after bytes rest)
  where
    at_end : b ≡ semicolon → bytes ≡ rest → HasName false (b ∷ bytes) rest
    at_end e f = record { name = []; is = refl; before = rw (e, f) refl }

    one_more : (begins after : Bool) → name_after begins b ≡ Some after → HasName after bytes rest
        → HasName begins (b ∷ bytes) rest
    one_more begins after e on = record {
      name = b ∷ on.name;
      is = ap (λ o. option_map_or (λ t. is_class_name_from t on.name) o false) e ∙ on.is;
      before = ap (λ l. b ∷ l) on.before;
    }

    same : (xs ys : List ℕ) → ◌≡◌ {A = Option (List ℕ)} (Some xs) (Some ys) → xs ≡ ys
    same xs ys e = cc

    by_tests : (begins s : Bool) (o : Option Bool) → s ≡ eqb b semicolon → name_after begins b ≡ o
        → cond s (cond begins None (Some bytes))
        (option_and_then (λ after. after_class after bytes) o) ≡ Some rest
        → ((after : Bool) → after_class after bytes ≡ Some rest → HasName after bytes rest)
        → HasName begins (b ∷ bytes) rest
    by_tests true true o es eo h on = absurd cc
    by_tests false true o es eo h on = at_end (eqb-true b semicolon (sym es)) (same bytes rest h)
    by_tests begins false None es eo h on = absurd cc
    by_tests begins false (Some after) es eo h on = one_more begins after eo (on after h)

-- ---- types of fields

-- the type that bytes begin with, of at most `most` dimensions
pub record HasType (most : ℕ) (bytes rest : List ℕ) : Type 0 where
  pub type : FieldType
  pub named : NamesClasses type
  pub few_dimensions : dimensions type ≤ most
  pub before : field_descriptor type ++ rest ≡ bytes

element_type : (most : ℕ) (b : ℕ) (bytes rest : List ℕ)
    → cond (eqb b 76) (after_class true bytes) (cond (is_base_type b) (Some bytes) None) ≡ Some rest
    → HasType most (b ∷ bytes) rest
unfolding is_class_name
element_type most b bytes rest h = by_tests (eqb b 76) (is_base_type b) refl refl h
  where
    of_class : b ≡ 76 → HasName true bytes rest → HasType most (b ∷ bytes) rest
    of_class e has = record {
      type = Class has.name;
      named = has.is;
      few_dimensions = omega arith;
      before = rw e (ap (λ l. 76 ∷ l) (append_assoc has.name (semicolon ∷ []) rest ∙ has.before));
    }

    of_base : IsLetter b → bytes ≡ rest → HasType most (b ∷ bytes) rest
    of_base is e = record {
      type = Base is.base;
      named = tt;
      few_dimensions = omega arith;
      before = rw (is.is, e) refl;
    }

    same : (xs ys : List ℕ) → ◌≡◌ {A = Option (List ℕ)} (Some xs) (Some ys) → xs ≡ ys
    same xs ys e = cc

    by_tests : (l base : Bool) → l ≡ eqb b 76 → base ≡ is_base_type b
        → cond l (after_class true bytes) (cond base (Some bytes) None) ≡ Some rest
        → HasType most (b ∷ bytes) rest
    by_tests true base el eb h = of_class (eqb-true b 76 (sym el)) (name_of true bytes rest h)
    by_tests false true el eb h = of_base (base_of b (sym eb)) (same bytes rest h)
    by_tests false false el eb h = absurd cc

type_of : (most : ℕ) (bytes rest : List ℕ) → after_field most bytes ≡ Some rest
    → HasType most bytes rest
unfolding after_field
type_of zero [] rest h = absurd cc
type_of (suc n) [] rest h = absurd cc
type_of zero (b ∷ bytes) rest h = element_type 0 b bytes rest h
type_of (suc n) (b ∷ bytes) rest h = by_test (eqb b bracket) refl h (type_of n bytes rest)
  where
    of_array : b ≡ bracket → HasType n bytes rest → HasType (suc n) (b ∷ bytes) rest
    of_array e has = record {
      type = Array has.type;
      named = has.named;
      few_dimensions = omega (arith, has.few_dimensions);
      before = rw e (ap (λ l. bracket ∷ l) has.before);
    }

    by_test : (t : Bool) → t ≡ eqb b bracket
        → cond t (after_field n bytes)
        (cond (eqb b 76) (after_class true bytes) (cond (is_base_type b) (Some bytes) None))
        ≡ Some rest
        → (after_field n bytes ≡ Some rest → HasType n bytes rest)
        → HasType (suc n) (b ∷ bytes) rest
    by_test true e h on = of_array (eqb-true b bracket (sym e)) (on h)
    by_test false e h on = element_type (suc n) b bytes rest h

base_after : (n : ℕ) (base : BaseType) (rest : List ℕ)
    → after_field n (letter base ∷ rest) ≡ Some rest
unfolding after_field
base_after zero Byte rest = refl
base_after zero Char rest = refl
base_after zero Double rest = refl
base_after zero Float rest = refl
base_after zero Int rest = refl
base_after zero Long rest = refl
base_after zero Short rest = refl
base_after zero Boolean rest = refl
base_after (suc n) Byte rest = refl
base_after (suc n) Char rest = refl
base_after (suc n) Double rest = refl
base_after (suc n) Float rest = refl
base_after (suc n) Int rest = refl
base_after (suc n) Long rest = refl
base_after (suc n) Short rest = refl
base_after (suc n) Boolean rest = refl

class_after : (n : ℕ) (bytes : List ℕ) → after_field n (76 ∷ bytes) ≡ after_class true bytes
unfolding after_field
class_after zero bytes = refl
class_after (suc n) bytes = refl

array_after : (n : ℕ) (bytes : List ℕ) → after_field (suc n) (bracket ∷ bytes) ≡ after_field n bytes
unfolding after_field
array_after n bytes = refl

type_after : (type : FieldType) (n : ℕ) (rest : List ℕ) → NamesClasses type → dimensions type ≤ n
    → after_field n (field_descriptor type ++ rest) ≡ Some rest
unfolding is_class_name
type_after (Base base) n rest is few = base_after n base rest
type_after (Class name) n rest is few =
    class_after n ((name ++ semicolon ∷ []) ++ rest) ∙ ap (after_class true)
    (append_assoc name (semicolon ∷ []) rest) ∙ named true name rest is
type_after (Array element) zero rest is few = absurd (omega (arith, few))
type_after (Array element) (suc n) rest is few =
    array_after n (field_descriptor element ++ rest) ∙ type_after element n rest is
    (omega (arith, few))

none_left : (rest : List ℕ) → is_empty rest ≡ true → rest ≡ []
none_left [] h = refl
none_left (b ∷ rest) h = absurd (omega (arith, eqb-true (length (b ∷ rest)) 0 h))

pub spells_field_type : (bytes : List ℕ) → IsTrue (is_field_descriptor bytes)
    ↔ SpellsFieldType bytes
unfolding is_field_descriptor
spells_field_type bytes = (λ h. forth (after_field 255 bytes) refl h, back)
  where
    whole : (rest : List ℕ) → rest ≡ [] → HasType 255 bytes rest → SpellsFieldType bytes
    whole rest e has = (
      has.type,
      record { named = has.named; few_dimensions = has.few_dimensions },
      sym (append-nil (field_descriptor has.type)) ∙ ap (λ l. field_descriptor has.type ++ l)
          (sym e) ∙ has.before,
    )

    forth : (o : Option (List ℕ)) → after_field 255 bytes ≡ o
        → option_map_or is_empty o false ≡ true → SpellsFieldType bytes
    forth None e h = absurd cc
    forth (Some rest) e h = whole rest (none_left rest h) (type_of 255 bytes rest e)

    back : SpellsFieldType bytes → option_map_or is_empty (after_field 255 bytes) false ≡ true
    back are =
        let read : after_field 255 bytes ≡ Some [] =
        ap (after_field 255) (sym are.2 ∙ sym (append-nil (field_descriptor are.0))) ∙
        type_after are.0 255 [] are.1.named are.1.few_dimensions in
        ap (λ o. option_map_or is_empty o false) read

-- ---- types of methods

first_units : (type : FieldType) (rest : List ℕ)
    → units_of_first (field_descriptor type ++ rest) ≡ units type
first_units (Base Byte) rest = refl
first_units (Base Char) rest = refl
first_units (Base Double) rest = refl
first_units (Base Float) rest = refl
first_units (Base Int) rest = refl
first_units (Base Long) rest = refl
first_units (Base Short) rest = refl
first_units (Base Boolean) rest = refl
first_units (Class name) rest = refl
first_units (Array element) rest = refl

-- the parameters that bytes begin with, up to `)`
pub record HasParameters (read : ℕ × List ℕ) (bytes : List ℕ) : Type 0 where
  pub types : List FieldType
  pub are : AllByRecursion IsFieldType types
  pub units_are : all_units types ≡ read.0
  pub before : flat_map field_descriptor types ++ 41 ∷ read.1 ≡ bytes

parameters_of : (most : ℕ) (bytes : List ℕ) (read : ℕ × List ℕ) → parameters most bytes ≡ Some read
    → HasParameters read bytes
unfolding parameters
parameters_of zero bytes read h = absurd cc
parameters_of (suc n) [] read h = absurd cc
parameters_of (suc n) (b ∷ bytes) read h = by_test (eqb b 41) refl h (parameters_of n)
  where
    pairs : (p q : ℕ × List ℕ) → ◌≡◌ {A = Option (ℕ × List ℕ)} (Some p) (Some q) → p ≡ q
    pairs p q e = cc

    at_end : b ≡ 41 → (0, bytes) ≡ read → HasParameters read (b ∷ bytes)
    at_end e same = rw (e, ← same) record { types = []; are = tt; units_are = refl; before = refl }

    one_more : (rest : List ℕ) (others : ℕ × List ℕ) → HasType 255 (b ∷ bytes) rest
        → HasParameters others rest
        → ◌≡◌ {A = ℕ × List ℕ} (units_of_first (b ∷ bytes) + others.0, others.1) read
        → HasParameters read (b ∷ bytes)
    one_more rest others has on same = rw (← same) record {
      types = has.type ∷ on.types;
      are = (record { named = has.named; few_dimensions = has.few_dimensions }, on.are);
      units_are = ap₂ (λ (m : ℕ) (n : ℕ). m + n)
          (sym (first_units has.type rest) ∙ ap units_of_first has.before) on.units_are;
      before = append_assoc (field_descriptor has.type) (flat_map field_descriptor on.types)
          (41 ∷ others.1) ∙ ap (λ l. field_descriptor has.type ++ l) on.before ∙ has.before;
    }

    behind : ((rest : List ℕ) (others : ℕ × List ℕ) → parameters n rest ≡ Some others
        → HasParameters others rest)
        → (rest : List ℕ) (o : Option (ℕ × List ℕ)) → after_field 255 (b ∷ bytes) ≡ Some rest
        → parameters n rest ≡ o
        → option_and_then (λ others. Some (units_of_first (b ∷ bytes) + others.0, others.1)) o
        ≡ Some read → HasParameters read (b ∷ bytes)
    behind on rest None e f h = absurd cc
    behind on rest (Some others) e f h =
        one_more rest others (type_of 255 (b ∷ bytes) rest e) (on rest others f)
        (pairs (units_of_first (b ∷ bytes) + others.0, others.1) read h)

    field : ((rest : List ℕ) (others : ℕ × List ℕ) → parameters n rest ≡ Some others
        → HasParameters others rest)
        → (o : Option (List ℕ)) → after_field 255 (b ∷ bytes) ≡ o
        → option_and_then
        (λ rest. option_and_then (λ others. Some (units_of_first (b ∷ bytes) + others.0, others.1))
        (parameters n rest)) o ≡ Some read → HasParameters read (b ∷ bytes)
    field on None e h = absurd cc
    field on (Some rest) e h = behind on rest (parameters n rest) e refl h

    by_test : (t : Bool) → t ≡ eqb b 41
        → cond t (Some (0, bytes))
        (option_and_then
        (λ rest. option_and_then (λ others. Some (units_of_first (b ∷ bytes) + others.0, others.1))
        (parameters n rest)) (after_field 255 (b ∷ bytes))) ≡ Some read
        → ((rest : List ℕ) (others : ℕ × List ℕ) → parameters n rest ≡ Some others
        → HasParameters others rest) → HasParameters read (b ∷ bytes)
    by_test true e h on = at_end (eqb-true b 41 (sym e)) (pairs (0, bytes) read h)
    by_test false e h on = field on (after_field 255 (b ∷ bytes)) refl h

-- a descriptor has a first byte, which isn't the end of parameters
pub record HasHead (type : FieldType) : Type 0 where
  pub first : ℕ
  pub inner : List ℕ
  pub parts : field_descriptor type ≡ first ∷ inner
  pub goes_on : eqb first 41 ≡ false

head_of : (type : FieldType) → HasHead type
head_of (Base base) =
    record { first = letter base; inner = []; parts = refl; goes_on = no_end base }
  where
    no_end : (base : BaseType) → eqb (letter base) 41 ≡ false
    no_end Byte = refl
    no_end Char = refl
    no_end Double = refl
    no_end Float = refl
    no_end Int = refl
    no_end Long = refl
    no_end Short = refl
    no_end Boolean = refl
head_of (Class name) =
    record { first = 76; inner = name ++ semicolon ∷ []; parts = refl; goes_on = refl }
head_of (Array element) =
    record { first = bracket; inner = field_descriptor element; parts = refl; goes_on = refl }

abbrev with_first : ℕ → Option (ℕ × List ℕ) → Option (ℕ × List ℕ)
with_first n o = option_and_then (λ others. Some (n + others.0, others.1)) o

parameter_step : (n b : ℕ) (inner : List ℕ) → eqb b 41 ≡ false
    → parameters (suc n) (b ∷ inner)
    ≡ option_and_then (λ rest. with_first (units_of_first (b ∷ inner)) (parameters n rest))
    (after_field 255 (b ∷ inner))
unfolding parameters
parameter_step n b inner h = rw h refl

parameter_read : (type : FieldType) (n : ℕ) (tail : List ℕ) → IsFieldType type
    → parameters (suc n) (field_descriptor type ++ tail)
    ≡ with_first (units type) (parameters n tail)
parameter_read type n tail is =
    let head = head_of type in
    let bytes : field_descriptor type ++ tail ≡ head.first ∷ (head.inner ++ tail) =
    ap (λ l. l ++ tail) head.parts in
    let read : after_field 255 (head.first ∷ (head.inner ++ tail)) ≡ Some tail =
    ap (after_field 255) (sym bytes) ∙ type_after type 255 tail is.named is.few_dimensions in
    let first : units_of_first (head.first ∷ (head.inner ++ tail)) ≡ units type =
    ap units_of_first (sym bytes) ∙ first_units type tail in
    ap (parameters (suc n)) bytes ∙ parameter_step n head.first (head.inner ++ tail) head.goes_on
    ∙ ap (λ o. option_and_then
    (λ rest. with_first (units_of_first (head.first ∷ (head.inner ++ tail)))
    (parameters n rest)) o) read
    ∙ ap (λ u. with_first u (parameters n tail)) first

parameters_read : (types : List FieldType) (n : ℕ) (rest : List ℕ)
    → AllByRecursion IsFieldType types → length types < n
    → parameters n (flat_map field_descriptor types ++ 41 ∷ rest) ≡ Some (all_units types, rest)
unfolding parameters
parameters_read types zero rest are lt = absurd (omega (arith, lt))
parameters_read [] (suc n) rest are lt = refl
parameters_read (type ∷ types) (suc n) rest are lt =
    ap (parameters (suc n))
    (append_assoc (field_descriptor type) (flat_map field_descriptor types) (41 ∷ rest))
    ∙ parameter_read type n (flat_map field_descriptor types ++ 41 ∷ rest) are.0
    ∙ ap (with_first (units type)) (parameters_read types n rest are.1 (omega (arith, lt)))

descriptor_long : (type : FieldType) → 1 ≤ length (field_descriptor type)
descriptor_long (Base base) = omega arith
descriptor_long (Class name) = omega arith
descriptor_long (Array element) = omega arith

descriptors_long : (types : List FieldType)
    → length types ≤ length (flat_map field_descriptor types)
descriptors_long [] = omega arith
descriptors_long (type ∷ types) =
    omega (
      arith,
      descriptor_long type,
      descriptors_long types,
      length-append (field_descriptor type) (flat_map field_descriptor types),
    )

-- ---- what is returned

pub record Returns (bytes : List ℕ) : Type 0 where
  pub returned : Option FieldType
  pub is : IfSome returned IsFieldType
  pub spelled : return_descriptor returned ≡ bytes

returned_of : (bytes : List ℕ) → is_return_descriptor bytes ≡ true → Returns bytes
returned_of bytes h =
    ⊎_elim nothing something (or_cases (bytes_eq bytes (86 ∷ [])) (is_field_descriptor bytes) h)
  where
    nothing : bytes_eq bytes (86 ∷ []) ≡ true → Returns bytes
    nothing e = record {
      returned =
          None;
      is = tt;
      spelled = sym ((bytes_decides bytes (86 ∷ [])).0 e);
    }

    something : is_field_descriptor bytes ≡ true → Returns bytes
    something e =
        let type = (spells_field_type bytes).0 e in
        record { returned = Some type.0; is = type.1; spelled = type.2 }

return_read : (returned : Option FieldType) → IfSome returned IsFieldType
    → is_return_descriptor (return_descriptor returned) ≡ true
return_read None is = refl
return_read (Some type) is =
    let read : is_field_descriptor (field_descriptor type) ≡ true =
    (spells_field_type (field_descriptor type)).1 (type, is, refl) in
    or_right (bytes_eq (field_descriptor type) (86 ∷ []))
    (is_field_descriptor (field_descriptor type)) read

-- ---- methods

abbrev fits : ℕ × List ℕ → Bool
fits p = is_return_descriptor p.1 && nat_le p.0 255

abbrev units_if : ℕ × List ℕ → Option ℕ
units_if p = cond (fits p) (Some p.0) None

pub spells_method_type : (bytes : List ℕ) (n : ℕ) → (method_units bytes ≡ Some n)
    ↔ SpellsMethodType bytes n
unfolding method_units
spells_method_type bytes n = (forth bytes, back)
  where
    whole : (b : ℕ) (bytes : List ℕ) (p : ℕ × List ℕ) → b ≡ 40 → HasParameters p bytes → Returns p.1
        → p.0 ≤ 255 → p.0 ≡ n → SpellsMethodType (b ∷ bytes) n
    whole b bytes p e has returns few same =
        let method : MethodType = record { parameters = has.types; returned = returns.returned } in
        let fit : IsMethodType method =
        record {
          parameters =
              has.are;
          returned = returns.is;
          few_units = omega (arith, few, has.units_are);
        } in
        let spelled : method_descriptor method ≡ b ∷ bytes =
        rw e (ap (λ l. 40 ∷ l)
        (ap (λ l. flat_map field_descriptor has.types ++ 41 ∷ l) returns.spelled ∙ has.before))
        in
        (method, fit, spelled, has.units_are ∙ same)

    by_fit : (b : ℕ) (bytes : List ℕ) (p : ℕ × List ℕ) (t : Bool) → b ≡ 40
        → parameters (length bytes) bytes ≡ Some p → t ≡ fits p → cond t (Some p.0) None ≡ Some n
        → SpellsMethodType (b ∷ bytes) n
    by_fit b bytes p false e f g h = absurd cc
    by_fit b bytes p true e f g h =
        let both = and_parts (is_return_descriptor p.1) (nat_le p.0 255) (sym g) in
        let same : p.0 ≡ n = cc in
        whole b bytes p e (parameters_of (length bytes) bytes p f) (returned_of p.1 both.0)
        (leb-true p.0 255 both.1) same

    by_parameters : (b : ℕ) (bytes : List ℕ) (o : Option (ℕ × List ℕ)) → b ≡ 40
        → parameters (length bytes) bytes ≡ o → option_and_then units_if o ≡ Some n
        → SpellsMethodType (b ∷ bytes) n
    by_parameters b bytes None e f h = absurd cc
    by_parameters b bytes (Some p) e f h = by_fit b bytes p (fits p) e f refl h

    by_test : (b : ℕ) (bytes : List ℕ) (t : Bool) → t ≡ eqb b 40
        → cond t (option_and_then units_if (parameters (length bytes) bytes)) None ≡ Some n
        → SpellsMethodType (b ∷ bytes) n
    by_test b bytes true e h =
        by_parameters b bytes (parameters (length bytes) bytes) (eqb-true b 40 (sym e)) refl h
    by_test b bytes false e h = absurd cc

    forth : (bytes : List ℕ) → method_units bytes ≡ Some n → SpellsMethodType bytes n
    forth [] h = absurd cc
    forth (b ∷ bytes) h = by_test b bytes (eqb b 40) refl h

    back : SpellsMethodType bytes n → method_units bytes ≡ Some n
    back are =
        let method = are.0 in
        let inner = flat_map field_descriptor method.parameters
        ++ 41 ∷ return_descriptor method.returned in
        let long : length method.parameters < length inner =
        omega (
          arith,
          descriptors_long method.parameters,
          length-append (flat_map field_descriptor method.parameters)
              (41 ∷ return_descriptor method.returned),
        ) in
        let read : parameters (length inner) inner
        ≡ Some (all_units method.parameters, return_descriptor method.returned) =
        parameters_read method.parameters (length inner) (return_descriptor method.returned)
        are.1.parameters long in
        let fit : fits (all_units method.parameters, return_descriptor method.returned) ≡ true =
        and_from (is_return_descriptor (return_descriptor method.returned))
        (nat_le (all_units method.parameters) 255) (return_read method.returned are.1.returned)
        (le-leb (all_units method.parameters) 255 are.1.few_units) in
        ap method_units (sym are.2) ∙ ap (λ o. option_and_then units_if o) read ∙ ap
        (λ t. cond t (Some (all_units method.parameters)) None) fit ∙ ap (λ k. Some k) are.3

pub is_spelled : (bytes : List ℕ) → IsTrue (is_method_descriptor bytes)
    ↔ ((n : ℕ) × SpellsMethodType bytes n)
is_spelled bytes = (
  forth (method_units bytes) refl,
  λ are. ap (λ o. option_map_or (λ _. true) o false) ((spells_method_type bytes are.0).1 are.1),
)
  where
    forth : (o : Option ℕ) → method_units bytes ≡ o → option_map_or (λ _. true) o false ≡ true
        → (n : ℕ) × SpellsMethodType bytes n
    forth None e h = absurd cc
    forth (Some n) e h = (n, (spells_method_type bytes n).0 e)
