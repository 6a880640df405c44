-- Names and their spellings.
-- On `UnescapingUndoes`, `rest`, `is_plain`.
use Rattle.std.proofs.Common.{◌≡◌, ◌<◌, ◌+◌, ◌*◌, ◌/◌, ◌%◌, ℕ, suc, Bool, true, false, cond, List}
use Rattle.std.proofs.Common.{[], ◌∷◌, ◌++◌, Option, Some, None, refl, sym, ap, ◌∙◌, arith, eqb}
use Rattle.std.specs.Option.{option_map, option_and_then}
use Rattle.std.proofs.lemmas.Bool.{eqb-true}
use Rattle.std.proofs.lemmas.Bool.Decides.{nat_tests}
use Rattle.std.proofs.lemmas.List.Elements.{All-head, All-tail}
use Rattle.cm_lines.specs.declared.escape.Awaited.{Awaited}
use Rattle.cm_lines.specs.declared.escape.Awaited.TheVariants.{Any, High, Low}
use Rattle.cm_lines.specs.Escapes.{is_plain, upper_digit, digit_value, escaped_byte, escaped}
use Rattle.cm_lines.specs.Escapes.{spelled_from, in_upper_case, upper_from}
use Rattle.cm_lines.specs.Laws.{UnescapingUndoes, SpellingIsOne}

-- ---- digits

digit_value-upper_digit : (v : ℕ) → v < 16 → digit_value (upper_digit v) ≡ Some v
digit_value-upper_digit v h = grind (arith, nat_tests)

in_upper_case-digit : (d v : ℕ) → digit_value d ≡ Some v → in_upper_case d ≡ upper_digit v
in_upper_case-digit d v h = grind (arith, nat_tests)

digit_value-small : (d v : ℕ) → digit_value d ≡ Some v → v < 16
digit_value-small d v h = grind (arith, nat_tests)

-- ---- escaping, then reading

-- a plain byte, and one that isn't, at the start of a spelling
read_plain : (b : ℕ) (rest : List ℕ) → is_plain b ≡ true
    → spelled_from Any (b ∷ rest) ≡ option_map (λ n. b ∷ n) (spelled_from Any rest)
read_plain b rest p =
    ap (λ t. cond t (option_map (λ n. b ∷ n) (spelled_from Any rest))
    (cond (eqb b 37) (spelled_from High rest) None)) p

read_low : (high low b : ℕ) (rest : List ℕ) → low < 16 → 16 * high + low ≡ b → is_plain b ≡ false
    → spelled_from (Low high) (upper_digit low ∷ rest)
    ≡ option_map (λ n. b ∷ n) (spelled_from Any rest)
read_low high low b rest small e p =
    ap (option_and_then
    (λ v. cond (is_plain (16 * high + v)) None
    (option_map (λ n. (16 * high + v) ∷ n) (spelled_from Any rest))))
    (digit_value-upper_digit low small)
    ∙ ap (λ k. cond (is_plain k) None (option_map (λ n. k ∷ n) (spelled_from Any rest))) e
    ∙ ap (λ t. cond t None (option_map (λ n. b ∷ n) (spelled_from Any rest))) p

read_high : (high : ℕ) (rest : List ℕ) → high < 16
    → spelled_from High (upper_digit high ∷ rest) ≡ spelled_from (Low high) rest
read_high high rest small =
    ap (option_and_then (λ v. spelled_from (Low v) rest)) (digit_value-upper_digit high small)

read_byte : (b : ℕ) (rest : List ℕ) → b < 256 → (t : Bool) → is_plain b ≡ t
    → spelled_from Any (escaped_byte b ++ rest) ≡ option_map (λ n. b ∷ n) (spelled_from Any rest)
read_byte b rest small true p =
    ap (λ s. spelled_from Any
    (cond s (b ∷ []) (37 ∷ upper_digit (b / 16) ∷ upper_digit (b % 16) ∷ []) ++ rest)) p ∙
    read_plain b rest p
read_byte b rest small false p =
    let high : b / 16 < 16 = omega arith in
    let low : b % 16 < 16 = omega arith in
    let whole : 16 * (b / 16) + b % 16 ≡ b = omega arith in
    ap (λ s. spelled_from Any
    (cond s (b ∷ []) (37 ∷ upper_digit (b / 16) ∷ upper_digit (b % 16) ∷ []) ++ rest)) p
    ∙ read_high (b / 16) (upper_digit (b % 16) ∷ rest) high ∙ read_low (b / 16) (b % 16) b rest low
    whole p

pub unescaping_undoes : UnescapingUndoes
unescaping_undoes [] h = refl
unescaping_undoes (b ∷ name) h =
    read_byte b (escaped name) (All-head (λ k. k < 256) b name h) (is_plain b) refl
    ∙ ap (option_map (λ n. b ∷ n)) (unescaping_undoes name (All-tail (λ k. k < 256) b name h))

-- ---- what is read has one spelling

-- a byte that isn't plain, and what spells the remainder of a name after it
record IsEscape (name : List ℕ) : Type 0 where
  pub byte : ℕ
  pub rest : List ℕ
  pub name_is : name ≡ byte ∷ rest
  pub special : is_plain byte ≡ false

-- the upper-case form of a text, which spells a name from a state on
Spells : Awaited → List ℕ → List ℕ → Type 0
Spells Any text name = upper_from 0 text ≡ escaped name
Spells High text name =
    (x : IsEscape name)
    × (upper_from 2 text ≡ upper_digit (x.byte / 16) ∷ upper_digit (x.byte % 16) ∷ escaped x.rest)
Spells (Low high) text name =
    (x : IsEscape name) × (x.byte / 16 ≡ high)
    × (upper_from 1 text ≡ upper_digit (x.byte % 16) ∷ escaped x.rest)

-- the result of a map comes from a value
unmapped : (b : ℕ) (o : Option (List ℕ)) (name : List ℕ) → option_map (λ n. b ∷ n) o ≡ Some name
    → (rest : List ℕ) × (o ≡ Some rest) × (name ≡ b ∷ rest)
unmapped b None name e = absurd (cc)
unmapped b (Some rest) name e = let same : name ≡ b ∷ rest = cc in (rest, refl, same)

-- the result of a digit
digit_of : {X : Type 0} (f : ℕ → Option X) (o : Option ℕ) (x : X) → option_and_then f o ≡ Some x
    → (v : ℕ) × (o ≡ Some v) × (f v ≡ Some x)
digit_of f None x e = absurd (cc)
digit_of f (Some v) x e = (v, refl, e)

not_taken : {X : Type 0} (t : Bool) (a : Option X) (x : X) → cond t None a ≡ Some x
    → (t ≡ false) × (a ≡ Some x)
not_taken true a x e = absurd (cc)
not_taken false a x e = (refl, e)

taken : {X : Type 0} (t : Bool) (a : Option X) (x : X) → cond t a None ≡ Some x
    → (t ≡ true) × (a ≡ Some x)
taken true a x e = (refl, e)
taken false a x e = absurd (cc)

plain_is_no_percent : (b : ℕ) → is_plain b ≡ true → eqb b 37 ≡ false
plain_is_no_percent b p = grind (arith, nat_tests)

escaped-plain : (b : ℕ) (rest : List ℕ) → is_plain b ≡ true → escaped (b ∷ rest) ≡ b ∷ escaped rest
escaped-plain b rest p =
    ap (λ t. cond t (b ∷ []) (37 ∷ upper_digit (b / 16) ∷ upper_digit (b % 16) ∷ [])
    ++ escaped rest) p

escaped-special : (b : ℕ) (rest : List ℕ) → is_plain b ≡ false
    → escaped (b ∷ rest) ≡ 37 ∷ upper_digit (b / 16) ∷ upper_digit (b % 16) ∷ escaped rest
escaped-special b rest p =
    ap (λ t. cond t (b ∷ []) (37 ∷ upper_digit (b / 16) ∷ upper_digit (b % 16) ∷ [])
    ++ escaped rest) p

upper_from-front : (b : ℕ) (text : List ℕ) (n : ℕ) → cond (eqb b 37) 2 0 ≡ n
    → upper_from 0 (b ∷ text) ≡ b ∷ upper_from n text
unfolding upper_from
upper_from-front b text n e = ap (λ k. b ∷ upper_from k text) e

upper_from-digit : (n d : ℕ) (text : List ℕ)
    → upper_from (suc n) (d ∷ text) ≡ in_upper_case d ∷ upper_from n text
unfolding upper_from
upper_from-digit n d text = refl

-- one more byte before a text for which this is known
module _ (text : List ℕ)
    (behind : (a : Awaited) (name : List ℕ) → spelled_from a text ≡ Some name
    → Spells a text name) where
  front_plain : (b : ℕ) (name : List ℕ) → is_plain b ≡ true
      → option_map (λ n. b ∷ n) (spelled_from Any text) ≡ Some name
      → upper_from 0 (b ∷ text) ≡ escaped name
  unfolding Spells
  front_plain b name p e =
      let got = unmapped b (spelled_from Any text) name e in
      upper_from-front b text 0 (ap (λ t. cond t 2 0) (plain_is_no_percent b p))
      ∙ ap (λ l. b ∷ l) (behind Any got.0 got.1) ∙ sym (escaped-plain b got.0 p) ∙ ap escaped
      (sym got.2)

  front_percent : (b : ℕ) (name : List ℕ)
      → cond (eqb b 37) (spelled_from High text) None ≡ Some name
      → upper_from 0 (b ∷ text) ≡ escaped name
  unfolding Spells
  front_percent b name e =
      let found = taken (eqb b 37) (spelled_from High text) name e in
      let got = behind High name found.1 in
      let is : b ≡ 37 = eqb-true b 37 found.0 in
      upper_from-front b text 2 (ap (λ t. cond t 2 0) found.0)
      ∙ ap (λ k. k ∷ upper_from 2 text) is ∙ ap (λ l. 37 ∷ l) got.1 ∙ sym
      (escaped-special got.0.byte got.0.rest got.0.special) ∙ ap escaped (sym got.0.name_is)

  front_any : (b : ℕ) (name : List ℕ) (t : Bool) → is_plain b ≡ t
      → cond t (option_map (λ n. b ∷ n) (spelled_from Any text))
      (cond (eqb b 37) (spelled_from High text) None) ≡ Some name
      → upper_from 0 (b ∷ text) ≡ escaped name
  front_any b name true p e = front_plain b name p e
  front_any b name false p e = front_percent b name e

  front_high : (d : ℕ) (name : List ℕ) → spelled_from High (d ∷ text) ≡ Some name
      → Spells High (d ∷ text) name
  unfolding Spells
  front_high d name e =
      let found = digit_of (λ v. spelled_from (Low v) text) (digit_value d) name e in
      let got = behind (Low found.0) name found.2 in
      let x = got.0 in (
        x,
        upper_from-digit 1 d text
            ∙ ap (λ k. k ∷ upper_from 1 text)
            (in_upper_case-digit d found.0 found.1 ∙ ap upper_digit (sym got.1))
            ∙ ap (λ l. upper_digit (x.byte / 16) ∷ l) got.2,
      )

  front_low : (high d : ℕ) (name : List ℕ) → spelled_from (Low high) (d ∷ text) ≡ Some name
      → Spells (Low high) (d ∷ text) name
  unfolding Spells
  front_low high d name e =
      let next = λ (v : ℕ).
      cond (is_plain (16 * high + v)) None
      (option_map (λ (n : List ℕ). (16 * high + v) ∷ n) (spelled_from Any text)) in
      let found = digit_of next (digit_value d) name e in
      let v = found.0 in
      let small = digit_value-small d v found.1 in
      let passed =
      not_taken (is_plain (16 * high + v))
      (option_map (λ (n : List ℕ). (16 * high + v) ∷ n) (spelled_from Any text)) name found.2 in
      let got = unmapped (16 * high + v) (spelled_from Any text) name passed.1 in
      let over : (16 * high + v) / 16 ≡ high = omega arith in
      let under : v ≡ (16 * high + v) % 16 = omega arith in (
        record { byte = 16 * high + v; rest = got.0; name_is = got.2; special = passed.0 },
        over,
        upper_from-digit 0 d text
            ∙ ap (λ k. k ∷ upper_from 0 text)
            (in_upper_case-digit d v found.1 ∙ ap upper_digit under)
            ∙ ap (λ l. upper_digit ((16 * high + v) % 16) ∷ l) (behind Any got.0 got.1),
      )

  front : (a : Awaited) (b : ℕ) (name : List ℕ) → spelled_from a (b ∷ text) ≡ Some name
      → Spells a (b ∷ text) name
  unfolding Spells
  front Any b name e = front_any b name (is_plain b) refl e
  front High b name e = front_high b name e
  front (Low high) b name e = front_low high b name e

spelled : (a : Awaited) (text name : List ℕ) → spelled_from a text ≡ Some name → Spells a text name
unfolding Spells upper_from
spelled Any [] name e = let same : [] ≡ name = cc in ap escaped same
spelled High [] name e = absurd (cc)
spelled (Low high) [] name e = absurd (cc)
spelled Any (b ∷ text) name e = front text (λ a n f. spelled a text n f) Any b name e
spelled High (b ∷ text) name e = front text (λ a n f. spelled a text n f) High b name e
spelled (Low high) (b ∷ text) name e = front text (λ a n f. spelled a text n f) (Low high) b name e

pub spelling_is_one : SpellingIsOne
unfolding Spells
spelling_is_one word name e = spelled Any word name e
