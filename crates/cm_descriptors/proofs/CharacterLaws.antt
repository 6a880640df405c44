-- A Utf8 has its form exactly if it is a sequence of characters.
-- For `utf8_is_characters`.
use Rattle.std.proofs.Common.{◌≡◌, ℕ, zero, suc, ◌<◌, Bool, true, false, cond, List, [], ◌∷◌, ◌++◌}
use Rattle.std.proofs.Common.{length, Some, None, refl, sym, ap, ◌∙◌, arith, IsTrue, ◌↔◌}
use Rattle.std.specs.Prelude.{nat_le}
use Rattle.std.specs.List.{flat_map, AllByRecursion}
use Rattle.std.specs.Option.{option_map_or}
use Rattle.std.proofs.lemmas.Bool.{leb-true, le-leb, lt-leb, and_parts, and_from, and_right}
use Rattle.std.proofs.lemmas.Bool.{eqb-true}
use Rattle.cm_descriptors.specs.Forms.{is_within, owed_after, has_utf8_form, has_utf8_form_after}
use Rattle.cm_descriptors.specs.Characters.{Character, OneByte, TwoBytes, ThreeBytes, IsBetween}
use Rattle.cm_descriptors.specs.Characters.{Continues, IsCharacter, character_bytes, AreCharacters}

between : (low high b : ℕ) → is_within low high b ≡ true → IsBetween low high b
between low high b h =
    let both = and_parts (nat_le low b) (nat_le b high) h in
    (leb-true low b both.0, leb-true b high both.1)

within : (low high b : ℕ) → IsBetween low high b → is_within low high b ≡ true
within low high b is =
    and_from (nat_le low b) (nat_le b high) (le-leb low b is.0) (le-leb b high is.1)

above : (low high b : ℕ) → high < b → is_within low high b ≡ false
above low high b lt = and_right (nat_le low b) (nat_le b high) (lt-leb b high lt)

-- ---- what has the form is characters

-- the first `owed` bytes continue a character, and the others are characters
pub record Continue (owed : ℕ) (bytes : List ℕ) : Type 0 where
  pub front : List ℕ
  pub rest : List ℕ
  pub as_many : length front ≡ owed
  pub continuing : AllByRecursion Continues front
  pub characters : AreCharacters rest
  pub joined : front ++ rest ≡ bytes

one_more : (character : Character) (bytes : List ℕ) → IsCharacter character → AreCharacters bytes
    → AreCharacters (character_bytes character ++ bytes)
one_more character bytes is others =
    (character ∷ others.0, (is, others.1), ap (λ l. character_bytes character ++ l) others.2)

module _ (b : ℕ) where
  of_one : (bytes front rest : List ℕ) → IsBetween 0x01 0x7F b → length front ≡ 0
      → AreCharacters rest → front ++ rest ≡ bytes → AreCharacters (b ∷ bytes)
  of_one bytes [] rest is n others e = rw (sym e) (one_more (OneByte b) rest is others)
  of_one bytes (c ∷ front) rest is n others e = absurd (omega (arith, n))

  of_two : (bytes front rest : List ℕ) → IsBetween 0xC0 0xDF b → length front ≡ 1
      → AllByRecursion Continues front → AreCharacters rest → front ++ rest ≡ bytes
      → AreCharacters (b ∷ bytes)
  of_two bytes [] rest is n on others e = absurd (omega (arith, n))
  of_two bytes (c ∷ []) rest is n on others e =
      rw (sym e) (one_more (TwoBytes b c) rest (is, on.0) others)
  of_two bytes (c ∷ d ∷ front) rest is n on others e = absurd (omega (arith, n))

  of_three : (bytes front rest : List ℕ) → IsBetween 0xE0 0xEF b → length front ≡ 2
      → AllByRecursion Continues front → AreCharacters rest → front ++ rest ≡ bytes
      → AreCharacters (b ∷ bytes)
  of_three bytes [] rest is n on others e = absurd (omega (arith, n))
  of_three bytes (c ∷ []) rest is n on others e = absurd (omega (arith, n))
  of_three bytes (c ∷ d ∷ []) rest is n on others e =
      rw (sym e) (one_more (ThreeBytes b c d) rest (is, on.0, on.1.0) others)
  of_three bytes (c ∷ d ∷ x ∷ front) rest is n on others e = absurd (omega (arith, n))

-- nothing is owed
settled : (bytes : List ℕ) → AreCharacters bytes → Continue 0 bytes
settled bytes are =
    record {
      front =
          [];
      rest = bytes;
      as_many = refl;
      continuing = tt;
      characters = are;
      joined = refl;
    }

continued : (n b : ℕ) (bytes : List ℕ) → Continues b → Continue n bytes
    → Continue (suc n) (b ∷ bytes)
continued n b bytes is on = record {
  front = b ∷ on.front;
  rest = on.rest;
  as_many = ap suc on.as_many;
  continuing = (is, on.continuing);
  characters = on.characters;
  joined = ap (λ l. b ∷ l) on.joined;
}

characters_after : (owed : ℕ) (bytes : List ℕ) → has_utf8_form_after owed bytes ≡ true
    → Continue owed bytes
unfolding has_utf8_form_after
characters_after owed [] h =
    let none : owed ≡ 0 = eqb-true owed 0 h in rw none (settled [] ([], tt, refl))
characters_after (suc n) (b ∷ bytes) h =
    by_test (is_within 0x80 0xBF b) refl (characters_after n bytes)
  where
    by_test : (t : Bool) → t ≡ is_within 0x80 0xBF b
        → (has_utf8_form_after n bytes ≡ true → Continue n bytes) → Continue (suc n) (b ∷ bytes)
    by_test true e on =
        continued n b bytes (between 0x80 0xBF b (sym e))
        (on (ap (λ t. option_map_or (λ k. has_utf8_form_after k bytes) (cond t (Some n) None) false)
        e ∙ h))
    by_test false e on =
        absurd (cc (ap
        (λ t. option_map_or (λ k. has_utf8_form_after k bytes) (cond t (Some n) None) false) e ∙ h))
characters_after zero (b ∷ bytes) h =
    settled (b ∷ bytes)
    (by_tests (is_within 0x01 0x7F b) (is_within 0xC0 0xDF b) (is_within 0xE0 0xEF b) refl refl
    refl h (characters_after 0 bytes) (characters_after 1 bytes) (characters_after 2 bytes))
  where
    by_tests : (x y z : Bool) → x ≡ is_within 0x01 0x7F b → y ≡ is_within 0xC0 0xDF b
        → z ≡ is_within 0xE0 0xEF b
        → option_map_or (λ k. has_utf8_form_after k bytes)
        (cond x (Some 0) (cond y (Some 1) (cond z (Some 2) None))) false ≡ true
        → (has_utf8_form_after 0 bytes ≡ true → Continue 0 bytes)
        → (has_utf8_form_after 1 bytes ≡ true → Continue 1 bytes)
        → (has_utf8_form_after 2 bytes ≡ true → Continue 2 bytes)
        → AreCharacters (b ∷ bytes)
    by_tests true y z ex ey ez h by_one by_two by_three =
        let on = by_one h in
        of_one b bytes on.front on.rest (between 0x01 0x7F b (sym ex)) on.as_many on.characters
        on.joined
    by_tests false true z ex ey ez h by_one by_two by_three =
        let on = by_two h in
        of_two b bytes on.front on.rest (between 0xC0 0xDF b (sym ey)) on.as_many on.continuing
        on.characters on.joined
    by_tests false false true ex ey ez h by_one by_two by_three =
        let on = by_three h in
        of_three b bytes on.front on.rest (between 0xE0 0xEF b (sym ez)) on.as_many on.continuing
        on.characters on.joined
    by_tests false false false ex ey ez h by_one by_two by_three = absurd cc

-- ---- characters have the form

continues : (n b : ℕ) → Continues b → owed_after (suc n) b ≡ Some n
continues n b is = rw (within 0x80 0xBF b is) refl

begins_one : (b : ℕ) → IsBetween 0x01 0x7F b → owed_after 0 b ≡ Some 0
begins_one b is = rw (within 0x01 0x7F b is) refl

begins_two : (b : ℕ) → IsBetween 0xC0 0xDF b → owed_after 0 b ≡ Some 1
begins_two b is = rw (above 0x01 0x7F b (omega (arith, is.0)), within 0xC0 0xDF b is) refl

begins_three : (b : ℕ) → IsBetween 0xE0 0xEF b → owed_after 0 b ≡ Some 2
begins_three b is =
    rw (
      above 0x01 0x7F b (omega (arith, is.0)),
      above 0xC0 0xDF b (omega (arith, is.0)),
      within 0xE0 0xEF b is,
    ) refl

utf8_step : (owed b n : ℕ) (bytes : List ℕ) → owed_after owed b ≡ Some n
    → has_utf8_form_after owed (b ∷ bytes) ≡ has_utf8_form_after n bytes
unfolding has_utf8_form_after
utf8_step owed b n bytes e = ap (λ o. option_map_or (λ k. has_utf8_form_after k bytes) o false) e

character_passes : (character : Character) (bytes : List ℕ) → IsCharacter character
    → has_utf8_form_after 0 (character_bytes character ++ bytes) ≡ has_utf8_form_after 0 bytes
character_passes (OneByte a) bytes is = utf8_step 0 a 0 bytes (begins_one a is)
character_passes (TwoBytes a b) bytes is =
    utf8_step 0 a 1 (b ∷ bytes) (begins_two a is.0) ∙ utf8_step 1 b 0 bytes (continues 0 b is.1)
character_passes (ThreeBytes a b c) bytes is =
    utf8_step 0 a 2 (b ∷ c ∷ bytes) (begins_three a is.0) ∙ utf8_step 2 b 1 (c ∷ bytes)
    (continues 1 b is.1) ∙ utf8_step 1 c 0 bytes (continues 0 c is.2)

characters_pass : (characters : List Character) → AllByRecursion IsCharacter characters
    → has_utf8_form_after 0 (flat_map character_bytes characters) ≡ true
unfolding has_utf8_form_after
characters_pass [] are = refl
characters_pass (character ∷ characters) are =
    character_passes character (flat_map character_bytes characters) are.0 ∙ characters_pass
    characters are.1

pub is_characters : (bytes : List ℕ) → IsTrue (has_utf8_form bytes) ↔ AreCharacters bytes
unfolding has_utf8_form
is_characters bytes = (forth, back)
  where
    forth : has_utf8_form_after 0 bytes ≡ true → AreCharacters bytes
    forth h = let on =
        characters_after 0 bytes h in whole on.front on.rest on.as_many on.characters on.joined
      where
        whole : (front rest : List ℕ) → length front ≡ 0 → AreCharacters rest
            → front ++ rest ≡ bytes → AreCharacters bytes
        whole [] rest n are e = rw (sym e) are
        whole (c ∷ front) rest n are e = absurd (omega (arith, n))

    back : AreCharacters bytes → has_utf8_form_after 0 bytes ≡ true
    back are = rw (sym are.2) (characters_pass are.0 are.1)
