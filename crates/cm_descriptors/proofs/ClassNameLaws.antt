-- A class name is exactly unqualified names joined by slashes.
-- For `class_name_is_joined_names`.
use Rattle.std.proofs.Common.{◌≡◌, ◌≢◌, ℕ, Bool, true, false, not, eqb, cond, List, [], ◌∷◌, length}
use Rattle.std.proofs.Common.{Some, None, refl, sym, ap, ◌∙◌, arith, IsTrue, ◌↔◌}
use Rattle.std.specs.List.{list_all, join_with_byte, AllByRecursion}
use Rattle.std.specs.Option.{option_map_or}
use Rattle.std.proofs.lemmas.Bool.{and_parts, and_from, eqb-true, ne_eqb}
use Rattle.cm_descriptors.specs.Forms.{slash, is_empty, is_name_byte, is_unqualified_name}
use Rattle.cm_descriptors.specs.Forms.{name_after}
use Rattle.cm_descriptors.specs.Forms.{is_class_name, is_class_name_from}
use Rattle.cm_descriptors.specs.ClassNames.{AreJoinedNames}
use Rattle.cm_descriptors.proofs.FormLoops.{name_step}

-- bytes that begin inside a name; or with a name, if a name may begin
pub record Joined (begins : Bool) (bytes : List ℕ) : Type 0 where
  pub name : List ℕ
  pub others : List (List ℕ)
  pub begun : begins ≡ true → name ≢ []
  pub named : list_all is_name_byte name ≡ true
  pub all_named : AllByRecursion (λ n. IsTrue (is_unqualified_name n)) others
  pub joined : join_with_byte slash (name ∷ others) ≡ bytes

has_bytes : (b : ℕ) (name : List ℕ) → not (is_empty (b ∷ name)) ≡ true
has_bytes b name = ap not (ne_eqb (length (b ∷ name)) 0 (λ e. absurd (omega (arith, e))))

unqualified : (name : List ℕ) → name ≢ [] → list_all is_name_byte name ≡ true
    → is_unqualified_name name ≡ true
unfolding is_unqualified_name
unqualified [] some bytes = absurd (some refl)
unqualified (b ∷ name) some bytes =
    and_from (not (is_empty (b ∷ name))) (list_all is_name_byte (b ∷ name)) (has_bytes b name) bytes

byte_joined : (b : ℕ) (name : List ℕ) (others : List (List ℕ))
    → join_with_byte slash ((b ∷ name) ∷ others) ≡ b ∷ join_with_byte slash (name ∷ others)
byte_joined b name [] = refl
byte_joined b name (other ∷ others) = refl

at_slash : (b : ℕ) (bytes : List ℕ) → b ≡ slash → Joined true bytes → Joined false (b ∷ bytes)
at_slash b bytes is on = record {
  name = [];
  others = on.name ∷ on.others;
  begun = λ e. absurd cc;
  named = refl;
  all_named = (unqualified on.name (on.begun refl) on.named, on.all_named);
  joined = rw is (ap (λ l. slash ∷ l) on.joined);
}

in_name : (begins : Bool) (b : ℕ) (bytes : List ℕ) → is_name_byte b ≡ true → Joined false bytes
    → Joined begins (b ∷ bytes)
in_name begins b bytes is on = record {
  name = b ∷ on.name;
  others = on.others;
  begun = λ e same. absurd cc;
  named = and_from (is_name_byte b) (list_all is_name_byte on.name) is on.named;
  all_named = on.all_named;
  joined = byte_joined b on.name on.others ∙ ap (λ l. b ∷ l) on.joined;
}

joined_from : (begins : Bool) (bytes : List ℕ) → is_class_name_from begins bytes ≡ true
    → Joined begins bytes
unfolding is_class_name_from name_after
joined_from true [] h = absurd cc
joined_from false [] h =
    record {
      name =
          [];
      others = [];
      begun = λ e. absurd cc;
      named = refl;
      all_named = tt;
      joined = refl;
    }
joined_from begins (b ∷ bytes) h =
    by_tests begins (eqb b slash) (is_name_byte b) refl refl h (joined_from true bytes)
    (joined_from false bytes)
  where
    by_tests : (begins s n : Bool) → s ≡ eqb b slash → n ≡ is_name_byte b
        → option_map_or (λ after. is_class_name_from after bytes)
        (cond s (cond begins None (Some true)) (cond n (Some false) None)) false ≡ true
        → (is_class_name_from true bytes ≡ true → Joined true bytes)
        → (is_class_name_from false bytes ≡ true → Joined false bytes) → Joined begins (b ∷ bytes)
    by_tests true true n es en h at_name inside = absurd cc
    by_tests false true n es en h at_name inside =
        at_slash b bytes (eqb-true b slash (sym es)) (at_name h)
    by_tests begins false true es en h at_name inside = in_name begins b bytes (sym en) (inside h)
    by_tests begins false false es en h at_name inside = absurd cc

-- ---- the converse

byte_step : (begins : Bool) (b : ℕ) (bytes : List ℕ) → is_name_byte b ≡ true
    → is_class_name_from begins (b ∷ bytes) ≡ is_class_name_from false bytes
unfolding is_class_name_from
byte_step begins b bytes h =
    ap (λ o. option_map_or (λ after. is_class_name_from after bytes) o false) (name_step begins b h)

slash_step : (bytes : List ℕ)
    → is_class_name_from false (slash ∷ bytes) ≡ is_class_name_from true bytes
unfolding is_class_name_from name_after
slash_step bytes = refl

ends : is_class_name_from false [] ≡ true
unfolding is_class_name_from
ends = refl

-- inside the first name; what is after it is known
behind_names : (name : List ℕ) (others : List (List ℕ)) → list_all is_name_byte name ≡ true
    → is_class_name_from false (join_with_byte slash ([] ∷ others)) ≡ true
    → is_class_name_from false (join_with_byte slash (name ∷ others)) ≡ true
behind_names [] others h behind = behind
behind_names (b ∷ name) others h behind =
    let both = and_parts (is_name_byte b) (list_all is_name_byte name) h in
    ap (is_class_name_from false) (byte_joined b name others) ∙ byte_step false b
    (join_with_byte slash (name ∷ others)) both.0 ∙ behind_names name others both.1 behind

-- a name that isn't empty, and what is after it
first_name : (begins : Bool) (name : List ℕ) (others : List (List ℕ))
    → is_unqualified_name name ≡ true
    → is_class_name_from false (join_with_byte slash ([] ∷ others)) ≡ true
    → is_class_name_from begins (join_with_byte slash (name ∷ others)) ≡ true
unfolding is_unqualified_name
first_name begins [] others h behind = absurd cc
first_name begins (b ∷ name) others h behind =
    let named = and_parts (not (is_empty (b ∷ name))) (list_all is_name_byte (b ∷ name)) h in
    let both = and_parts (is_name_byte b) (list_all is_name_byte name) named.1 in
    ap (is_class_name_from begins) (byte_joined b name others) ∙ byte_step begins b
    (join_with_byte slash (name ∷ others)) both.0 ∙ behind_names name others both.1 behind

others_follow : (others : List (List ℕ))
    → AllByRecursion (λ n. IsTrue (is_unqualified_name n)) others
    → is_class_name_from false (join_with_byte slash ([] ∷ others)) ≡ true
others_follow [] are = ends
others_follow (name ∷ others) are =
    slash_step (join_with_byte slash (name ∷ others)) ∙ first_name true name others are.0
    (others_follow others are.1)

pub is_joined : (bytes : List ℕ) → IsTrue (is_class_name bytes) ↔ AreJoinedNames bytes
unfolding is_class_name
is_joined bytes = (forth, λ are. rw (sym are.3) (back are.0 are.1 are.2))
  where
    forth : is_class_name_from true bytes ≡ true → AreJoinedNames bytes
    forth h =
        let on = joined_from true bytes h in (
          on.name ∷ on.others,
          (λ e. absurd cc),
          (unqualified on.name (on.begun refl) on.named, on.all_named),
          on.joined,
        )

    back : (names : List (List ℕ)) → names ≢ []
        → AllByRecursion (λ n. IsTrue (is_unqualified_name n)) names
        → is_class_name_from true (join_with_byte slash names) ≡ true
    back [] some are = absurd (some refl)
    back (name ∷ others) some are = first_name true name others are.0 (others_follow others are.1)
