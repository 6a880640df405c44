-- Members that were examined, by what represents their names and descriptors.
-- For `first_among_repeated`, `first_by_strong_fingerprints`, `first_duplicate`.
use Rattle.std.proofs.Common.{◌≡◌, ⊎_elim, inl, inr, ◌⊎◌, ℕ, zero, suc, ◌+◌, ◌<◌, Bool, true, false}
use Rattle.std.proofs.Common.{cond, eqb, List, [], ◌∷◌, length, map, get_or, Option, Some, None}
use Rattle.std.proofs.Common.{refl, sym, ap, ap₂, subst, ◌∙◌, arith}
use Rattle.std.specs.Prelude.{◌&&◌}
use Rattle.std.specs.List.{Contains}
use Rattle.std.specs.Ordering.{nat_cmp, ordering_then, is_eq}
use Rattle.std.specs.declared.cmp.Ordering.{Ordering}
use Rattle.std.specs.BTreeSet.{BTreeSet, contains}
use Rattle.std.proofs.lemmas.Bool.{cases_Bool, cases_lt}
use Rattle.std.proofs.lemmas.Bool.Decides.{nat_tests}
use Rattle.std.proofs.lemmas.List.{get_or_default, length-map}
use Rattle.cm_class.specs.declared.class_file.ClassFile.{ClassFile}
use Rattle.cm_class.specs.declared.class_file.Member.{Member}
use Rattle.cm_class.specs.Names.{utf8}
use Rattle.cm_duplicates.specs.Duplicates.{is_first, first_duplicate}
use Rattle.cm_duplicates.specs.First.{Agree}
use Rattle.cm_duplicates.specs.declared.fingerprints.Strength.{Strength}
use Rattle.cm_duplicates.specs.Fingerprints.{fingerprint, joined_fingerprint, member_fingerprint}
use Rattle.cm_duplicates.specs.Fingerprints.{AreNumbers}
use Rattle.cm_duplicates.specs.Fingerprints.{HasRepeated}
use Rattle.cm_duplicates.specs.Interned.{Interned, interned, NamesWhatItStandsFor, KeepsInterned}
use Rattle.cm_duplicates.proofs.FirstDuplicate.{stands_first, stands_again, all_pass}

-- ---- keys

abbrev pub key_cmp : ℕ × ℕ → ℕ × ℕ → Ordering
key_cmp p q = ordering_then (nat_cmp p.0 q.0) (nat_cmp p.1 q.1)

abbrev pub same_key : ℕ × ℕ → ℕ × ℕ → Bool
same_key p q = eqb p.0 q.0 && eqb p.1 q.1

-- the order of keys distinguishes them
pub key_is : (p q : ℕ × ℕ) → is_eq (key_cmp p q) ≡ same_key p q
key_is p q = grind (arith, nat_tests)

pair_is : (a b c d : ℕ) → a ≡ c → b ≡ d → ◌≡◌ {A = ℕ × ℕ} (a, b) (c, d)
pair_is a b c d e f = rw (e, f) refl

same_key_is : (p q : ℕ × ℕ) → same_key p q ≡ true → p ≡ q
same_key_is p q t =
    let first : p.0 ≡ q.0 = grind (arith, nat_tests) in
    let second : p.1 ≡ q.1 = grind (arith, nat_tests) in
    pair_is p.0 p.1 q.0 q.1 first second

is_same_key : (p q : ℕ × ℕ) → p ≡ q → same_key p q ≡ true
is_same_key p q e = rw e (grind (arith, nat_tests))

abbrev pub Keys : Type 0
Keys = BTreeSet (ℕ × ℕ)

-- ---- what was seen of the members before a place

-- a key names what a member names
abbrev pub Names : ClassFile → ℕ × ℕ → Member → Type 0
Names c key m = (utf8 c key.0 ≡ utf8 c m.name) × (utf8 c key.1 ≡ utf8 c m.descriptor)

-- the key is that of a member before a place
pub record IsEarlier (c : ClassFile) (members : List Member) (place : ℕ)
    (key : ℕ × ℕ) : Type 0 where
  pub earlier : ℕ
  pub before : earlier < place
  pub within : earlier < length members
  pub names : (m : Member) → Names c key (get_or members earlier m)

-- a member's key was seen
pub record HasKey (c : ClassFile) (table : Interned) (seen : Keys) (m : Member) : Type 0 where
  pub key : ℕ × ℕ
  pub name : interned table (utf8 c m.name) ≡ Some key.0
  pub descriptor : interned table (utf8 c m.descriptor) ≡ Some key.1
  pub was_seen : contains key_cmp seen key ≡ true

pub record SeenBefore (c : ClassFile) (members : List Member) (numbers repeated : List ℕ)
    (table : Interned) (seen : Keys) (place : ℕ) : Type 0 where
  pub earlier : (key : ℕ × ℕ) → contains key_cmp seen key ≡ true → IsEarlier c members place key
  pub keys : (k : ℕ) (m : Member) → k < place → k < length members
      → Contains repeated (get_or numbers k 0) → HasKey c table seen (get_or members k m)

pub nothing_seen : (c : ClassFile) (members : List Member) (numbers repeated : List ℕ)
    (table : Interned) (seen : Keys) → seen.keys ≡ []
    → SeenBefore c members numbers repeated table seen 0
nothing_seen c members numbers repeated table seen empty = record {
  earlier = λ key h. let none : contains key_cmp seen key ≡ false = rw empty refl in absurd cc;
  keys = λ k m lt. absurd (omega (arith, lt));
}

-- ---- members that agree have the same fingerprint

same_fingerprint : (strength : Strength) (c : ClassFile) (m n : Member) → Agree c m n
    → member_fingerprint strength c m ≡ member_fingerprint strength c n
same_fingerprint strength c m n h =
    ap₂ (λ a b. joined_fingerprint (fingerprint strength a) (fingerprint strength b)) h.name
    h.descriptor

fingerprint_at : (strength : Strength) (c : ClassFile) (members : List Member) (i : ℕ) (m : Member)
    → i < length members
    → get_or (map (member_fingerprint strength c) members) i 0
    ≡ member_fingerprint strength c (get_or members i m)
fingerprint_at strength c members i m lt = at members i lt
  where
    at : (l : List Member) (i : ℕ) → i < length l
        → get_or (map (member_fingerprint strength c) l) i 0
        ≡ member_fingerprint strength c (get_or l i m)
    at [] i lt = absurd (omega (arith, lt))
    at (x ∷ l) zero lt = refl
    at (x ∷ l) (suc i) lt = at l i (omega (arith, lt))

pub are_numbers : (strength : Strength) (c : ClassFile) (members : List Member) (numbers : List ℕ)
    → numbers ≡ map (member_fingerprint strength c) members → AreNumbers c members numbers
are_numbers strength c members numbers e = rw e record {
  as_many = length-map members (member_fingerprint strength c);
  alike = λ i j m li lj h.
      fingerprint_at strength c members i m li ∙ same_fingerprint strength c (get_or members i m)
      (get_or members j m) h ∙ sym (fingerprint_at strength c members j m lj);
}

pub names_of : (c d : ClassFile) (table : Interned) → d ≡ c → NamesWhatItStandsFor d table
    → NamesWhatItStandsFor c table
names_of c d table e h =
    let P : ClassFile → Type 0 = λ x. NamesWhatItStandsFor x table in subst P e h

module _ (c : ClassFile) (members : List Member) (numbers repeated : List ℕ)
    (are : AreNumbers c members numbers) (has : HasRepeated numbers repeated) where
  pub one_number : (k i : ℕ) (m x : Member) → k < i → i < length members → m ≡ get_or members i m
      → Agree c m (get_or members k x) → get_or numbers k 0 ≡ get_or numbers i 0
  one_number k i m x lt within is agree =
      let before : k < length members = omega (arith, lt, within) in
      let here : get_or members k x ≡ get_or members k m = get_or_default members k x m before in
      let there : Agree c (get_or members i m) (get_or members k m) =
      let P : Member → Member → Type 0 =
      λ y z. Agree c y z in let Q : Member → Type 0 =
      λ y. P y (get_or members k m) in let R : Member → Type 0 =
      λ z. P m z in subst Q is (subst R here agree) in
      sym (are.alike i k m within before there)

  -- a member that agrees with one before it has a repeated number
  repeats : (k i : ℕ) (m x : Member) → k < i → i < length members → m ≡ get_or members i m
      → Agree c m (get_or members k x) → Contains repeated (get_or numbers i 0)
  repeats k i m x lt within is agree =
      has k i lt (omega (arith, within, are.as_many)) (one_number k i m x lt within is agree)

  -- a member whose number isn't repeated is the first with its name and descriptor
  pub first_without : (i : ℕ) (m : Member) → i < length members → m ≡ get_or members i m
      → (Contains repeated (get_or numbers i 0) → ⊥) → is_first c members i m ≡ true
  first_without i m within is lacks =
      stands_first c members i m (λ k x lt before agree. lacks (repeats k i m x lt within is agree))

  -- if no number is repeated, there is no duplicate
  pub none_repeated : length repeated ≡ 0 → first_duplicate c members ≡ None
  none_repeated empty = all_pass (is_first c members) 0 members (λ i m lt.
      let z : 0 + i ≡ i = omega arith in
      rw z (first_without i (get_or members i m) lt
      (get_or_default members i m (get_or members i m) lt)
      (λ h. absurd (omega (arith, empty, h.1)))))

  -- ---- the next member

  module _ (table : Interned) (seen : Keys) (i : ℕ) (m : Member) (within : i < length members)
      (is : m ≡ get_or members i m)
      (so_far : SeenBefore c members numbers repeated table seen i) where
    at_next : (k : ℕ) → k < i + 1 → (k < i) ⊎ (k ≡ i)
    at_next k lt = ⊎_elim inl (λ le. inr (omega (arith, le, lt))) (cases_lt k i)

    later : (key : ℕ × ℕ) → IsEarlier c members i key → IsEarlier c members (i + 1) key
    later key e =
        record {
          earlier =
              e.earlier;
          before = omega (arith, e.before);
          within = e.within;
          names = e.names;
        }

    -- the next member isn't examined
    pub seen_without : (Contains repeated (get_or numbers i 0) → ⊥)
        → SeenBefore c members numbers repeated table seen (i + 1)
    seen_without lacks = record {
      earlier = λ key h. later key (so_far.earlier key h);
      keys = λ k x lt inside h.
          ⊎_elim (λ before. so_far.keys k x before inside h)
          (λ here. absurd (lacks (at_m k here h))) (at_next k lt);
    }
      where
        at_m : (k : ℕ) → k ≡ i → Contains repeated (get_or numbers k 0)
            → Contains repeated (get_or numbers i 0)
        at_m k here h =
            let P : ℕ → Type 0 = λ j. Contains repeated (get_or numbers j 0) in subst P here h

    module _ (new : Interned) (keeps : KeepsInterned table new) (right : NamesWhatItStandsFor c new)
        (key : ℕ × ℕ) (name : interned new (utf8 c m.name) ≡ Some key.0)
        (descriptor : interned new (utf8 c m.descriptor) ≡ Some key.1) where
      names_it : Names c key m
      names_it = (right (utf8 c m.name) key.0 name, right (utf8 c m.descriptor) key.1 descriptor)

      some_is : (a b : ℕ) → ◌≡◌ {A = Option ℕ} (Some a) (Some b) → a ≡ b
      some_is a b e = cc

      -- the key of the next member was seen
      pub again : contains key_cmp seen key ≡ true → is_first c members i m ≡ false
      again h =
          let e = so_far.earlier key h in
          stands_again c members i e.earlier m m e.before e.within record {
            name = sym names_it.0 ∙ (e.names m).0;
            descriptor = sym names_it.1 ∙ (e.names m).1;
          }

      -- the key of the next member wasn't seen
      pub first : Contains repeated (get_or numbers i 0) → contains key_cmp seen key ≡ false
          → is_first c members i m ≡ true
      first candidate h =
          stands_first c members i m
          (λ k x lt inside agree.
          lacks k x agree (so_far.keys k x lt inside (candidate_too k x lt agree)))
        where
          candidate_too : (k : ℕ) (x : Member) → k < i → Agree c m (get_or members k x)
              → Contains repeated (get_or numbers k 0)
          candidate_too k x lt agree =
              let P : ℕ → Type 0 =
              λ n. Contains repeated n in
              subst P (sym (one_number k i m x lt within is agree)) candidate

          lacks : (k : ℕ) (x : Member) → Agree c m (get_or members k x)
              → HasKey c table seen (get_or members k x) → ⊥
          lacks k x agree has_key =
              let other = has_key.key in
              let same_name : other.0 ≡ key.0 =
              some_is other.0 key.0
              (sym (keeps (utf8 c (get_or members k x).name) other.0 has_key.name) ∙ ap
              (interned new) (sym agree.name) ∙ name) in
              let same_descriptor : other.1 ≡ key.1 =
              some_is other.1 key.1
              (sym (keeps (utf8 c (get_or members k x).descriptor) other.1 has_key.descriptor) ∙
              ap (interned new) (sym agree.descriptor) ∙ descriptor) in
              let one : other ≡ key =
              pair_is other.0 other.1 key.0 key.1 same_name same_descriptor in
              let t : contains key_cmp seen key ≡ true =
              ap (contains key_cmp seen) (sym one) ∙ has_key.was_seen in
              cc

      module _ (after : Keys)
          (added : (q : ℕ × ℕ)
          → contains key_cmp after q
          ≡ cond (is_eq (key_cmp key q)) true (contains key_cmp seen q)) where
        at_key : contains key_cmp after key ≡ true
        at_key = added key ∙ ap (λ b. cond b true (contains key_cmp seen key))
            (key_is key key ∙ is_same_key key key refl)

        still : (q : ℕ × ℕ) → contains key_cmp seen q ≡ true → contains key_cmp after q ≡ true
        still q h = added q ∙ ap (λ b. cond (is_eq (key_cmp key q)) true b) h ∙ both
            (is_eq (key_cmp key q))
          where
            both : (b : Bool) → cond b true true ≡ true
            both true = refl
            both false = refl

        earlier_than_next : (q : ℕ × ℕ) → contains key_cmp after q ≡ true
            → IsEarlier c members (i + 1) q
        earlier_than_next q h = ⊎_elim here before (cases_Bool (is_eq (key_cmp key q)))
          where
            here : is_eq (key_cmp key q) ≡ true → IsEarlier c members (i + 1) q
            here t =
                let one : key ≡ q = same_key_is key q (sym (key_is key q) ∙ t) in
                let P : ℕ × ℕ → Type 0 = λ k. IsEarlier c members (i + 1) k in
                subst P one record {
                  earlier = i;
                  before = omega arith;
                  within = within;
                  names = λ x. let at : m ≡ get_or members i x =
                      is ∙ get_or_default members i m x within in let Q : Member → Type 0 =
                      λ y. Names c key y in subst Q at names_it;
                }

            before : is_eq (key_cmp key q) ≡ false → IsEarlier c members (i + 1) q
            before f = later q
                (so_far.earlier q
                (sym (ap (λ b. cond b true (contains key_cmp seen q)) f) ∙ sym (added q) ∙ h))

        pub seen_with : SeenBefore c members numbers repeated new after (i + 1)
        seen_with = record {
          earlier = earlier_than_next;
          keys = λ k x lt inside h.
              ⊎_elim (λ before. kept k x (so_far.keys k x before inside h)) (λ here. its k x here)
              (at_next k lt);
        }
          where
            kept : (k : ℕ) (x : Member) → HasKey c table seen (get_or members k x)
                → HasKey c new after (get_or members k x)
            kept k x has_key = record {
              key = has_key.key;
              name = keeps (utf8 c (get_or members k x).name) has_key.key.0 has_key.name;
              descriptor =
                  keeps (utf8 c (get_or members k x).descriptor) has_key.key.1 has_key.descriptor;
              was_seen = still has_key.key has_key.was_seen;
            }

            its : (k : ℕ) (x : Member) → k ≡ i → HasKey c new after (get_or members k x)
            its k x here =
                let one : m ≡ get_or members k x =
                is ∙ get_or_default members i m x within ∙ ap (λ (j : ℕ). get_or members j x)
                (sym here) in
                let P : Member → Type 0 = λ y. HasKey c new after y in
                subst P one record {
                  key =
                      key;
                  name = name;
                  descriptor = descriptor;
                  was_seen = at_key;
                }

-- ---- just the numbers that were seen before a place

abbrev pub Numbers : Type 0
Numbers = BTreeSet ℕ

abbrev pub SeenNumbers : List Member → List ℕ → List ℕ → Numbers → ℕ → Type 0
SeenNumbers members numbers repeated seen place =
    (k : ℕ) → k < place → k < length members → Contains repeated (get_or numbers k 0)
    → contains nat_cmp seen (get_or numbers k 0) ≡ true

module _ (c : ClassFile) (members : List Member) (numbers repeated : List ℕ)
    (are : AreNumbers c members numbers) (has : HasRepeated numbers repeated) (seen : Numbers)
    (i : ℕ) (m : Member) (within : i < length members) (is : m ≡ get_or members i m)
    (so_far : SeenNumbers members numbers repeated seen i) where
  number_at : (k : ℕ) → k < i + 1 → (k < i) ⊎ (k ≡ i)
  number_at k lt = ⊎_elim inl (λ le. inr (omega (arith, le, lt))) (cases_lt k i)

  -- a number that isn't repeated adds nothing
  pub numbers_without : (Contains repeated (get_or numbers i 0) → ⊥)
      → SeenNumbers members numbers repeated seen (i + 1)
  numbers_without lacks k lt inside h =
      ⊎_elim (λ before. so_far k before inside h)
      (λ here. absurd (lacks (subst (λ (j : ℕ). Contains repeated (get_or numbers j 0)) here h)))
      (number_at k lt)

  -- a number that wasn't seen is that of no member before
  pub first_of_number : Contains repeated (get_or numbers i 0)
      → contains nat_cmp seen (get_or numbers i 0) ≡ false → is_first c members i m ≡ true
  first_of_number candidate fresh =
      stands_first c members i m (λ k x lt inside agree.
      let one = one_number c members numbers repeated are has k i m x lt within is agree in
      let known : contains nat_cmp seen (get_or numbers i 0) ≡ true =
      ap (contains nat_cmp seen) (sym one)
      ∙ so_far k lt inside (subst (Contains repeated) (sym one) candidate) in
      cc)

  -- the number is seen from then on
  pub numbers_with : (after : Numbers)
      → ((q : ℕ) → contains nat_cmp after q
      ≡ cond (is_eq (nat_cmp (get_or numbers i 0) q)) true (contains nat_cmp seen q))
      → SeenNumbers members numbers repeated after (i + 1)
  numbers_with after added k lt inside h = ⊎_elim before here (number_at k lt)
    where
      both : (b : Bool) → cond b true true ≡ true
      both true = refl
      both false = refl

      is_eq-same : (n : ℕ) → is_eq (nat_cmp n n) ≡ true
      is_eq-same n = grind (arith, nat_tests)

      before : k < i → contains nat_cmp after (get_or numbers k 0) ≡ true
      before lt_i =
          added (get_or numbers k 0)
          ∙ (ap (cond (is_eq (nat_cmp (get_or numbers i 0) (get_or numbers k 0))) true)
          (so_far k lt_i inside h)
          ∙ both (is_eq (nat_cmp (get_or numbers i 0) (get_or numbers k 0))))

      here : k ≡ i → contains nat_cmp after (get_or numbers k 0) ≡ true
      here e =
          ap (λ (j : ℕ). contains nat_cmp after (get_or numbers j 0)) e
          ∙ (added (get_or numbers i 0)
          ∙ ap (λ (b : Bool). cond b true (contains nat_cmp seen (get_or numbers i 0)))
          (is_eq-same (get_or numbers i 0)))
