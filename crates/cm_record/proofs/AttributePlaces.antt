-- The attributes of methods and their runs, found in the words of a record.
-- For `Record::code`, `method_attributes`.
use Rattle.std.proofs.Common.{◌≡◌, ◌<◌, ◌≤◌, ◌+◌, ◌*◌, ◌^◌, ℕ, zero, suc, List, [], ◌∷◌, ◌++◌}
use Rattle.std.proofs.Common.{length, take, drop, get_or, slice_get, Bool, true, false, ◌⊎◌, inl}
use Rattle.std.proofs.Common.{inr, Some, refl, sym, ◌∙◌, ap, subst, arith, length-append}
use Rattle.std.proofs.Common.{append_assoc, get_or-drop, drop-drop}
use Rattle.std.specs.List.{AllByRecursion}
use Rattle.std.proofs.lemmas.List.{drop_at, append-nil, length-take-le}
use Rattle.cm_class.specs.declared.class_file.Attribute.{Attribute}
use Rattle.cm_class.specs.declared.class_file.Member.{Member as ClassMember}
use Rattle.cm_class.specs.declared.class_file.ClassFile.{ClassFile}
use Rattle.cm_class.specs.Spelling.{HasSpelling, AttributeFits, MemberFits}
use Rattle.cm_record_layout.specs.Packing.{packed, first_of, second_of, fourth_of, upper_of}
use Rattle.cm_record_layout.specs.Layout.{lay, members, member_attributes, attributes}
use Rattle.cm_record_layout.specs.Layout.{attribute_run, attribute_runs, all_attributes, utf8_runs}
use Rattle.cm_record_layout.specs.Layout.{members_at, attributes_at, runs_at, attribute_runs_at}
use Rattle.cm_record_layout.specs.Layout.{IsRecordOf}
use Rattle.cm_class.specs.Names.{names_utf8}
use Rattle.cm_record.specs.declared.run.Run.{Run}
use Rattle.cm_record.specs.Members.{IsFirstIndex}
use Rattle.cm_record.specs.Runs.{IsRunOf, attribute_run_at}
use Rattle.cm_record.specs.Code.{code_name, attributes_before, attributes_place, run_place}
use Rattle.cm_record_layout.proofs.{first-attribute, upper-attribute, all_attributes_len}
use Rattle.cm_record_layout.proofs.{attributes_append, attribute_runs_append, attributes_len}
use Rattle.cm_record_layout.proofs.{all_runs, lay_len}
use Rattle.cm_record_layout.proofs.{attributes_there, tail_joined, runs_there}
use Rattle.cm_record_layout.specs.Tails.{of_fields, of_methods, methods_at, attributes_tail}
use Rattle.cm_record.proofs.MemberPlaces.{item_there, twice_more, fits_there, methods_on}
use Rattle.cm_record.proofs.MemberPlaces.{methods_are, fields_place, fields_count}

member_attributes_append : (xs ys : List ClassMember)
    → member_attributes (xs ++ ys) ≡ member_attributes xs ++ member_attributes ys
member_attributes_append [] ys = refl
member_attributes_append (x ∷ xs) ys = ap
    (λ w. x.attributes ++ w) (member_attributes_append xs ys)
    ∙ sym (append_assoc x.attributes (member_attributes xs) (member_attributes ys))

item_split : {A : Type 0} (xs : List A) (j : ℕ) (x : A) → slice_get xs j ≡ Some x
    → (post : List A) × (xs ≡ take j xs ++ x ∷ post)
item_split [] j x e = absurd (cc)
item_split (y ∷ xs) zero x e = let same : y ≡ x = cc in (xs, ap (λ z. z ∷ xs) same)
item_split (y ∷ xs) (suc j) x e = let more = item_split xs j x e in (more.0, ap (λ w. y ∷ w) more.1)

item_fits : (these : List Attribute) (j : ℕ) (a : Attribute) → AllByRecursion AttributeFits these
    → slice_get these j ≡ Some a → AttributeFits a
item_fits [] j a fits e = absurd (cc)
item_fits (x ∷ these) zero a fits e = let same : x ≡ a = cc in subst AttributeFits same fits.0
item_fits (x ∷ these) (suc j) a fits e = item_fits these j a fits.1 e

index_within : {A : Type 0} (xs : List A) (j : ℕ) (x : A) → slice_get xs j ≡ Some x → j < length xs
index_within [] j x e = absurd (cc)
index_within (y ∷ xs) zero x e = omega arith
index_within (y ∷ xs) (suc j) x e = omega (arith, index_within xs j x e)

-- the second word of a member
member_place : (at : ℕ) (these : List ClassMember) (tail : List ℕ) (k j : ℕ) (m : ClassMember)
    → k ≡ 2 * j → slice_get these j ≡ Some m
    → get_or (members at these ++ tail) (suc k) 0
    ≡ at + 2 * length (member_attributes (take j these))
member_place at [] tail k j m ek e = absurd (cc)
member_place at (x ∷ these) tail k zero m ek e =
    let first : k ≡ 0 = omega arith in
    ap (λ n. get_or (members at (x ∷ these) ++ tail) (suc n) 0) first ∙ omega arith
member_place at (x ∷ these) tail k (suc j) m ek e =
    let more = twice_more k j ek in
    let place : at + 2 * length x.attributes + 2 * length (member_attributes (take j these))
    ≡ at + 2 * length (x.attributes ++ member_attributes (take j these)) =
    omega (arith, length-append x.attributes (member_attributes (take j these))) in
    ap (λ n. get_or (members at (x ∷ these) ++ tail) (suc n) 0) more.1
    ∙ (member_place (at + 2 * length x.attributes) these tail more.0 j m more.2 e ∙ place)

regroup : (f t j p q o : List Attribute) (a : Attribute)
    → f ++ (t ++ (j ++ a ∷ p ++ q)) ++ o ≡ (f ++ t ++ j) ++ a ∷ (p ++ q ++ o)
regroup f t j p q o a = simp append_assoc

module _ (c : ClassFile) (spelled : HasSpelling c) (i : ℕ) (own : ClassMember)
    (method : slice_get c.methods i ≡ Some own) where
  pub place_there : (place : ℕ) → place ≡ members_at c + 2 * (length c.fields + i)
      → get_or (lay c) (place + 1) 0 ≡ (attributes_place c i)
  place_there place ep =
      let here : place + 1 ≡ members_at c + 2 * length c.fields + suc (2 * i) = omega arith in
      let same : methods_at c + 2 * length (member_attributes (take i c.methods))
      ≡ (attributes_place c i) =
      omega (
        arith,
        length-append (member_attributes c.fields)
            (member_attributes (take i c.methods)),
      ) in
      ap (λ n. get_or (lay c) n 0) here
      ∙ (sym (get_or-drop (members_at c + 2 * length c.fields) (lay c) (suc (2 * i)) 0) ∙ (ap
      (λ w. get_or w (suc (2 * i)) 0) (methods_on c spelled)
      ∙ (member_place (methods_at c) c.methods (attributes_tail c) (2 * i) i own refl method
      ∙ same)))

  -- its attributes are within the record
  pub attributes_within : attributes_place c i + 2 * length own.attributes ≤ length (lay c)
  attributes_within =
      let at_method = item_split c.methods i own method in
      let t = member_attributes (take i c.methods) in
      let q = member_attributes at_method.0 in
      let those =
      ap length (ap member_attributes at_method.1
      ∙ member_attributes_append (take i c.methods) (own ∷ at_method.0)) in
      omega (
        arith,
        lay_len c spelled,
        all_attributes_len c,
        those,
        length-append t (own.attributes ++ q),
        length-append own.attributes q,
        length-append (member_attributes c.fields) t,
      )

  own_fits : MemberFits own
  own_fits = fits_there c.methods i own spelled.methods.1 method

  module _ (j : ℕ) (a : Attribute) (there : slice_get own.attributes j ≡ Some a) where
    abbrev pre : List Attribute
    pre = attributes_before c i own j

    split : (post : List Attribute) × (all_attributes c ≡ pre ++ a ∷ post)
    split =
        let at_method = item_split c.methods i own method in
        let at_attribute = item_split own.attributes j a there in
        let f = member_attributes c.fields in
        let t = member_attributes (take i c.methods) in
        let q = member_attributes at_method.0 in
        let those : member_attributes c.methods ≡ t ++ (own.attributes ++ q) =
        ap member_attributes at_method.1
        ∙ member_attributes_append (take i c.methods) (own ∷ at_method.0) in (
          at_attribute.0 ++ q ++ c.attributes,
          ap (λ w. f ++ w ++ c.attributes) (those ∙ ap
              (λ w. t ++ (w ++ q)) at_attribute.1)
              ∙ regroup f t (take j own.attributes) at_attribute.0 q c.attributes a,
        )

    before_len : length pre ≡ length
        (member_attributes c.fields ++ member_attributes (take i c.methods)) + j
    before_len =
        let f = member_attributes c.fields ++ member_attributes (take i c.methods) in
        let within = index_within own.attributes j a there in
        length-append f (take j own.attributes) ∙ ap
        (λ n. length f + n) (length-take-le j own.attributes (omega (arith, within)))

    -- the two words of the attribute
    words_there : (rest : List ℕ)
        × (drop ((attributes_place c i) + 2 * j) (lay c) ≡ (a.name + 2 ^ 32 * length a.bytes)
        ∷ run_place c i own j ∷ rest)
    words_there =
        let A = attribute_runs_at c in
        let tail = utf8_runs c.slots ++ attribute_runs (all_attributes c) in
        let all : drop (attributes_at c) (lay c) ≡ attributes A (all_attributes c) ++ tail =
        attributes_there c spelled
        ∙ (sym (tail_joined c) ∙ append_assoc (attributes A (all_attributes c))
        (utf8_runs c.slots) (attribute_runs (all_attributes c))) in
        let parts : attributes A (all_attributes c) ≡ attributes A pre
        ++ attributes (run_place c i own j) (a ∷ split.0) =
        ap (attributes A) split.1 ∙ attributes_append A pre (a ∷ split.0) in
        let X = attributes (run_place c i own j) (a ∷ split.0) in
        let place : (attributes_place c i) + 2 * j ≡ attributes_at c + 2 * length pre =
        omega (arith, before_len) in (
          attributes (run_place c i own j + length (attribute_run a)) split.0 ++ tail,
          ap (λ n. drop n (lay c)) place
              ∙ (sym (drop-drop (2 * length pre) (attributes_at c) (lay c))
              ∙ (ap (drop (2 * length pre)) (all ∙ (ap
              (λ w. w ++ tail) parts ∙ append_assoc (attributes A pre) X tail))
              ∙ drop_at (attributes A pre) (X ++ tail) (2 * length pre) (attributes_len A pre))),
        )

    pub first_word : get_or (lay c) ((attributes_place c i) + 2 * j) 0
        ≡ a.name + 2 ^ 32 * length a.bytes
    first_word =
        let k = (attributes_place c i) + 2 * j in
        let here : k ≡ k + 0 = omega arith in
        ap (λ n. get_or (lay c) n 0) here ∙ (sym (get_or-drop k (lay c) 0 0) ∙ ap
        (λ w. get_or w 0 0) words_there.1)

    pub name_word : first_of (get_or (lay c) ((attributes_place c i) + 2 * j) 0) ≡ a.name
    name_word = let fits = item_fits own.attributes j a own_fits.attributes.1 there in
        ap first_of first_word ∙ first-attribute a.name (length a.bytes) fits.name fits.size

    pub count_word : upper_of (get_or (lay c) ((attributes_place c i) + 2 * j) 0) ≡ length a.bytes
    count_word = let fits = item_fits own.attributes j a own_fits.attributes.1 there in
        ap upper_of first_word ∙ upper-attribute a.name (length a.bytes) fits.name fits.size

    pub run_word : get_or (lay c) ((attributes_place c i) + 2 * j + 1) 0 ≡ run_place c i own j
    run_word = sym (get_or-drop ((attributes_place c i) + 2 * j) (lay c) 1 0) ∙ ap
        (λ w. get_or w 1 0) words_there.1

    pub run_there : IsRunOf (lay c)
        (record { at = run_place c i own j; len = length a.bytes }) a.bytes
    run_there =
        let fits = item_fits own.attributes j a own_fits.attributes.1 there in
        let all = attribute_runs (all_attributes c) in
        let parts : all ≡ attribute_runs pre ++ (packed a.bytes ++ attribute_runs split.0) =
        ap attribute_runs split.1 ∙ attribute_runs_append pre (a ∷ split.0) in
        let f = attribute_runs (of_fields c) in
        let m = attribute_runs (of_methods c) in
        let o = attribute_runs c.attributes in
        let joined : f ++ (m ++ (o ++ [])) ≡ all = ap
        (λ w. f ++ (m ++ w)) (append-nil o) ∙ (sym (append_assoc f m o) ∙ sym (all_runs c)) in
        let from : drop (attribute_runs_at c) (lay c) ≡ all =
        sym (drop-drop (length (utf8_runs c.slots)) (runs_at c) (lay c))
        ∙ (ap (drop (length (utf8_runs c.slots))) (runs_there c spelled)
        ∙ (drop_at (utf8_runs c.slots) (f ++ (m ++ (o ++ []))) (length (utf8_runs c.slots)) refl
        ∙ joined)) in
        let whole = lay_len c spelled in
        record {
          fits = fits.bytes;
          count = refl;
          within = omega (
            arith,
            whole,
            ap length parts,
            length-append (attribute_runs pre) (packed a.bytes ++ attribute_runs split.0),
          );
          rest = attribute_runs split.0;
          split = sym (drop-drop (length (attribute_runs pre)) (attribute_runs_at c) (lay c))
              ∙ (ap (drop (length (attribute_runs pre))) (from ∙ parts)
              ∙ drop_at (attribute_runs pre) (packed a.bytes ++ attribute_runs split.0)
              (length (attribute_runs pre)) refl);
        }

-- the same in the words of a record
module _ (c : ClassFile) (words : List ℕ) (is : IsRecordOf c words) (i : ℕ) (own : ClassMember)
    (method : slice_get c.methods i ≡ Some own) where
  pub attributes_found : (place : ℕ)
      → place ≡ get_or words 5 0 + 2 * (second_of (get_or words 2 0) + i)
      → get_or words (place + 1) 0 ≡ attributes_place c i
  attributes_found place ep =
      ap (λ w. get_or w (place + 1) 0) is.laid
      ∙ place_there c is.spelled i own method place
      (omega (arith, ep, fields_place c words is, fields_count c words is))

  pub attributes_counted : (place : ℕ)
      → place ≡ get_or words 5 0 + 2 * (second_of (get_or words 2 0) + i)
      → fourth_of (get_or words place 0) ≡ length own.attributes
  attributes_counted place ep =
      let at = get_or words 5 0 + 2 * second_of (get_or words 2 0) in
      let here : place ≡ at + 2 * i = omega (arith, ep) in
      ap (λ n. fourth_of (get_or words n 0)) here
      ∙ ((methods_are c words is _ _ refl refl).numbers i own method).count

  pub attributes_inside : attributes_place c i + 2 * length own.attributes ≤ length words
  attributes_inside = omega (arith, ap length is.laid, attributes_within c is.spelled i own method)

  module _ (j : ℕ) (a : Attribute) (there : slice_get own.attributes j ≡ Some a) where
    pub name_found : first_of (get_or words (attributes_place c i + 2 * j) 0) ≡ a.name
    name_found = ap
        (λ w. first_of (get_or w (attributes_place c i + 2 * j) 0)) is.laid
        ∙ name_word c is.spelled i own method j a there

    pub run_found : IsRunOf words (attribute_run_at words (attributes_place c i + 2 * j)) a.bytes
    run_found =
        let k = attributes_place c i + 2 * j in
        let at : get_or words (k + 1) 0 ≡ run_place c i own j = ap
        (λ w. get_or w (k + 1) 0) is.laid ∙ run_word c is.spelled i own method j a there in
        let count : upper_of (get_or words k 0) ≡ length a.bytes = ap
        (λ w. upper_of (get_or w k 0)) is.laid ∙ count_word c is.spelled i own method j a there in
        subst (λ (r : Run). IsRunOf words r a.bytes)
        (λ n. record { at = sym at n; len = sym count n }) (subst
        (λ (w : List ℕ). IsRunOf w (record { at = run_place c i own j; len = length a.bytes })
        a.bytes) (sym is.laid) (run_there c is.spelled i own method j a there))

    pub run_at_place : get_or words (attributes_place c i + 2 * j + 1) 0 ≡ run_place c i own j
    run_at_place = ap
        (λ w. get_or w (attributes_place c i + 2 * j + 1) 0) is.laid
        ∙ run_word c is.spelled i own method j a there

-- ---- the first Code among them

abbrev pub code_test : ClassFile → List ℕ → ℕ → ℕ → Bool
code_test c words at k = names_utf8 c (first_of (get_or words (at + 2 * k) 0)) code_name

below : (a b : ℕ) → (a < b) ⊎ ((b < a) ⊎ (a ≡ b))
below zero zero = inr (inr refl)
below zero (suc b) = inl (omega arith)
below (suc a) zero = inr (inl (omega arith))
below (suc a) (suc b) =
    elim (below a b) [
      | inl h ↦ inl (omega arith)
      | inr h ↦ elim h [ inl g ↦ inr (inl (omega arith)) | inr g ↦ inr (inr (ap suc g)) ]
    ]

module _ (c : ClassFile) (words : List ℕ) (is : IsRecordOf c words) (i : ℕ) (own : ClassMember)
    (method : slice_get c.methods i ≡ Some own)
    (at count : ℕ) (place : at ≡ attributes_place c i) (all : count ≡ length own.attributes) where
  tested : (j : ℕ) (a : Attribute) → slice_get own.attributes j ≡ Some a
      → code_test c words at j ≡ names_utf8 c a.name code_name
  tested j a there = ap (λ n. names_utf8 c n code_name) (ap
      (λ n. first_of (get_or words (n + 2 * j) 0)) place
      ∙ name_found c words is i own method j a there)

  pub none_named : ((k : ℕ) → k < count → code_test c words at k ≡ false)
      → (j : ℕ) (a : Attribute) → slice_get own.attributes j ≡ Some a
      → names_utf8 c a.name code_name ≡ true → ⊥
  none_named none j a there named =
      let both : false ≡ true =
      sym (none j (omega (arith, index_within own.attributes j a there, all)))
      ∙ (tested j a there ∙ named) in cc

  -- the attribute that was found
  pub code_there : (found : ℕ) → IsFirstIndex (code_test c words at) count found → (a : Attribute)
      × (slice_get own.attributes found ≡ Some a) × (names_utf8 c a.name code_name ≡ true)
  code_there found first =
      let within = first.there in
      let a = item_there own.attributes found (omega (arith, within, all)) in
      (a.0, a.1, sym (tested found a.0 a.1) ∙ first.passes)

  pub none_there : (found : ℕ) → IsFirstIndex (code_test c words at) count found
      → ((j : ℕ) (a : Attribute) → slice_get own.attributes j ≡ Some a
      → names_utf8 c a.name code_name ≡ false) → ⊥
  none_there found first none =
      let it = code_there found first in
      let both : false ≡ true = sym (none found it.0 it.1) ∙ it.2 in cc

  pub found_run : (found : ℕ) (a : Attribute) → slice_get own.attributes found ≡ Some a
      → (run : Run) → run ≡ attribute_run_at words (at + 2 * found)
      → IsRunOf words run a.bytes
  found_run found a there run er =
      subst (λ (r : Run). IsRunOf words r a.bytes) (sym (er ∙ ap
      (λ n. attribute_run_at words (n + 2 * found)) place))
      (run_found c words is i own method found a there)

  pub found_place : (found : ℕ) (a : Attribute) → slice_get own.attributes found ≡ Some a
      → (run : Run) → run ≡ attribute_run_at words (at + 2 * found)
      → run.at ≡ run_place c i own found
  found_place found a there run er = ap (λ (r : Run). r.at) er ∙ (ap
      (λ n. get_or words (n + 2 * found + 1) 0) place
      ∙ run_at_place c words is i own method found a there)

  pub found_is : (found : ℕ) → IsFirstIndex (code_test c words at) count found
      → (j : ℕ) (a : Attribute) → slice_get own.attributes j ≡ Some a
      → names_utf8 c a.name code_name ≡ true
      → ((k : ℕ) (b : Attribute) → k < j → slice_get own.attributes k ≡ Some b
      → names_utf8 c b.name code_name ≡ false) → found ≡ j
  found_is found first j a there named before =
      let it = code_there found first in
      elim (below found j) [
        | inl h ↦ absurd (let both : false ≡ true = sym (before found it.0 h it.1) ∙ it.2 in cc)
        | inr h ↦ elim h [
          | inl g ↦ absurd (let both : false ≡ true = sym (first.first j g)
              ∙ (tested j a there ∙ named) in cc)
          | inr same ↦ same
        ]
      ]
