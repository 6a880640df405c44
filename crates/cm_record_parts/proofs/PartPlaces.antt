-- The words of interfaces, members and attributes, found in the words of a record.
-- For `interface`, `member_at`, `attribute_at`, `attributes_of`.
use Rattle.std.proofs.Common.{◌≡◌, ◌<◌, ◌≤◌, ◌+◌, ◌*◌, ◌%◌, ◌^◌, ℕ, zero, suc, List, [], ◌∷◌}
use Rattle.std.proofs.Common.{◌++◌, length, take, drop, get_or, slice_get, Some, refl, sym, ◌∙◌}
use Rattle.std.proofs.Common.{ap, subst, arith, length-append, append_assoc, get_or-drop, drop-drop}
use Rattle.std.specs.List.{AllByRecursion}
use Rattle.std.proofs.lemmas.List.{drop_at, append-nil, get_or_append_left}
use Rattle.std.proofs.lemmas.Option.{slice_get_within, get_or_from_slice_get}
use Rattle.cm_class.specs.declared.class_file.Attribute.{Attribute as ClassAttribute}
use Rattle.cm_class.specs.declared.class_file.Member.{Member as ClassMember}
use Rattle.cm_class.specs.declared.class_file.ClassFile.{ClassFile}
use Rattle.cm_class.specs.Spelling.{HasSpelling, AttributeFits, MemberFits, IsU2}
use Rattle.cm_record_layout.specs.Packing.{packed, four_numbers, first_of, second_of, third_of}
use Rattle.cm_record_layout.specs.Packing.{fourth_of, upper_of}
use Rattle.cm_record_layout.specs.Layout.{lay, directory, members, member_attributes, attributes}
use Rattle.cm_record_layout.specs.Layout.{attribute_run, attribute_runs, all_attributes}
use Rattle.cm_record_layout.specs.Layout.{all_members, utf8_runs, interfaces_at, members_at}
use Rattle.cm_record_layout.specs.Layout.{attributes_at, runs_at, attribute_runs_at, IsRecordOf}
use Rattle.cm_record_layout.specs.Tails.{of_fields, of_methods, methods_at, attributes_tail}
use Rattle.cm_record_layout.proofs.{first-four_numbers, second-four_numbers, third-four_numbers}
use Rattle.cm_record_layout.proofs.{fourth-four_numbers, members_append}
use Rattle.cm_record_layout.proofs.{directory_len, main_there, attributes_there}
use Rattle.cm_record_layout.proofs.{tail_joined, runs_there, first-attribute, upper-attribute}
use Rattle.cm_record_layout.proofs.{all_runs}
use Rattle.cm_record.specs.Members.{HasNumbers}
use Rattle.cm_record_parts.specs.declared.places.Place.{Place}
use Rattle.cm_record_parts.specs.Places.{LieAt}
use Rattle.cm_record_parts.proofs.RunBytes.{lie_there}
use Rattle.cm_record_parts.proofs.Heads.{interfaces_offset, members_offset, whole}

-- ---- lists

all_at : {A : Type 0} (P : A → Type 0) (xs : List A) (j : ℕ) (x : A) → AllByRecursion P xs
    → slice_get xs j ≡ Some x → P x
all_at P [] j x fits e = absurd (cc)
all_at P (y ∷ xs) zero x fits e = let same : y ≡ x = cc in subst P same fits.0
all_at P (y ∷ xs) (suc j) x fits e = all_at P xs j x fits.1 e

all_append : {A : Type 0} (P : A → Type 0) (xs ys : List A) → AllByRecursion P xs
    → AllByRecursion P ys → AllByRecursion P (xs ++ ys)
all_append P [] ys a b = b
all_append P (x ∷ xs) ys a b = (a.0, all_append P xs ys a.1 b)

twice_more : (k j : ℕ) → k ≡ 2 * suc j → (i : ℕ) × (k ≡ suc (suc i)) × (i ≡ 2 * j)
twice_more zero j e = absurd (omega arith)
twice_more (suc zero) j e = absurd (omega arith)
twice_more (suc (suc i)) j e = (i, refl, omega arith)

pub item_there : {A : Type 0} (xs : List A) (j : ℕ) → j < length xs → (x : A)
    × (slice_get xs j ≡ Some x)
item_there [] j h = absurd (omega arith)
item_there (x ∷ xs) zero h = (x, refl)
item_there (x ∷ xs) (suc j) h = item_there xs j (omega arith)

pub in_front : {A : Type 0} (xs ys : List A) (j : ℕ) (x : A) → slice_get xs j ≡ Some x
    → slice_get (xs ++ ys) j ≡ Some x
in_front [] ys j x e = absurd (cc)
in_front (y ∷ xs) ys zero x e = e
in_front (y ∷ xs) ys (suc j) x e = in_front xs ys j x e

pub after_front : {A : Type 0} (xs ys : List A) (j : ℕ)
    → slice_get (xs ++ ys) (length xs + j) ≡ slice_get ys j
after_front [] ys j = let same : 0 + j ≡ j = omega arith in ap (slice_get ys) same
after_front (x ∷ xs) ys j =
    let more : length (x ∷ xs) + j ≡ suc (length xs + j) = omega arith in
    ap (slice_get (x ∷ xs ++ ys)) more ∙ after_front xs ys j

-- ---- members and attributes, from their words

-- the two words of a member
member_words : (at : ℕ) (these : List ClassMember) (tail : List ℕ) (k j : ℕ) (m : ClassMember)
    → k ≡ 2 * j → slice_get these j ≡ Some m
    → (get_or (members at these ++ tail) k 0
    ≡ four_numbers m.flags m.name m.descriptor (length m.attributes))
    × (get_or (members at these ++ tail) (suc k) 0
    ≡ at + 2 * length (member_attributes (take j these)))
member_words at [] tail k j m ek e = absurd (cc)
member_words at (x ∷ these) tail k zero m ek e =
    let same : x ≡ m = cc in
    let first : k ≡ 0 = omega arith in (
      ap (λ n. get_or (members at (x ∷ these) ++ tail) n 0) first ∙ ap
          (λ (y : ClassMember). four_numbers y.flags y.name y.descriptor
          (length y.attributes)) same,
      ap (λ n. get_or (members at (x ∷ these) ++ tail) (suc n) 0) first ∙ omega arith,
    )
member_words at (x ∷ these) tail k (suc j) m ek e =
    let more = twice_more k j ek in
    let next = at + 2 * length x.attributes in
    let found = member_words next these tail more.0 j m more.2 e in
    let place : next + 2 * length (member_attributes (take j these))
    ≡ at + 2 * length (x.attributes ++ member_attributes (take j these)) =
    omega (arith, length-append x.attributes (member_attributes (take j these))) in (
      ap (λ n. get_or (members at (x ∷ these) ++ tail) n 0) more.1 ∙ found.0,
      ap (λ n. get_or (members at (x ∷ these) ++ tail) (suc n) 0) more.1 ∙ (found.1 ∙ place),
    )

-- the two words of an attribute
attribute_words : (at : ℕ) (these : List ClassAttribute) (tail : List ℕ) (k j : ℕ)
    (a : ClassAttribute) → k ≡ 2 * j → slice_get these j ≡ Some a
    → (get_or (attributes at these ++ tail) k 0 ≡ a.name + 2 ^ 32 * length a.bytes)
    × (get_or (attributes at these ++ tail) (suc k) 0
    ≡ at + length (attribute_runs (take j these)))
attribute_words at [] tail k j a ek e = absurd (cc)
attribute_words at (x ∷ these) tail k zero a ek e =
    let same : x ≡ a = cc in
    let first : k ≡ 0 = omega arith in (
      ap (λ n. get_or (attributes at (x ∷ these) ++ tail) n 0) first ∙ ap
          (λ (y : ClassAttribute). y.name + 2 ^ 32 * length y.bytes) same,
      ap (λ n. get_or (attributes at (x ∷ these) ++ tail) (suc n) 0) first ∙ omega arith,
    )
attribute_words at (x ∷ these) tail k (suc j) a ek e =
    let more = twice_more k j ek in
    let next = at + length (attribute_run x) in
    let found = attribute_words next these tail more.0 j a more.2 e in
    let place : next + length (attribute_runs (take j these))
    ≡ at + length (attribute_run x ++ attribute_runs (take j these)) =
    omega (arith, length-append (attribute_run x) (attribute_runs (take j these))) in (
      ap (λ n. get_or (attributes at (x ∷ these) ++ tail) n 0) more.1 ∙ found.0,
      ap (λ n. get_or (attributes at (x ∷ these) ++ tail) (suc n) 0) more.1 ∙ (found.1 ∙ place),
    )

-- the run of an attribute, among those of all
run_split : (these : List ClassAttribute) (j : ℕ) (a : ClassAttribute)
    → slice_get these j ≡ Some a → (rest : List ℕ)
    × (attribute_runs these ≡ attribute_runs (take j these) ++ (packed a.bytes ++ rest))
run_split [] j a e = absurd (cc)
run_split (x ∷ these) zero a e = let same : x ≡ a =
    cc in (attribute_runs these, ap (λ y. attribute_run y ++ attribute_runs these) same)
run_split (x ∷ these) (suc j) a e =
    let more = run_split these j a e in (
      more.0,
      ap (λ w. attribute_run x ++ w) more.1
          ∙ sym (append_assoc (attribute_run x) (attribute_runs (take j these))
          (packed a.bytes ++ more.0)),
    )

-- ---- lists of attributes

member_attributes_append : (xs ys : List ClassMember)
    → member_attributes (xs ++ ys) ≡ member_attributes xs ++ member_attributes ys
member_attributes_append [] ys = refl
member_attributes_append (x ∷ xs) ys = ap
    (λ w. x.attributes ++ w) (member_attributes_append xs ys)
    ∙ sym (append_assoc x.attributes (member_attributes xs) (member_attributes ys))

-- the attributes of a member, among those of all members
attributes_split : (these : List ClassMember) (j : ℕ) (m : ClassMember)
    → slice_get these j ≡ Some m → (after : List ClassAttribute)
    × (member_attributes these ≡ member_attributes (take j these) ++ (m.attributes ++ after))
attributes_split [] j m e = absurd (cc)
attributes_split (x ∷ these) zero m e = let same : x ≡ m =
    cc in (
      member_attributes these,
      ap (λ (y : ClassMember). y.attributes ++ member_attributes these)
          same,
    )
attributes_split (x ∷ these) (suc j) m e =
    let more = attributes_split these j m e in (
      more.0,
      ap (λ w. x.attributes ++ w) more.1
          ∙ sym (append_assoc x.attributes (member_attributes (take j these))
          (m.attributes ++ more.0)),
    )

attributes_fit : (these : List ClassMember) → AllByRecursion MemberFits these
    → AllByRecursion AttributeFits (member_attributes these)
attributes_fit [] fits = tt
attributes_fit (m ∷ these) fits =
    all_append AttributeFits m.attributes (member_attributes these) fits.0.attributes.1
    (attributes_fit these fits.1)

pub all_of_members : (c : ClassFile)
    → all_attributes c ≡ member_attributes (all_members c) ++ c.attributes
all_of_members c = ap (λ w. w ++ c.attributes) (sym (member_attributes_append c.fields c.methods))

-- those of a member lie among those of the class
pub among_all : (c : ClassFile) (j : ℕ) (m : ClassMember) → slice_get (all_members c) j ≡ Some m
    → (after : List ClassAttribute) × (all_attributes c
    ≡ member_attributes (take j (all_members c)) ++ (m.attributes ++ after))
among_all c j m e =
    let found = attributes_split (all_members c) j m e in
    let before = member_attributes (take j (all_members c)) in (
      found.0 ++ c.attributes,
      all_of_members c ∙ (ap (λ w. w ++ c.attributes) found.1
          ∙ (append_assoc before (m.attributes ++ found.0) c.attributes
          ∙ ap (λ w. before ++ w) (append_assoc m.attributes found.0 c.attributes))),
    )

-- ---- in a record

module _ (c : ClassFile) (spelled : HasSpelling c) where
  -- what follows the interfaces
  abbrev after_interfaces : List ℕ
  after_interfaces =
      members (attributes_at c) c.fields
      ++ (members (methods_at c) c.methods ++ attributes_tail c)

  interfaces_on : drop (interfaces_at c) (lay c) ≡ c.interfaces ++ after_interfaces
  interfaces_on =
      let d = directory (runs_at c) c.slots in
      let place : interfaces_at c ≡ 9 + length d =
      omega (arith, directory_len (runs_at c) c.slots spelled.slots) in
      ap (λ n. drop n (lay c)) place ∙ (sym (drop-drop (length d) 9 (lay c))
      ∙ (ap (drop (length d)) (main_there c spelled)
      ∙ drop_at d (c.interfaces ++ after_interfaces) (length d) refl))

  members_on : drop (members_at c) (lay c)
      ≡ members (attributes_at c) (all_members c) ++ attributes_tail c
  members_on =
      let fields = members (attributes_at c) c.fields in
      let methods = members (methods_at c) c.methods in
      sym (drop-drop (length c.interfaces) (interfaces_at c) (lay c))
      ∙ (ap (drop (length c.interfaces)) interfaces_on
      ∙ (drop_at c.interfaces after_interfaces (length c.interfaces) refl
      ∙ (sym (append_assoc fields methods (attributes_tail c))
      ∙ ap (λ w. w ++ attributes_tail c)
      (sym (members_append (attributes_at c) c.fields c.methods)))))

  attributes_on : (rest : List ℕ) × (drop (attributes_at c) (lay c)
      ≡ attributes (attribute_runs_at c) (all_attributes c) ++ rest)
  attributes_on =
      let rest = utf8_runs c.slots ++ attribute_runs (all_attributes c) in (
        rest,
        attributes_there c spelled ∙ (sym (tail_joined c)
            ∙ append_assoc (attributes (attribute_runs_at c) (all_attributes c))
            (utf8_runs c.slots) (attribute_runs (all_attributes c))),
      )

  runs_on : drop (attribute_runs_at c) (lay c) ≡ attribute_runs (all_attributes c)
  runs_on =
      let f = attribute_runs (of_fields c) in
      let m = attribute_runs (of_methods c) in
      let o = attribute_runs c.attributes in
      let joined : f ++ (m ++ (o ++ [])) ≡ attribute_runs (all_attributes c) = ap
      (λ w. f ++ (m ++ w)) (append-nil o) ∙ (sym (append_assoc f m o) ∙ sym (all_runs c)) in
      sym (drop-drop (length (utf8_runs c.slots)) (runs_at c) (lay c))
      ∙ (ap (drop (length (utf8_runs c.slots))) (runs_there c spelled)
      ∙ (drop_at (utf8_runs c.slots) (f ++ (m ++ (o ++ []))) (length (utf8_runs c.slots)) refl
      ∙ joined))

  members_fit : AllByRecursion MemberFits (all_members c)
  members_fit = all_append MemberFits c.fields c.methods spelled.fields.1 spelled.methods.1

  all_fit : AllByRecursion AttributeFits (all_attributes c)
  all_fit =
      all_append AttributeFits (member_attributes c.fields ++ member_attributes c.methods)
      c.attributes
      (all_append AttributeFits (member_attributes c.fields) (member_attributes c.methods)
      (attributes_fit c.fields spelled.fields.1) (attributes_fit c.methods spelled.methods.1))
      spelled.attributes.1

numbers_of : (word : ℕ) (m : ClassMember) → MemberFits m
    → word ≡ four_numbers m.flags m.name m.descriptor (length m.attributes) → HasNumbers word m
numbers_of word m fits e =
    let n = length m.attributes in
    record {
      flags = ap first_of e ∙ first-four_numbers m.flags m.name m.descriptor n fits.flags fits.name
          fits.descriptor fits.attributes.0;
      name = ap second_of e ∙ second-four_numbers m.flags m.name m.descriptor n fits.flags fits.name
          fits.descriptor fits.attributes.0;
      descriptor =
          ap third_of e ∙ third-four_numbers m.flags m.name m.descriptor n fits.flags fits.name
          fits.descriptor fits.attributes.0;
      count = ap fourth_of e ∙ fourth-four_numbers m.flags m.name m.descriptor n fits.flags
          fits.name fits.descriptor fits.attributes.0;
    }

-- what the two words of an attribute say
pub record IsAttributeAt (words : List ℕ) (place : ℕ) (a : ClassAttribute) : Type 0 where
  pub name : first_of (get_or words place 0) ≡ a.name
  pub len : upper_of (get_or words place 0) ≡ length a.bytes
  pub small : get_or words (place + 1) 0 < 2 ^ 29
  pub content : (p : Place) → p.at ≡ 8 * get_or words (place + 1) 0 → p.len ≡ length a.bytes
      → LieAt words p a.bytes

module _ (c : ClassFile) (words : List ℕ) (is : IsRecordOf c words) where
  pub interface_there : (i x place : ℕ) → slice_get c.interfaces i ≡ Some x
      → place ≡ get_or words 4 0 % 2 ^ 32 + i → first_of (get_or words place 0) ≡ x
  interface_there i x place e ep =
      let here : place ≡ interfaces_at c + i = omega (arith, ep, interfaces_offset c words is) in
      let word : get_or words place 0 ≡ x =
      ap (λ n. get_or words n 0) here ∙ (ap (λ w. get_or w (interfaces_at c + i) 0) is.laid
      ∙ (sym (get_or-drop (interfaces_at c) (lay c) i 0) ∙ (ap
      (λ w. get_or w i 0) (interfaces_on c is.spelled)
      ∙ (get_or_append_left c.interfaces (after_interfaces c is.spelled) 0 i
      (slice_get_within c.interfaces i x e)
      ∙ get_or_from_slice_get c.interfaces i x 0 e)))) in
      let fits : x < 2 ^ 16 = all_at IsU2 c.interfaces i x is.spelled.interfaces.1 e in
      omega (arith, word, fits)

  pub member_there : (j : ℕ) (m : ClassMember) (place : ℕ) → slice_get (all_members c) j ≡ Some m
      → place ≡ get_or words 5 0 % 2 ^ 32 + 2 * j
      → HasNumbers (get_or words place 0) m
      × (get_or words (place + 1) 0
      ≡ attributes_at c + 2 * length (member_attributes (take j (all_members c))))
  member_there j m place e ep =
      let here : place ≡ members_at c + 2 * j = omega (arith, ep, members_offset c words is) in
      let next : place + 1 ≡ members_at c + suc (2 * j) = omega (arith, here) in
      let found =
      member_words (attributes_at c) (all_members c) (attributes_tail c) (2 * j) j m refl e in (
        numbers_of (get_or words place 0) m
            (all_at MemberFits (all_members c) j m (members_fit c is.spelled) e)
            (ap (λ n. get_or words n 0) here ∙ (ap (λ w. get_or w (members_at c + 2 * j) 0) is.laid
            ∙ (sym (get_or-drop (members_at c) (lay c) (2 * j) 0) ∙ (ap
            (λ w. get_or w (2 * j) 0) (members_on c is.spelled) ∙ found.0)))),
        ap (λ n. get_or words n 0) next ∙ (ap (λ w. get_or w (members_at c + suc (2 * j)) 0) is.laid
            ∙ (sym (get_or-drop (members_at c) (lay c) (suc (2 * j)) 0) ∙ (ap
            (λ w. get_or w (suc (2 * j)) 0) (members_on c is.spelled) ∙ found.1))),
      )

  pub attribute_there : (j : ℕ) (a : ClassAttribute) (place : ℕ)
      → slice_get (all_attributes c) j ≡ Some a → place ≡ attributes_at c + 2 * j
      → IsAttributeAt words place a
  attribute_there j a place e ep =
      let next : place + 1 ≡ attributes_at c + suc (2 * j) = omega (arith, ep) in
      let on = attributes_on c is.spelled in
      let found =
      attribute_words (attribute_runs_at c) (all_attributes c) on.0 (2 * j) j a refl e in
      let word : get_or words place 0 ≡ a.name + 2 ^ 32 * length a.bytes =
      ap (λ n. get_or words n 0) ep ∙ (ap (λ w. get_or w (attributes_at c + 2 * j) 0) is.laid
      ∙ (sym (get_or-drop (attributes_at c) (lay c) (2 * j) 0) ∙ (ap
      (λ w. get_or w (2 * j) 0) on.1 ∙ found.0))) in
      let run = attribute_runs_at c + length (attribute_runs (take j (all_attributes c))) in
      let at : get_or words (place + 1) 0 ≡ run =
      ap (λ n. get_or words n 0) next
      ∙ (ap (λ w. get_or w (attributes_at c + suc (2 * j)) 0) is.laid
      ∙ (sym (get_or-drop (attributes_at c) (lay c) (suc (2 * j)) 0) ∙ (ap
      (λ w. get_or w (suc (2 * j)) 0) on.1 ∙ found.1))) in
      let fits = all_at AttributeFits (all_attributes c) j a (all_fit c is.spelled) e in
      let parts = run_split (all_attributes c) j a e in
      let before = attribute_runs (take j (all_attributes c)) in
      let inside : run ≤ length words =
      omega (
        arith,
        whole c words is,
        ap length parts.1,
        length-append before (packed a.bytes ++ parts.0),
      ) in
      let there : drop run words ≡ packed a.bytes ++ parts.0 =
      ap (drop run) is.laid
      ∙ (sym (drop-drop (length before) (attribute_runs_at c) (lay c))
      ∙ (ap (drop (length before)) (runs_on c is.spelled ∙ parts.1)
      ∙ drop_at before (packed a.bytes ++ parts.0) (length before) refl)) in
      record {
        name = ap first_of word ∙ first-attribute a.name (length a.bytes) fits.name fits.size;
        len = ap upper_of word ∙ upper-attribute a.name (length a.bytes) fits.name fits.size;
        small = omega (arith, at, inside, is.short);
        content = λ p pa pl. lie_there words a.bytes parts.0 run p fits.bytes inside there
            (pa ∙ ap (λ n. 8 * n) at) pl;
      }
