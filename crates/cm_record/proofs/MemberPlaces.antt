-- The words of members, attributes and their runs, found in the words of a record.
-- For `Members::find`, `Record::code`, `Record::field`, `Record::method`, `method_attributes`.
use Rattle.std.proofs.Common.{◌≡◌, ◌<◌, ◌≤◌, ◌+◌, ◌*◌, ℕ, zero, suc, Bool, false, List, [], ◌∷◌}
use Rattle.std.proofs.Common.{◌++◌, length, drop, get_or, slice_get, Some, refl, sym, ◌∙◌, ap}
use Rattle.std.proofs.Common.{subst, arith, length-append, append_assoc, get_or-drop, drop-drop}
use Rattle.std.proofs.lemmas.List.{drop_at}
use Rattle.cm_class.specs.declared.class_file.Member.{Member as ClassMember}
use Rattle.cm_class.specs.declared.class_file.ClassFile.{ClassFile}
use Rattle.std.specs.List.{AllByRecursion}
use Rattle.cm_class.specs.Spelling.{HasSpelling, MemberFits}
use Rattle.cm_record_layout.specs.Packing.{four_numbers, first_of, second_of, third_of, fourth_of}
use Rattle.cm_record_layout.specs.Layout.{lay, directory, members, members_at, attributes_at}
use Rattle.cm_record_layout.specs.Layout.{runs_at, IsRecordOf}
use Rattle.cm_record.specs.Members.{leads_to, has_both, HasNumbers, AreMembersAt}
use Rattle.cm_record.specs.Members.{IsFirstIndex, IsLeastMember}
use Rattle.cm_record_layout.proofs.{first-four_numbers, second-four_numbers, third-four_numbers}
use Rattle.cm_record_layout.proofs.{fourth-four_numbers, all_members_len, members_len}
use Rattle.cm_record_layout.proofs.{directory_len, lay_len, main_there}
use Rattle.cm_record_layout.proofs.{word_5, fields_there, methods_there}
use Rattle.cm_record_layout.specs.Tails.{methods_at, attributes_tail}

pub twice_more : (k j : ℕ) → k ≡ 2 * suc j → (i : ℕ) × (k ≡ suc (suc i)) × (i ≡ 2 * j)
twice_more zero j e = absurd (omega arith)
twice_more (suc zero) j e = absurd (omega arith)
twice_more (suc (suc i)) j e = (i, refl, omega arith)

-- the first word of a member
pub member_word : (at : ℕ) (these : List ClassMember) (tail : List ℕ) (k j : ℕ) (m : ClassMember)
    → k ≡ 2 * j → slice_get these j ≡ Some m
    → get_or (members at these ++ tail) k 0
    ≡ four_numbers m.flags m.name m.descriptor (length m.attributes)
member_word at [] tail k j m ek e = absurd (cc)
member_word at (x ∷ these) tail k zero m ek e =
    let same : x ≡ m = cc in
    let first : k ≡ 0 = omega arith in
    ap (λ n. get_or (members at (x ∷ these) ++ tail) n 0) first ∙ ap
    (λ (y : ClassMember). four_numbers y.flags y.name y.descriptor (length y.attributes)) same
member_word at (x ∷ these) tail k (suc j) m ek e =
    let more = twice_more k j ek in
    ap (λ n. get_or (members at (x ∷ these) ++ tail) n 0) more.1
    ∙ member_word (at + 2 * length x.attributes) these tail more.0 j m more.2 e

pub fits_there : (these : List ClassMember) (j : ℕ) (m : ClassMember)
    → AllByRecursion MemberFits these → slice_get these j ≡ Some m → MemberFits m
fits_there [] j m fits e = absurd (cc)
fits_there (x ∷ these) zero m fits e = let same : x ≡ m = cc in subst MemberFits same fits.0
fits_there (x ∷ these) (suc j) m fits e = fits_there these j m fits.1 e

pub index_there : {A : Type 0} (xs : List A) (j : ℕ) (x : A) → slice_get xs j ≡ Some x
    → j < length xs
index_there [] j x e = absurd (cc)
index_there (y ∷ xs) zero x e = omega arith
index_there (y ∷ xs) (suc j) x e = omega (arith, index_there xs j x e)

pub item_there : {A : Type 0} (xs : List A) (j : ℕ) → j < length xs → (x : A)
    × (slice_get xs j ≡ Some x)
item_there [] j h = absurd (omega arith)
item_there (x ∷ xs) zero h = (x, refl)
item_there (x ∷ xs) (suc j) h = item_there xs j (omega arith)

numbers_of : (word : ℕ) (m : ClassMember) → MemberFits m
    → word ≡ four_numbers m.flags m.name m.descriptor (length m.attributes) → HasNumbers word m
numbers_of word m fits e =
    let n = length m.attributes in
    record {
      flags = ap first_of e ∙ first-four_numbers m.flags m.name m.descriptor n fits.flags fits.name
          fits.descriptor fits.attributes.0;
      name = ap second_of e ∙ second-four_numbers m.flags m.name m.descriptor n fits.flags fits.name
          fits.descriptor fits.attributes.0;
      descriptor =
          ap third_of e ∙ third-four_numbers m.flags m.name m.descriptor n fits.flags fits.name
          fits.descriptor fits.attributes.0;
      count = ap fourth_of e ∙ fourth-four_numbers m.flags m.name m.descriptor n fits.flags
          fits.name fits.descriptor fits.attributes.0;
    }

module _ (c : ClassFile) (spelled : HasSpelling c) where
  -- the record from the fields on, and from the methods on
  pub fields_on : drop (members_at c) (lay c) ≡ members (attributes_at c) c.fields
      ++ (members (methods_at c) c.methods ++ attributes_tail c)
  fields_on =
      let d = directory (runs_at c) c.slots in
      let rest =
      members (attributes_at c) c.fields
      ++ (members (methods_at c) c.methods ++ attributes_tail c) in
      let size : length d + length c.interfaces ≡ length (d ++ c.interfaces) =
      sym (length-append d c.interfaces) in
      let place : members_at c ≡ 9 + length (d ++ c.interfaces) =
      omega (arith, size, directory_len (runs_at c) c.slots spelled.slots) in
      ap (λ n. drop n (lay c)) place ∙ (sym (drop-drop (length (d ++ c.interfaces)) 9 (lay c))
      ∙ (ap (drop (length (d ++ c.interfaces)))
      (main_there c spelled ∙ sym (append_assoc d c.interfaces rest))
      ∙ drop_at (d ++ c.interfaces) rest (length (d ++ c.interfaces)) refl))

  pub methods_on : drop (members_at c + 2 * length c.fields) (lay c)
      ≡ members (methods_at c) c.methods ++ attributes_tail c
  methods_on =
      let front = members (attributes_at c) c.fields in
      let rest = members (methods_at c) c.methods ++ attributes_tail c in
      sym (drop-drop (2 * length c.fields) (members_at c) (lay c))
      ∙ (ap (drop (2 * length c.fields)) fields_on
      ∙ drop_at front rest (2 * length c.fields) (members_len (attributes_at c) c.fields))

  pub field_numbers : (at j : ℕ) (m : ClassMember) → at ≡ members_at c
      → slice_get c.fields j ≡ Some m → HasNumbers (get_or (lay c) (at + 2 * j) 0) m
  field_numbers at j m ea e =
      numbers_of (get_or (lay c) (at + 2 * j) 0) m (fits_there c.fields j m spelled.fields.1 e)
      (sym (get_or-drop at (lay c) (2 * j) 0) ∙ (ap (λ w. get_or w (2 * j) 0) (ap
      (λ n. drop n (lay c)) ea ∙ fields_on)
      ∙ member_word (attributes_at c) c.fields
      (members (methods_at c) c.methods ++ attributes_tail c) (2 * j) j m refl e))

  pub method_numbers : (at j : ℕ) (m : ClassMember) → at ≡ members_at c + 2 * length c.fields
      → slice_get c.methods j ≡ Some m → HasNumbers (get_or (lay c) (at + 2 * j) 0) m
  method_numbers at j m ea e =
      numbers_of (get_or (lay c) (at + 2 * j) 0) m (fits_there c.methods j m spelled.methods.1 e)
      (sym (get_or-drop at (lay c) (2 * j) 0) ∙ (ap (λ w. get_or w (2 * j) 0) (ap
      (λ n. drop n (lay c)) ea ∙ methods_on)
      ∙ member_word (methods_at c) c.methods (attributes_tail c) (2 * j) j m refl e))

-- ---- what is found among the words of members

-- the test on the words, and the test on the members
abbrev pub word_test : ClassFile → List ℕ → List ℕ → List ℕ → ℕ → ℕ → Bool
word_test c name descriptor words at k =
    leads_to c name descriptor (second_of (get_or words (at + 2 * k) 0))
    (third_of (get_or words (at + 2 * k) 0))

module _ (c : ClassFile) (words : List ℕ) (at count : ℕ) (all : List ClassMember)
    (name descriptor : List ℕ) (these : AreMembersAt words at count all) where
  same_test : (j : ℕ) (m : ClassMember) → slice_get all j ≡ Some m
      → word_test c name descriptor words at j ≡ has_both c name descriptor m
  same_test j m e = let n =
      these.numbers j m e in λ i. leads_to c name descriptor (n.name i) (n.descriptor i)

  pub none_found : ((k : ℕ) → k < count → word_test c name descriptor words at k ≡ false)
      → (k : ℕ) (other : ClassMember) → slice_get all k ≡ Some other
      → has_both c name descriptor other ≡ false
  none_found none k other e =
      sym (same_test k other e) ∙ none k (omega (arith, index_there all k other e, these.size))

  pub least_found : (is_method : Bool) (index : ℕ)
      → IsFirstIndex (word_test c name descriptor words at) count index
      → IsLeastMember c all is_method name descriptor
      (record {
        is_method = is_method;
        index = index;
        flags = first_of (get_or words (at + 2 * index) 0);
        attributes =
            fourth_of (get_or words (at + 2 * index) 0);
      })
  least_found is_method index first =
      let within = first.there in
      let own = item_there all index (omega (arith, within, these.size)) in
      let n = these.numbers index own.0 own.1 in
      record {
        kind = refl;
        own = own.0;
        there = own.1;
        has = sym (same_test index own.0 own.1) ∙ first.passes;
        first = λ k other lt e. sym (same_test k other e) ∙ first.first k lt;
        flags = n.flags;
        attributes = n.count;
      }

module _ (c : ClassFile) (words : List ℕ) (is : IsRecordOf c words) where
  pub fields_place : get_or words 5 0 ≡ members_at c
  fields_place = ap (λ w. get_or w 5 0) is.laid ∙ word_5 c

  pub fields_count : second_of (get_or words 2 0) ≡ length c.fields
  fields_count = ap (λ w. second_of (get_or w 2 0)) is.laid ∙ fields_there c is.spelled

  pub methods_count : third_of (get_or words 2 0) ≡ length c.methods
  methods_count = ap (λ w. third_of (get_or w 2 0)) is.laid ∙ methods_there c is.spelled

  pub fields_are : (count : ℕ) → count ≡ second_of (get_or words 2 0)
      → AreMembersAt words (get_or words 5 0) count c.fields
  fields_are count e = record {
    size = e ∙ fields_count;
    numbers = λ j m em.
        subst (λ (w : List ℕ). HasNumbers (get_or w (get_or words 5 0 + 2 * j) 0) m) (sym is.laid)
        (field_numbers c is.spelled (get_or words 5 0) j m fields_place em);
  }

  pub methods_are : (fields count : ℕ) → fields ≡ second_of (get_or words 2 0)
      → count ≡ third_of (get_or words 2 0)
      → AreMembersAt words (get_or words 5 0 + 2 * fields) count c.methods
  methods_are fields count ef e = record {
    size = e ∙ methods_count;
    numbers = λ j m em.
        let at = get_or words 5 0 + 2 * fields in
        subst (λ (w : List ℕ). HasNumbers (get_or w (at + 2 * j) 0) m) (sym is.laid)
        (method_numbers c is.spelled at j m (omega (arith, ef, fields_place, fields_count)) em);
  }

  pub members_fit : get_or words 5 0 + 2 * second_of (get_or words 2 0)
      + 2 * third_of (get_or words 2 0) ≤ length words
  members_fit =
      omega (
        arith,
        fields_place,
        fields_count,
        methods_count,
        ap length is.laid,
        lay_len c is.spelled,
        all_members_len c,
      )
