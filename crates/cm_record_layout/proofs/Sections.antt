-- Where the sections of a class are in its record.
-- On `lay`, `first_of`, `attribute_runs_at`, for crates above.
use Rattle.std.proofs.Common.{◌≡◌, ◌≤◌, ◌+◌, ◌*◌, ℕ, List, ◌∷◌, ◌++◌, length, get_or, drop}
use Rattle.std.proofs.Common.{refl, sym, ◌∙◌, ap, subst, arith, append_assoc, length-append}
use Rattle.std.proofs.lemmas.List.{append-nil, drop_at}
use Rattle.cm_class.specs.declared.class_file.ClassFile.{ClassFile}
use Rattle.cm_class.specs.Spelling.{HasSpelling}
use Rattle.cm_record_layout.specs.Packing.{four_numbers, first_of, second_of, third_of, fourth_of}
use Rattle.cm_record_layout.specs.Layout.{head, lay, directory, utf8_runs, members}
use Rattle.cm_record_layout.specs.Layout.{attributes, attribute_runs}
use Rattle.cm_record_layout.specs.Layout.{all_members, all_attributes, interfaces_at, members_at}
use Rattle.cm_record_layout.specs.Layout.{attributes_at, runs_at, attribute_runs_at, record_len}
use Rattle.cm_record_layout.specs.Layout.{limit, IsRecordOf, IsRecord}
use Rattle.cm_record_layout.proofs.Digits.{first-four_numbers, second-four_numbers}
use Rattle.cm_record_layout.proofs.Digits.{third-four_numbers, fourth-four_numbers}
use Rattle.cm_record_layout.proofs.Lengths.{attributes_append, attribute_runs_append}
use Rattle.cm_record_layout.proofs.Lengths.{members_append, all_runs, attributes_len, members_len}
use Rattle.cm_record_layout.proofs.Lengths.{directory_len, lay_len}
use Rattle.cm_record_layout.specs.Tails.{of_fields, of_methods, method_runs_at, own_runs_at}
use Rattle.cm_record_layout.specs.Tails.{methods_at, runs_tail, attributes_tail, main_tail}

regroup_tail : (f a b c t : List ℕ) → f ++ (a ++ (b ++ (c ++ t))) ≡ (f ++ (a ++ b ++ c)) ++ t
regroup_tail f a b c t = simp append_assoc

regroup_main : (d i m n t : List ℕ) → d ++ i ++ (m ++ n) ++ t ≡ d ++ (i ++ (m ++ (n ++ t)))
regroup_main d i m n t = simp append_assoc

module _ (c : ClassFile) where
  attributes_split : attributes (attribute_runs_at c) (all_attributes c)
      ≡ attributes (attribute_runs_at c) (of_fields c) ++ attributes (method_runs_at c) (of_methods
      c)
      ++ attributes (own_runs_at c) c.attributes
  attributes_split =
      let place : attribute_runs_at c + length (attribute_runs (of_fields c ++ of_methods c))
      ≡ own_runs_at c =
      omega (
        arith,
        ap length (attribute_runs_append (of_fields c) (of_methods c)),
        length-append (attribute_runs (of_fields c)) (attribute_runs (of_methods c)),
      ) in
      attributes_append (attribute_runs_at c) (of_fields c ++ of_methods c) c.attributes
      ∙ rw (place, attributes_append (attribute_runs_at c) (of_fields c) (of_methods c)) refl

  pub tail_joined : attributes (attribute_runs_at c) (all_attributes c) ++ utf8_runs c.slots
      ++ attribute_runs (all_attributes c) ≡ attributes_tail c
  tail_joined = rw (attributes_split, all_runs c) (simp (append_assoc, append-nil))

  abbrev front : List ℕ
  front = head c ++ (0 ∷ directory (runs_at c) c.slots) ++ c.interfaces
      ++ members (attributes_at c) (all_members c)

  lay_split : lay c ≡ front ++ attributes_tail c
  unfolding lay
  lay_split =
      let A = attributes (attribute_runs_at c) (all_attributes c) in
      let T = utf8_runs c.slots in
      let R = attribute_runs (all_attributes c) in
      append_assoc (front ++ A) T R ∙ (append_assoc front A (T ++ R) ∙ ap
      (λ w. front ++ w) (sym (append_assoc A T R) ∙ tail_joined))

  module _ (spelled : HasSpelling c) where
    front_len : length front ≡ attributes_at c
    front_len =
        let d = 0 ∷ directory (runs_at c) c.slots in
        let m = members (attributes_at c) (all_members c) in
        omega (
          arith,
          length-append (head c ++ d ++ c.interfaces) m,
          length-append (head c ++ d) c.interfaces,
          length-append (head c) d,
          directory_len (runs_at c) c.slots spelled.slots,
          members_len (attributes_at c) (all_members c),
        )

    pub attributes_there : drop (attributes_at c) (lay c) ≡ attributes_tail c
    attributes_there = ap (drop (attributes_at c)) lay_split
        ∙ drop_at front (attributes_tail c) (attributes_at c) front_len

    pub attributes_tail_len : length (attributes_tail c) + attributes_at c ≡ length (lay c)
    attributes_tail_len =
        omega (arith, ap length lay_split, length-append front (attributes_tail c), front_len)

    -- the attributes' words without the runs
    abbrev middle : List ℕ
    middle = attributes (attribute_runs_at c) (of_fields c) ++ attributes (method_runs_at c)
        (of_methods c)
        ++ attributes (own_runs_at c) c.attributes

    middle_len : length middle ≡ 2 * length (all_attributes c)
    middle_len =
        sym (ap length attributes_split) ∙ attributes_len (attribute_runs_at c) (all_attributes c)

    runs_split : lay c ≡ (front ++ middle) ++ runs_tail c
    runs_split =
        lay_split ∙ regroup_tail front (attributes (attribute_runs_at c) (of_fields c))
        (attributes (method_runs_at c) (of_methods c)) (attributes (own_runs_at c) c.attributes)
        (runs_tail c)

    pub runs_there : drop (runs_at c) (lay c) ≡ runs_tail c
    runs_there = ap (drop (runs_at c)) runs_split
        ∙ drop_at (front ++ middle) (runs_tail c) (runs_at c)
        (omega (arith, length-append front middle, front_len, middle_len))

    pub runs_tail_len : length (runs_tail c) + runs_at c ≡ length (lay c)
    runs_tail_len =
        omega (
          arith,
          ap length runs_split,
          length-append (front ++ middle) (runs_tail c),
          length-append front middle,
          front_len,
          middle_len,
        )

    pub main_there : drop 9 (lay c) ≡ main_tail c
    main_there =
        let d = directory (runs_at c) c.slots in
        ap (drop 9) lay_split ∙ (ap
        (λ w. d ++ c.interfaces ++ w ++ attributes_tail c)
        (members_append (attributes_at c) c.fields c.methods)
        ∙ regroup_main d c.interfaces (members (attributes_at c) c.fields)
        (members (methods_at c) c.methods) (attributes_tail c))

-- the first words of a record
module _ (c : ClassFile) where
  pub word_0 : get_or (lay c) 0 0 ≡ record_len c
  unfolding lay
  word_0 = refl

  pub word_1 : get_or (lay c) 1 0
      ≡ four_numbers c.flags c.this_class c.super_class (length c.interfaces)
  unfolding lay
  word_1 = refl

  pub word_2 : get_or (lay c) 2 0
      ≡ four_numbers (length c.slots + 1) (length c.fields) (length c.methods) (length c.attributes)
  unfolding lay
  word_2 = refl

  pub word_3 : get_or (lay c) 3 0 ≡ 8
  unfolding lay
  word_3 = refl

  pub word_4 : get_or (lay c) 4 0 ≡ interfaces_at c
  unfolding lay
  word_4 = refl

  pub word_5 : get_or (lay c) 5 0 ≡ members_at c
  unfolding lay
  word_5 = refl

  pub word_6 : get_or (lay c) 6 0 ≡ attributes_at c
  unfolding lay
  word_6 = refl

  pub word_7 : get_or (lay c) 7 0 ≡ runs_at c
  unfolding lay
  word_7 = refl

  pub word_8 : get_or (lay c) 8 0 ≡ 0
  unfolding lay
  word_8 = refl

  module _ (spelled : HasSpelling c) where
    pub flags_there : first_of (get_or (lay c) 1 0) ≡ c.flags
    flags_there =
        ap first_of word_1 ∙ first-four_numbers c.flags c.this_class c.super_class
        (length c.interfaces) spelled.flags spelled.this_class spelled.super_class
        spelled.interfaces.0

    pub this_there : second_of (get_or (lay c) 1 0) ≡ c.this_class
    this_there =
        ap second_of word_1 ∙ second-four_numbers c.flags c.this_class c.super_class
        (length c.interfaces) spelled.flags spelled.this_class spelled.super_class
        spelled.interfaces.0

    pub super_there : third_of (get_or (lay c) 1 0) ≡ c.super_class
    super_there =
        ap third_of word_1 ∙ third-four_numbers c.flags c.this_class c.super_class
        (length c.interfaces) spelled.flags spelled.this_class spelled.super_class
        spelled.interfaces.0

    pub interfaces_there : fourth_of (get_or (lay c) 1 0) ≡ length c.interfaces
    interfaces_there =
        ap fourth_of word_1 ∙ fourth-four_numbers c.flags c.this_class c.super_class
        (length c.interfaces) spelled.flags spelled.this_class spelled.super_class
        spelled.interfaces.0

    pub count_there : first_of (get_or (lay c) 2 0) ≡ length c.slots + 1
    count_there =
        ap first_of word_2 ∙ first-four_numbers (length c.slots + 1) (length c.fields)
        (length c.methods) (length c.attributes) spelled.count spelled.fields.0 spelled.methods.0
        spelled.attributes.0

    pub fields_there : second_of (get_or (lay c) 2 0) ≡ length c.fields
    fields_there =
        ap second_of word_2 ∙ second-four_numbers (length c.slots + 1) (length c.fields)
        (length c.methods) (length c.attributes) spelled.count spelled.fields.0 spelled.methods.0
        spelled.attributes.0

    pub methods_there : third_of (get_or (lay c) 2 0) ≡ length c.methods
    methods_there =
        ap third_of word_2 ∙ third-four_numbers (length c.slots + 1) (length c.fields)
        (length c.methods) (length c.attributes) spelled.count spelled.fields.0 spelled.methods.0
        spelled.attributes.0

    pub own_there : fourth_of (get_or (lay c) 2 0) ≡ length c.attributes
    own_there =
        ap fourth_of word_2 ∙ fourth-four_numbers (length c.slots + 1) (length c.fields)
        (length c.methods) (length c.attributes) spelled.count spelled.fields.0 spelled.methods.0
        spelled.attributes.0

-- ---- what a record says about its class

pub record_long : (words : List ℕ) → IsRecord words → 9 ≤ length words
record_long words (d, is) = omega (arith, ap length is.laid, lay_len d is.spelled)

pub flags_read : (c : ClassFile) (words : List ℕ) → IsRecordOf c words
    → first_of (get_or words 1 0) ≡ c.flags
flags_read c words is = ap (λ w. first_of (get_or w 1 0)) is.laid ∙ flags_there c is.spelled

-- the directory is within the record
pub directory_within : (words : List ℕ) → IsRecord words
    → 8 + first_of (get_or words 2 0) ≤ length words
directory_within words (d, is) = subst
    (λ (w : List ℕ). 8 + first_of (get_or w 2 0) ≤ length w) (sym is.laid)
    (omega (arith, count_there d is.spelled, lay_len d is.spelled))

-- the layout of a record's class isn't too long
pub lay_short : (c : ClassFile) (words : List ℕ) → IsRecordOf c words → length (lay c) ≤ limit
lay_short c words is = omega (arith, ap length is.laid, is.short)
