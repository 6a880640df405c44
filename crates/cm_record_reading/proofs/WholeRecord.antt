-- A whole record is read back.
-- For `layout_determines_class` and others.
use Rattle.std.proofs.Common.{◌≡◌, ◌≤◌, ◌+◌, ◌-◌, ◌*◌, ℕ, true, false, List, [], ◌++◌, length}
use Rattle.std.proofs.Common.{get_or, drop, Some, None, refl, sym, ◌∙◌, ap, subst, arith}
use Rattle.std.proofs.Common.{length-append}
use Rattle.std.proofs.lemmas.Bool.{eq-eqb, le-leb, and_from}
use Rattle.cm_class.specs.declared.class_file.ClassFile.{ClassFile}
use Rattle.cm_class.specs.Spelling.{HasSpelling}
use Rattle.cm_record_layout.specs.Packing.{first_of, second_of, third_of, fourth_of}
use Rattle.cm_record_layout.specs.Layout.{lay, utf8_runs, members, attributes, attribute_runs}
use Rattle.cm_record_layout.specs.Layout.{attributes_at, runs_at, attribute_runs_at, IsRecordOf}
use Rattle.cm_record_layout.specs.Layout.{IsRecord}
use Rattle.cm_record_layout.proofs.{all_members_len, attributes_len, lay_len}
use Rattle.cm_record_layout.proofs.{attributes_there}
use Rattle.cm_record_layout.proofs.{attributes_tail_len, runs_there, runs_tail_len, main_there}
use Rattle.cm_record_layout.proofs.{word_0, word_3, word_4, word_5, word_6, word_7, word_8}
use Rattle.cm_record_layout.proofs.{flags_there, this_there, super_there, interfaces_there}
use Rattle.cm_record_layout.proofs.{count_there, fields_there, methods_there, own_there}
use Rattle.cm_record_layout.specs.Tails.{of_fields, of_methods, method_runs_at, own_runs_at}
use Rattle.cm_record_layout.specs.Tails.{methods_at, runs_tail, attributes_tail, main_tail}
use Rattle.cm_record_reading.specs.Reading.{slots_at, interfaces_from, attributes_from}
use Rattle.cm_record_reading.specs.Reading.{members_from, head_is_right, sections_end, pool_from}
use Rattle.cm_record_reading.specs.Reading.{body_from, class_at}
use Rattle.cm_record_reading.proofs.Again.{slots_again, interfaces_again, members_again}
use Rattle.cm_record_reading.proofs.Again.{attributes_again}

-- the tests of a head, one by one
pub head_right : (words : List ℕ) → 9 ≤ length words → get_or words 0 0 ≡ length words
    → get_or words 3 0 ≡ 8 → get_or words 8 0 ≡ 0
    → 1 ≤ first_of (get_or words 2 0)
    → get_or words 4 0 ≡ 8 + first_of (get_or words 2 0)
    → get_or words 5 0 ≡ get_or words 4 0 + fourth_of (get_or words 1 0)
    → get_or words 6 0 ≡ get_or words 5 0
    + 2 * (second_of (get_or words 2 0) + third_of (get_or words 2 0))
    → get_or words 6 0 ≤ length words → get_or words 7 0 ≤ length words → head_is_right words ≡ true
head_right words h0 h1 h2 h3 h4 h5 h6 h7 h8 h9 =
    and_from _ _ (and_from _ _ (and_from _ _
    (and_from _ _ (le-leb 9 (length words) h0) (eq-eqb (get_or words 0 0) (length words) h1))
    (and_from _ _ (and_from _ _ (eq-eqb (get_or words 3 0) 8 h2) (eq-eqb (get_or words 8 0) 0 h3))
    (le-leb 1 (first_of (get_or words 2 0)) h4)))
    (and_from _ _ (and_from _ _ (eq-eqb (get_or words 4 0) (8 + first_of (get_or words 2 0)) h5)
    (eq-eqb (get_or words 5 0) (get_or words 4 0 + fourth_of (get_or words 1 0)) h6))
    (eq-eqb (get_or words 6 0)
    (get_or words 5 0 + 2 * (second_of (get_or words 2 0) + third_of (get_or words 2 0))) h7)))
    (and_from _ _ (le-leb (get_or words 6 0) (length words) h8)
    (le-leb (get_or words 7 0) (length words) h9))

pub ends_right : (words main attrs runs : List ℕ) → length main + get_or words 6 0 ≡ length words
    → length attrs + get_or words 7 0 ≡ length words → length runs ≡ 0
    → sections_end words main attrs runs ≡ true
ends_right words main attrs runs h0 h1 h2 =
    and_from _ _ (and_from _ _ (eq-eqb (length main + get_or words 6 0) (length words) h0)
    (eq-eqb (length attrs + get_or words 7 0) (length words) h1)) (eq-eqb (length runs) 0 h2)

-- reading step by step
class_read : (words : List ℕ) (c : ClassFile) (m1 m2 m3 m4 a1 a2 a3 r1 r2 r3 r4 : List ℕ)
    → head_is_right words ≡ true
    → first_of (get_or words 1 0) ≡ c.flags → second_of (get_or words 1 0) ≡ c.this_class
    → third_of (get_or words 1 0) ≡ c.super_class
    → fourth_of (get_or words 1 0) ≡ length c.interfaces
    → first_of (get_or words 2 0) - 1 ≡ length c.slots
    → second_of (get_or words 2 0) ≡ length c.fields
    → third_of (get_or words 2 0) ≡ length c.methods
    → fourth_of (get_or words 2 0) ≡ length c.attributes
    → slots_at (length words) false (length c.slots) (drop 9 words) (drop (get_or words 7 0) words)
    ≡ Some (c.slots, m1, r1)
    → interfaces_from (length c.interfaces) m1 ≡ Some (c.interfaces, m2)
    → members_from (length words) (length c.fields) m2 (drop (get_or words 6 0) words) r1
    ≡ Some (c.fields, m3, a1, r2)
    → members_from (length words) (length c.methods) m3 a1 r2 ≡ Some (c.methods, m4, a2, r3)
    → attributes_from (length words) (length c.attributes) a2 r3 ≡ Some (c.attributes, a3, r4)
    → sections_end words m4 a3 r4 ≡ true → class_at words ≡ Some c
unfolding class_at pool_from body_from
class_read words c m1 m2 m3 m4 a1 a2 a3 r1 r2 r3 r4 right flags this super ic count fc mc ac s1 s2
    s3 s4 s5 ends =
    rw (right, count, s1, ic, s2, fc, s3, mc, s4, ac, s5, ends, flags, this, super) refl

module _ (c : ClassFile) (spelled : HasSpelling c) where
  head_there : head_is_right (lay c) ≡ true
  head_there =
      let total = lay_len c spelled in
      head_right (lay c) (omega (arith, total)) ((word_0 c) ∙ sym total) (word_3 c) (word_8 c)
      (omega (arith, (count_there c spelled)))
      ((word_4 c) ∙ omega (arith, (count_there c spelled)))
      ((word_5 c) ∙ omega (arith, (word_4 c), (interfaces_there c spelled)))
      ((word_6 c) ∙ omega (
        arith,
        (word_5 c),
        (fields_there c spelled),
        (methods_there c spelled),
        all_members_len c,
      ))
      (omega (arith, (word_6 c), total)) (omega (arith, (word_7 c), total))

  -- a class's record is read back as that class
  pub class_again : class_at (lay c) ≡ Some c
  class_again =
      let total = length (lay c) in
      let i_tail =
      members (attributes_at c) c.fields
      ++ (members (methods_at c) c.methods ++ attributes_tail c) in
      let m_tail = members (methods_at c) c.methods ++ attributes_tail c in
      let a1 = attributes (method_runs_at c) (of_methods c)
      ++ (attributes (own_runs_at c) c.attributes ++ runs_tail c) in
      let a2 = attributes (own_runs_at c) c.attributes ++ runs_tail c in
      let r3 = attribute_runs c.attributes ++ [] in
      let r2 = attribute_runs (of_methods c) ++ r3 in
      let r1 = attribute_runs (of_fields c) ++ r2 in
      let runs_size = runs_tail_len c spelled in
      let attributes_size = attributes_tail_len c spelled in
      let t_len = length-append (utf8_runs c.slots) r1 in
      let r1_len = length-append (attribute_runs (of_fields c)) r2 in
      let r2_len = length-append (attribute_runs (of_methods c)) r3 in
      let a0_len = length-append (attributes (attribute_runs_at c) (of_fields c)) a1 in
      let main : drop 9 (lay c) ≡ main_tail c = main_there c spelled in
      let attrs : drop (get_or (lay c) 6 0) (lay c) ≡ attributes_tail c = ap
      (λ n. drop n (lay c)) (word_6 c) ∙ attributes_there c spelled in
      let runs : drop (get_or (lay c) 7 0) (lay c) ≡ runs_tail c = ap
      (λ n. drop n (lay c)) (word_7 c) ∙ runs_there c spelled in
      let s1 : slots_at total false (length c.slots) (drop 9 (lay c))
      (drop (get_or (lay c) 7 0) (lay c)) ≡ Some (c.slots, c.interfaces ++ i_tail, r1) =
      rw (main, runs) (slots_again total (runs_at c) false c.slots (c.interfaces ++ i_tail) r1
      spelled.slots (omega (arith, runs_size))) in
      let s2 = interfaces_again c.interfaces i_tail spelled.interfaces.1 in
      let s3 : members_from total (length c.fields) i_tail (drop (get_or (lay c) 6 0) (lay c)) r1
      ≡ Some (c.fields, m_tail, a1, r2) =
      rw attrs (members_again total (attributes_at c) (attribute_runs_at c) c.fields m_tail a1 r2
      spelled.fields.1 (omega (arith, attributes_size)) (omega (arith, runs_size, t_len))) in
      let s4 : members_from total (length c.methods) m_tail a1 r2
      ≡ Some (c.methods, attributes_tail c, a2, r3) =
      members_again total (methods_at c) (method_runs_at c) c.methods (attributes_tail c) a2 r3
      spelled.methods.1
      (omega (arith, attributes_size, a0_len, attributes_len (attribute_runs_at c) (of_fields c)))
      (omega (arith, runs_size, t_len, r1_len)) in
      let s5 : attributes_from total (length c.attributes) a2 r3
      ≡ Some (c.attributes, runs_tail c, []) =
      attributes_again total (own_runs_at c) c.attributes (runs_tail c) [] spelled.attributes.1
      (omega (arith, runs_size, t_len, r1_len, r2_len)) in
      let ends : sections_end (lay c) (attributes_tail c) (runs_tail c) [] ≡ true =
      ends_right (lay c) (attributes_tail c) (runs_tail c) []
      (omega (arith, attributes_size, (word_6 c))) (omega (arith, runs_size, (word_7 c))) refl in
      class_read (lay c) c (c.interfaces ++ i_tail) i_tail m_tail (attributes_tail c) a1 a2
      (runs_tail c) r1 r2 r3 [] head_there (flags_there c spelled) (this_there c spelled)
      (super_there c spelled) (interfaces_there c spelled)
      (omega (arith, (count_there c spelled))) (fields_there c spelled) (methods_there c spelled)
      (own_there c spelled) s1 s2 s3 s4 s5 ends

-- ---- the class of a record

class_of_record : (c : ClassFile) (words : List ℕ) → IsRecordOf c words → class_at words ≡ Some c
class_of_record c words is = ap class_at is.laid ∙ class_again c is.spelled

-- a record is read as some class
pub same_class : (c d : ClassFile) (words : List ℕ) → IsRecordOf c words → IsRecordOf d words
    → c ≡ d
same_class c d words of_c of_d = let both : Some c ≡ Some d =
    sym (class_of_record c words of_c) ∙ class_of_record d words of_d in cc

-- that class is the one that is read
pub read_class_is : (c : ClassFile) (words : List ℕ) → IsRecord words → class_at words ≡ Some c
    → IsRecordOf c words
read_class_is c words (d, is) read =
    let both : Some d ≡ Some c = sym (class_of_record d words is) ∙ read in
    let same : d ≡ c = cc in
    subst (λ x. IsRecordOf x words) same is

pub always_read : (words : List ℕ) → IsRecord words → class_at words ≡ None → ⊥
always_read words (d, is) none = let both : Some d ≡ None =
    sym (class_of_record d words is) ∙ none in cc
