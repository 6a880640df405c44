-- A whole record from which a class is read is the layout of that class.
-- For `is_record`, `spell_class` and others.
use Rattle.std.proofs.Common.{◌≡◌, ◌<◌, ◌≤◌, ◌+◌, ◌-◌, ◌*◌, ◌^◌, ℕ, true, false, List, [], ◌∷◌}
use Rattle.std.proofs.Common.{◌++◌, length, get_or, drop, Option, Some, None, refl}
use Rattle.std.proofs.Common.{sym, ◌∙◌, ap, subst, arith, append_assoc, length-append}
use Rattle.std.specs.Prelude.{◌==◌, nat_le, is_some, ◌&&◌}
use Rattle.std.proofs.lemmas.List.{drop_at, drop-drop, length-drop}
use Rattle.std.proofs.lemmas.Bool.{eqb-true, leb-true, and_parts}
use Rattle.cm_class.specs.declared.constant.Slot.{Slot}
use Rattle.cm_class.specs.declared.class_file.Attribute.{Attribute}
use Rattle.cm_class.specs.declared.class_file.Member.{Member}
use Rattle.cm_class.specs.declared.class_file.ClassFile.{ClassFile}
use Rattle.cm_class.specs.Spelling.{HasSpelling}
use Rattle.cm_record_layout.specs.Packing.{four_numbers, first_of, second_of, third_of, fourth_of}
use Rattle.cm_record_layout.specs.Layout.{lay, limit, directory, utf8_runs, members}
use Rattle.cm_record_layout.specs.Layout.{member_attributes, attributes, attribute_runs}
use Rattle.cm_record_layout.specs.Layout.{attributes_at, runs_at, record_len, IsRecord}
use Rattle.cm_record_reading.specs.Reading.{slots_at, interfaces_from, attributes_from}
use Rattle.cm_record_reading.specs.Reading.{members_from, is_counted, has_directory}
use Rattle.cm_record_reading.specs.Reading.{sections_follow}
use Rattle.cm_record_reading.specs.Reading.{sections_lie_within, head_is_right, sections_end}
use Rattle.cm_record_reading.specs.Reading.{pool_from}
use Rattle.cm_record_reading.specs.Reading.{body_from, pool_of, body_of, class_at}
use Rattle.cm_record_layout.proofs.{four_numbers_parts, attributes_len, all_attributes_len}
use Rattle.cm_record_layout.proofs.{all_members_len, all_runs_len, lay_len, main_there}
use Rattle.cm_record_layout.proofs.{word_0, word_1, word_2, word_3, word_4, word_5, word_6, word_7}
use Rattle.cm_record_layout.proofs.{word_8}
use Rattle.cm_record_layout.specs.Tails.{main_tail}
use Rattle.cm_record_reading.proofs.Taken.{bind_some, only_if_some, some_same, SlotsTaken}
use Rattle.cm_record_reading.proofs.Taken.{InterfacesTaken, MembersTaken, AttributesTaken}
use Rattle.cm_record_reading.proofs.Taken.{slots_taken, interfaces_taken, members_taken}
use Rattle.cm_record_reading.proofs.Taken.{attributes_taken}
use Rattle.cm_record_reading.proofs.WholeRecord.{class_again}

-- the first nine words of a list that is long enough
nine : (w : List ℕ) → 9 ≤ length w
    → w ≡ get_or w 0 0 ∷ get_or w 1 0 ∷ get_or w 2 0 ∷ get_or w 3 0 ∷ get_or w 4 0 ∷ get_or w 5 0
    ∷ get_or w 6 0 ∷ get_or w 7 0 ∷ get_or w 8 0 ∷ drop 9 w
nine [] h = absurd (omega arith)
nine (a ∷ []) h = absurd (omega arith)
nine (a ∷ b ∷ []) h = absurd (omega arith)
nine (a ∷ b ∷ c ∷ []) h = absurd (omega arith)
nine (a ∷ b ∷ c ∷ d ∷ []) h = absurd (omega arith)
nine (a ∷ b ∷ c ∷ d ∷ e ∷ []) h = absurd (omega arith)
nine (a ∷ b ∷ c ∷ d ∷ e ∷ f ∷ []) h = absurd (omega arith)
nine (a ∷ b ∷ c ∷ d ∷ e ∷ f ∷ g ∷ []) h = absurd (omega arith)
nine (a ∷ b ∷ c ∷ d ∷ e ∷ f ∷ g ∷ i ∷ []) h = absurd (omega arith)
nine (a ∷ b ∷ c ∷ d ∷ e ∷ f ∷ g ∷ i ∷ j ∷ rest) h = refl

-- what the tests of a head say
pub record IsHead (w : List ℕ) : Type 0 where
  pub long : 9 ≤ length w
  pub total : get_or w 0 0 ≡ length w
  pub directory : get_or w 3 0 ≡ 8
  pub slot_0 : get_or w 8 0 ≡ 0
  pub count : 1 ≤ first_of (get_or w 2 0)
  pub interfaces : get_or w 4 0 ≡ 8 + first_of (get_or w 2 0)
  pub members : get_or w 5 0 ≡ get_or w 4 0 + fourth_of (get_or w 1 0)
  pub attributes : get_or w 6 0
      ≡ get_or w 5 0 + 2 * (second_of (get_or w 2 0) + third_of (get_or w 2 0))
  pub attributes_in : get_or w 6 0 ≤ length w
  pub runs_in : get_or w 7 0 ≤ length w

pub head_facts : (w : List ℕ) → head_is_right w ≡ true → IsHead w
head_facts w e =
    let groups = and_parts _ (sections_lie_within w) e in
    let first = and_parts (is_counted w && has_directory w) (sections_follow w) groups.0 in
    let start = and_parts (is_counted w) (has_directory w) first.0 in
    let t8 = and_parts (nat_le (get_or w 6 0) (length w)) (nat_le (get_or w 7 0) (length w))
    groups.1 in
    let t7 = and_parts _ (get_or w 6 0 == get_or w 5 0
    + 2 * (second_of (get_or w 2 0) + third_of (get_or w 2 0))) first.1 in
    let t6 = and_parts (get_or w 4 0 == 8 + first_of (get_or w 2 0))
    (get_or w 5 0 == get_or w 4 0 + fourth_of (get_or w 1 0)) t7.0 in
    let t4 = and_parts _ (nat_le 1 (first_of (get_or w 2 0))) start.1 in
    let t3 = and_parts (get_or w 3 0 == 8) (get_or w 8 0 == 0) t4.0 in
    let t1 = and_parts (nat_le 9 (length w)) (get_or w 0 0 == length w) start.0 in
    record {
      long = leb-true 9 (length w) t1.0;
      total = eqb-true (get_or w 0 0) (length w) t1.1;
      directory = eqb-true (get_or w 3 0) 8 t3.0;
      slot_0 = eqb-true (get_or w 8 0) 0 t3.1;
      count = leb-true 1 (first_of (get_or w 2 0)) t4.1;
      interfaces = eqb-true (get_or w 4 0) (8 + first_of (get_or w 2 0)) t6.0;
      members = eqb-true (get_or w 5 0) (get_or w 4 0 + fourth_of (get_or w 1 0)) t6.1;
      attributes =
          eqb-true (get_or w 6 0) (get_or w 5 0
          + 2 * (second_of (get_or w 2 0) + third_of (get_or w 2 0))) t7.1;
      attributes_in = leb-true (get_or w 6 0) (length w) t8.0;
      runs_in = leb-true (get_or w 7 0) (length w) t8.1;
    }

pub record IsEnd (w main attrs runs : List ℕ) : Type 0 where
  pub main_end : length main + get_or w 6 0 ≡ length w
  pub attributes_end : length attrs + get_or w 7 0 ≡ length w
  pub runs_end : length runs ≡ 0

end_facts : (w main attrs runs : List ℕ) → sections_end w main attrs runs ≡ true
    → IsEnd w main attrs runs
end_facts w main attrs runs e =
    let t2 = and_parts _ (length runs == 0) e in
    let t1 = and_parts (length main + get_or w 6 0 == length w)
    (length attrs + get_or w 7 0 == length w) t2.0 in
    record {
      main_end = eqb-true (length main + get_or w 6 0) (length w) t1.0;
      attributes_end = eqb-true (length attrs + get_or w 7 0) (length w) t1.1;
      runs_end = eqb-true (length runs) 0 t2.1;
    }

none_left : (xs : List ℕ) → length xs ≡ 0 → xs ≡ []
none_left [] e = refl
none_left (x ∷ xs) e = absurd (omega arith)

-- what is left after a part of what is left
deeper : (k n : ℕ) (w front rest : List ℕ) → drop k w ≡ front ++ rest
    → length rest + n ≡ length w → k ≤ length w → drop n w ≡ rest
deeper k n w front rest e size le =
    let far : n ≡ k + length front =
    omega (arith, size, le, ap length e, length-append front rest, length-drop k w) in
    ap (λ m. drop m w) far ∙ (sym (drop-drop (length front) k w)
    ∙ (ap (drop (length front)) e ∙ drop_at front rest (length front) refl))

same_nine : (a b c d e f g h i a' b' c' d' e' f' g' h' i' : ℕ) (t t' : List ℕ) → a ≡ a' → b ≡ b'
    → c ≡ c' → d ≡ d' → e ≡ e' → f ≡ f' → g ≡ g' → h ≡ h' → i ≡ i' → t ≡ t'
    → a ∷ b ∷ c ∷ d ∷ e ∷ f ∷ g ∷ h ∷ i ∷ t ≡ a' ∷ b' ∷ c' ∷ d' ∷ e' ∷ f' ∷ g' ∷ h' ∷ i' ∷ t'
same_nine a b c d e f g h i a' b' c' d' e' f' g' h' i' t t' ea eb ec ed ee ef eg eh ei et = cc

four_numbers_same : (a b c d a' b' c' d' : ℕ) → a ≡ a' → b ≡ b' → c ≡ c' → d ≡ d'
    → four_numbers a b c d ≡ four_numbers a' b' c' d'
four_numbers_same a b c d a' b' c' d' ea eb ec ed = omega (arith, ea, eb, ec, ed)

regroup_4 : (a b c d t : List ℕ) → a ++ (b ++ (c ++ (d ++ t))) ≡ (a ++ b ++ c ++ d) ++ t
regroup_4 a b c d t = simp append_assoc

regroup_3 : (a b c t : List ℕ) → a ++ (b ++ (c ++ t)) ≡ (a ++ b ++ c) ++ t
regroup_3 a b c t = simp append_assoc

-- a class that was read part by part
module _ (w : List ℕ) (c : ClassFile) (m1 m2 m3 m4 a1 a2 a3 r1 r2 r3 r4 : List ℕ) (head : IsHead w)
    (flags : first_of (get_or w 1 0) ≡ c.flags) (this : second_of (get_or w 1 0) ≡ c.this_class)
    (super : third_of (get_or w 1 0) ≡ c.super_class)
    (slots : SlotsTaken (get_or w 7 0) false (first_of (get_or w 2 0) - 1) (drop 9 w)
    (drop (get_or w 7 0) w) (c.slots, m1, r1))
    (interfaces : InterfacesTaken (fourth_of (get_or w 1 0)) m1 (c.interfaces, m2))
    (fields : MembersTaken (get_or w 6 0) (get_or w 7 0 + length (utf8_runs c.slots))
    (second_of (get_or w 2 0)) m2 (drop (get_or w 6 0) w) r1 (c.fields, m3, a1, r2))
    (methods : MembersTaken (get_or w 6 0 + 2 * length (member_attributes c.fields))
    (get_or w 7 0 + length (utf8_runs c.slots)
    + length (attribute_runs (member_attributes c.fields))) (third_of (get_or w 2 0)) m3 a1 r2
    (c.methods, m4, a2, r3))
    (own : AttributesTaken (get_or w 7 0 + length (utf8_runs c.slots)
    + length (attribute_runs (member_attributes c.fields))
    + length (attribute_runs (member_attributes c.methods))) (fourth_of (get_or w 2 0)) a2 r3
    (c.attributes, a3, r4))
    (ends : IsEnd w m4 a3 r4) (small_1 : get_or w 1 0 < 2 ^ 64)
    (small_2 : get_or w 2 0 < 2 ^ 64) where
  pub spelled : HasSpelling c
  spelled = record {
    count = omega (arith, slots.many, head.count);
    slots = slots.fits;
    flags = omega (arith, flags);
    this_class = omega (arith, this);
    super_class = omega (arith, super);
    interfaces = (omega (arith, interfaces.many), interfaces.fits);
    fields = (omega (arith, fields.many), fields.fits);
    methods = (omega (arith, methods.many), methods.fits);
    attributes = (omega (arith, own.many), own.fits);
  }

  -- where the runs of the attributes of fields begin, and the runs that follow
  abbrev field_runs_at : ℕ
  field_runs_at = get_or w 7 0 + length (utf8_runs c.slots)

  abbrev next_runs_at : ℕ
  next_runs_at = field_runs_at + length (attribute_runs (member_attributes c.fields))

  abbrev last_runs_at : ℕ
  last_runs_at = next_runs_at + length (attribute_runs (member_attributes c.methods))

  abbrev next_at : ℕ
  next_at = get_or w 6 0 + 2 * length (member_attributes c.fields)

  abbrev D : List ℕ
  D = directory (get_or w 7 0) c.slots

  abbrev MF : List ℕ
  MF = members (get_or w 6 0) c.fields

  abbrev MM : List ℕ
  MM = members next_at c.methods

  abbrev AF : List ℕ
  AF = attributes field_runs_at (member_attributes c.fields)

  abbrev AM : List ℕ
  AM = attributes next_runs_at (member_attributes c.methods)

  abbrev AO : List ℕ
  AO = attributes last_runs_at c.attributes

  main_parts : drop 9 w ≡ D ++ (c.interfaces ++ (MF ++ (MM ++ m4)))
  main_parts = slots.main_split ∙ ap (λ x. D ++ x) (interfaces.split ∙ ap
      (λ x. c.interfaces ++ x) (fields.main_split ∙ ap (λ x. MF ++ x) methods.main_split))

  attribute_parts : drop (get_or w 6 0) w ≡ AF ++ (AM ++ (AO ++ a3))
  attribute_parts = fields.split ∙ ap (λ x. AF ++ x) (methods.split ∙ ap (λ x. AM ++ x) own.split)

  run_parts : drop (get_or w 7 0) w ≡ utf8_runs c.slots
      ++ (attribute_runs (member_attributes c.fields)
      ++ (attribute_runs (member_attributes c.methods) ++ (attribute_runs c.attributes ++ [])))
  run_parts = slots.run_split ∙ ap (λ x. utf8_runs c.slots ++ x) (fields.run_split ∙ ap
      (λ x. attribute_runs (member_attributes c.fields) ++ x)
      (methods.run_split ∙ ap
      (λ x. attribute_runs (member_attributes c.methods) ++ x) (own.run_split ∙ ap
      (λ x. attribute_runs c.attributes ++ x) (none_left r4 ends.runs_end))))

  -- the members end where the attributes begin, and these where the runs begin
  members_end : m4 ≡ drop (get_or w 6 0) w
  members_end =
      sym (deeper 9 (get_or w 6 0) w (D ++ c.interfaces ++ MF ++ MM) m4
      (main_parts ∙ regroup_4 D c.interfaces MF MM m4) ends.main_end head.long)

  attributes_end : a3 ≡ drop (get_or w 7 0) w
  attributes_end =
      sym (deeper (get_or w 6 0) (get_or w 7 0) w (AF ++ AM ++ AO) a3
      (attribute_parts ∙ regroup_3 AF AM AO a3) ends.attributes_end head.attributes_in)

  attributes_place : get_or w 6 0 ≡ attributes_at c
  attributes_place =
      omega (
        arith,
        head.attributes,
        head.members,
        head.interfaces,
        head.count,
        slots.many,
        interfaces.many,
        fields.many,
        methods.many,
        all_members_len c,
      )

  runs_place : get_or w 7 0 ≡ runs_at c
  runs_place =
      let whole = ap length (attribute_parts ∙ regroup_3 AF AM AO a3) in
      omega (
        arith,
        attributes_place,
        whole,
        length-drop (get_or w 6 0) w,
        length-append (AF ++ AM ++ AO) a3,
        length-append (AF ++ AM) AO,
        length-append AF AM,
        attributes_len field_runs_at (member_attributes c.fields),
        attributes_len next_runs_at (member_attributes c.methods),
        attributes_len last_runs_at c.attributes,
        ends.attributes_end,
        head.attributes_in,
        all_attributes_len c,
      )

  size : length w ≡ record_len c
  size =
      let tf = attribute_runs (member_attributes c.fields) in
      let tm = attribute_runs (member_attributes c.methods) in
      let to = attribute_runs c.attributes ++ [] in
      omega (
        arith,
        runs_place,
        head.runs_in,
        ap length run_parts,
        length-drop (get_or w 7 0) w,
        length-append (utf8_runs c.slots) (tf ++ (tm ++ to)),
        length-append tf (tm ++ to),
        length-append tm to,
        length-append (attribute_runs c.attributes) [],
        all_runs_len c,
      )

  tail : drop 9 w ≡ main_tail c
  tail =
      main_parts ∙ (ap
      (λ x. D ++ (c.interfaces ++ (MF ++ (MM ++ x)))) (members_end ∙ (attribute_parts ∙ ap
      (λ x. AF ++ (AM ++ (AO ++ x))) (attributes_end ∙ run_parts)))
      ∙ rw (attributes_place, runs_place) refl)

  pub laid : w ≡ lay c
  laid =
      let long : 9 ≤ length (lay c) =
      omega (arith, ap length (main_there c spelled), length-drop 9 (lay c), lay_len c spelled) in
      let numbers : get_or w 1 0
      ≡ four_numbers c.flags c.this_class c.super_class (length c.interfaces) =
      sym (four_numbers_parts (get_or w 1 0) small_1)
      ∙ four_numbers_same _ _ _ _ _ _ _ _ flags this super (sym interfaces.many) in
      let counts : get_or w 2 0
      ≡ four_numbers (length c.slots + 1) (length c.fields) (length c.methods)
      (length c.attributes) =
      sym (four_numbers_parts (get_or w 2 0) small_2)
      ∙ four_numbers_same _ _ _ _ _ _ _ _ (omega (arith, slots.many, head.count))
      (sym fields.many) (sym methods.many) (sym own.many) in
      nine w head.long
      ∙ (same_nine _ _ _ _ _ _ _ _ _ _ _ _ _ _ _ _ _ _ _ _
      (head.total ∙ (size ∙ sym (word_0 c)))
      (numbers ∙ sym (word_1 c))
      (counts ∙ sym (word_2 c))
      (head.directory ∙ sym (word_3 c))
      (omega (arith, head.interfaces, head.count, slots.many, word_4 c))
      (omega (
        arith,
        head.members,
        head.interfaces,
        head.count,
        slots.many,
        interfaces.many,
        word_5 c,
      ))
      (attributes_place ∙ sym (word_6 c))
      (runs_place ∙ sym (word_7 c))
      (head.slot_0 ∙ sym (word_8 c))
      (tail ∙ sym (main_there c spelled))
      ∙ sym (nine (lay c) long))

-- what was read of the pool and the interfaces, part by part
pool_parts : (total count n : ℕ) (main runs : List ℕ) (p : List Slot × List ℕ × List ℕ × List ℕ)
    → pool_from total count n main runs ≡ Some p
    → (m : List ℕ) × (slots_at total false count main runs ≡ Some (p.0, m, p.3))
    × (interfaces_from n m ≡ Some (p.1, p.2))
unfolding pool_from
pool_parts total count n main runs p e =
    let s = bind_some (slots_at total false count main runs) _ p e in
    let i = bind_some (interfaces_from n s.0.1) _ p s.2 in
    let same : (s.0.0, i.0.0, i.0.1, s.0.2) ≡ p = some_same _ p i.2 in
    subst (λ (x : List Slot × List ℕ × List ℕ × List ℕ). (m : List ℕ)
    × (slots_at total false count main runs ≡ Some (x.0, m, x.3))
    × (interfaces_from n m ≡ Some (x.1, x.2))) same (s.0.1, s.1, i.1)

-- what was read of the body after them
record BodyParts (total fields methods own : ℕ) (main attrs runs : List ℕ)
    (p : List Member × List Member × List Attribute × List ℕ × List ℕ × List ℕ) : Type 0 where
  between : List ℕ × List ℕ × List ℕ
  behind : List ℕ × List ℕ
  of_fields : members_from total fields main attrs runs
      ≡ Some (p.0, between.0, between.1, between.2)
  of_methods : members_from total methods between.0 between.1 between.2
      ≡ Some (p.1, p.3, behind.0, behind.1)
  of_class : attributes_from total own behind.0 behind.1 ≡ Some (p.2, p.4, p.5)

body_parts : (total fields methods own : ℕ) (main attrs runs : List ℕ) (p : List Member
    × List Member × List Attribute × List ℕ × List ℕ × List ℕ)
    → body_from total fields methods own main attrs runs ≡ Some p
    → BodyParts total fields methods own main attrs runs p
unfolding body_from
body_parts total fields methods own main attrs runs p e =
    let f = bind_some (members_from total fields main attrs runs) _ p e in
    let m = bind_some (members_from total methods f.0.1 f.0.2 f.0.3) _ p f.2 in
    let a = bind_some (attributes_from total own m.0.2 m.0.3) _ p m.2 in
    let same : (f.0.0, m.0.0, a.0.0, m.0.1, a.0.1, a.0.2) ≡ p = some_same _ p a.2 in
    subst (BodyParts total fields methods own main attrs runs) same
    (record {
      between = (f.0.1, f.0.2, f.0.3);
      behind = (m.0.2, m.0.3);
      of_fields = f.1;
      of_methods = m.1;
      of_class = a.1;
    })

-- if a class is read, the words are its layout
pub class_taken : (w : List ℕ) (c : ClassFile) → get_or w 1 0 < 2 ^ 64 → get_or w 2 0 < 2 ^ 64
    → class_at w ≡ Some c → HasSpelling c × (w ≡ lay c)
unfolding class_at
class_taken w c small_1 small_2 e =
    let total = length w in
    let w6 = get_or w 6 0 in
    let w7 = get_or w 7 0 in
    let tested = only_if_some (head_is_right w) _ c e in
    let head = head_facts w tested.0 in
    let pool = bind_some (pool_of w) _ c tested.1 in
    let body = bind_some (body_of w pool.0.2 pool.0.3) _ c pool.2 in
    let s = pool_parts total (first_of (get_or w 2 0) - 1) (fourth_of (get_or w 1 0)) (drop 9 w)
    (drop w7 w) pool.0 pool.1 in
    let b = body_parts total (second_of (get_or w 2 0)) (third_of (get_or w 2 0))
    (fourth_of (get_or w 2 0)) pool.0.2 (drop w6 w) pool.0.3 body.0 body.1 in
    let made : ClassFile = record {
      slots = pool.0.0;
      flags = first_of (get_or w 1 0);
      this_class = second_of (get_or w 1 0);
      super_class = third_of (get_or w 1 0);
      interfaces = pool.0.1;
      fields = body.0.0;
      methods = body.0.1;
      attributes = body.0.2;
    } in
    let s6 = only_if_some (sections_end w body.0.3 body.0.4 body.0.5) (Some made) c body.2 in
    let same : made ≡ c = some_same made c s6.1 in
    let ends = end_facts w body.0.3 body.0.4 body.0.5 s6.0 in
    let text = utf8_runs pool.0.0 in
    let of_fields = attribute_runs (member_attributes body.0.0) in
    let of_methods = attribute_runs (member_attributes body.0.1) in
    let p1 : w7 + length (drop w7 w) ≡ total = omega (arith, length-drop w7 w, head.runs_in) in
    let slots =
    slots_taken total w7 false (first_of (get_or w 2 0) - 1) (drop 9 w) (drop w7 w)
    (pool.0.0, s.0, pool.0.3) p1 s.1 in
    let interfaces = interfaces_taken (fourth_of (get_or w 1 0)) s.0 (pool.0.1, pool.0.2) s.2 in
    let p2 : w7 + length text + length pool.0.3 ≡ total =
    omega (arith, p1, ap length slots.run_split, length-append text pool.0.3) in
    let q2 : w6 + length (drop w6 w) ≡ total =
    omega (arith, length-drop w6 w, head.attributes_in) in
    let fields =
    members_taken total w6 (w7 + length text) (second_of (get_or w 2 0)) pool.0.2 (drop w6 w)
    pool.0.3 (body.0.0, b.between.0, b.between.1, b.between.2) q2 p2 b.of_fields in
    let p3 : w7 + length text + length of_fields + length b.between.2 ≡ total =
    omega (arith, p2, ap length fields.run_split, length-append of_fields b.between.2) in
    let q3 : w6 + 2 * length (member_attributes body.0.0) + length b.between.1 ≡ total =
    omega (
      arith,
      q2,
      ap length fields.split,
      length-append (attributes (w7 + length text) (member_attributes body.0.0)) b.between.1,
      attributes_len (w7 + length text) (member_attributes body.0.0),
    ) in
    let methods =
    members_taken total (w6 + 2 * length (member_attributes body.0.0))
    (w7 + length text + length of_fields) (third_of (get_or w 2 0)) b.between.0 b.between.1
    b.between.2 (body.0.1, body.0.3, b.behind.0, b.behind.1) q3 p3 b.of_methods in
    let p4 : w7 + length text + length of_fields + length of_methods + length b.behind.1 ≡ total =
    omega (arith, p3, ap length methods.run_split, length-append of_methods b.behind.1) in
    let own = attributes_taken total (w7 + length text + length of_fields + length of_methods)
    (fourth_of (get_or w 2 0)) b.behind.0 b.behind.1 (body.0.2, body.0.4, body.0.5) p4
    b.of_class in
    subst (λ (x : ClassFile). HasSpelling x × (w ≡ lay x)) same (
      spelled w made s.0 pool.0.2 b.between.0 body.0.3 b.between.1 b.behind.0 body.0.4 pool.0.3
          b.between.2 b.behind.1 body.0.5 head refl refl refl slots interfaces fields
          methods own ends
          small_1 small_2,
      laid w made s.0 pool.0.2 b.between.0 body.0.3 b.between.1 b.behind.0 body.0.4 pool.0.3
          b.between.2 b.behind.1 body.0.5 head refl refl refl slots interfaces fields
          methods own ends
          small_1 small_2,
    )

-- ---- records, and words from which a class is read

some_there : {A : Type 0} (o : Option A) → is_some o ≡ true → (x : A) × (o ≡ Some x)
some_there None e = absurd (cc)
some_there (Some x) e = (x, refl)

pub record_of_read : (w : List ℕ) → get_or w 1 0 < 2 ^ 64 → get_or w 2 0 < 2 ^ 64 → length w ≤ limit
    → is_some (class_at w) ≡ true → IsRecord w
record_of_read w small_1 small_2 short e =
    let read = some_there (class_at w) e in
    let taken = class_taken w read.0 small_1 small_2 read.1 in
    (read.0, record { spelled = taken.0; laid = taken.1; short = short })

pub read_of_record : (w : List ℕ) → IsRecord w → is_some (class_at w) ≡ true
read_of_record w (c, is) = ap is_some (ap class_at is.laid ∙ class_again c is.spelled)

-- ---- what reading returns
