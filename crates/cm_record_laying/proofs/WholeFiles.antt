-- A whole class file that is laid.
-- For `lay_parts`, `lay_file`.
use Rattle.std.proofs.Common.{◌≡◌, ◌≤◌, ◌+◌, ◌*◌, ℕ, List, [], ◌∷◌, ◌++◌, length, get_or, refl}
use Rattle.std.proofs.Common.{sym, ap, subst, ◌∙◌, append_assoc, length-append, arith}
use Rattle.std.specs.List.{flat_map, AllByRecursion}
use Rattle.std.proofs.lemmas.List.{append-nil}
use Rattle.cm_class.specs.declared.constant.Slot.{Slot}
use Rattle.cm_class.specs.declared.class_file.Attribute.{Attribute}
use Rattle.cm_class.specs.declared.class_file.Member.{Member}
use Rattle.cm_class.specs.declared.class_file.ClassFile.{ClassFile}
use Rattle.cm_class.specs.Shape.{Spells}
use Rattle.cm_class.specs.Spelling.{IsU2, heading, u2, counted, slot_bytes, attribute_bytes}
use Rattle.cm_class.specs.Spelling.{member_bytes, spell, CountedFit}
use Rattle.cm_record_layout.specs.Packing.{four_numbers}
use Rattle.cm_record_layout.specs.Layout.{directory, utf8_runs, members, member_attributes}
use Rattle.cm_record_layout.specs.Layout.{attributes, attribute_runs, all_members, all_attributes}
use Rattle.cm_record_layout.specs.Layout.{attributes_at, runs_at, attribute_runs_at, record_len}
use Rattle.cm_record_layout.specs.Layout.{head, lay, limit, IsRecordOf}
use Rattle.cm_record_layout.proofs.{attributes_append, attribute_runs_append, attributes_len}
use Rattle.cm_record_layout.proofs.{lay_len}
use Rattle.cm_record_laying.specs.declared.sections.Sections.{Sections}
use Rattle.cm_record_laying.specs.declared.sizes.Numbers.{Numbers}
use Rattle.cm_record_laying.specs.Heads.{AreNumbers, head_of, attributes_from}
use Rattle.cm_record_laying.specs.Laying.{Adds, Lays, LaysNumbers, LaysAttributes, LaysMembers}
use Rattle.cm_record_laying.specs.Laying.{next_run, next_attribute}
use Rattle.cm_record_laying.specs.Files.{LaysPool, LaysFile, IsRecordOfFile}
use Rattle.cm_record_laying.proofs.Steps.{adds_as, adds_then, run_moved, attribute_moved}
use Rattle.cm_record_laying.proofs.ConstantsLaid.{both_spelled}
use Rattle.cm_record_laying.proofs.Joins.{members_both}

-- ---- what all parts add

module _ (s0 s1 s2 s3 s4 s5 : Sections) (slots : List Slot) (is : List ℕ) (fs ms : List Member)
    (own : List Attribute)
    (a1 : Adds s0 s1 (0 ∷ directory (next_run s0) slots) [] (utf8_runs slots))
    (a2 : Adds s1 s2 is [] [])
    (a3 : Adds s2 s3 (members (next_attribute s2) fs)
    (attributes (next_run s2) (member_attributes fs)) (attribute_runs (member_attributes fs)))
    (a4 : Adds s3 s4 (members (next_attribute s3) ms)
    (attributes (next_run s3) (member_attributes ms)) (attribute_runs (member_attributes ms)))
    (a5 : Adds s4 s5 [] (attributes (next_run s4) own) (attribute_runs own)) where
  abbrev pool : List ℕ
  pool = 0 ∷ directory (next_run s0) slots

  abbrev those : List Attribute
  those = member_attributes fs ++ member_attributes ms

  front : Adds s0 s2 (pool ++ is) [] (utf8_runs slots)
  front = adds_as s0 s2 (pool ++ is) [] (utf8_runs slots ++ [])
      (adds_then s0 s1 pool [] (utf8_runs slots) a1 s2 is [] [] a2)
      (pool ++ is) [] (utf8_runs slots) refl refl (append-nil (utf8_runs slots))

  both : Adds s2 s4 (members (next_attribute s2) (fs ++ ms)) (attributes (next_run s2) those)
      (attribute_runs those)
  both = members_both s2 s3 s4 fs ms a3 a4

  run_2 : next_run s2 ≡ next_run s0 + length (utf8_runs slots)
  run_2 = run_moved s0 s2 (pool ++ is) [] (utf8_runs slots) front

  attribute_2 : next_attribute s2 ≡ next_attribute s0
  attribute_2 = omega (arith, attribute_moved s0 s2 (pool ++ is) [] (utf8_runs slots) front)

  run_4 : next_run s4 ≡ next_run s2 + length (attribute_runs those)
  run_4 = run_moved s2 s4 (members (next_attribute s2) (fs ++ ms)) (attributes (next_run s2) those)
      (attribute_runs those) both

  abbrev runs_from : ℕ
  runs_from = next_run s0 + length (utf8_runs slots)

  behind : Adds s2 s5 (members (next_attribute s0) (fs ++ ms)) (attributes runs_from (those ++ own))
      (attribute_runs (those ++ own))
  behind =
      let main = members (next_attribute s2) (fs ++ ms) in
      let first = attributes (next_run s2) those in
      let second = attributes (next_run s4) own in
      adds_as s2 s5 (main ++ []) (first ++ second) (attribute_runs those ++ attribute_runs own)
      (adds_then s2 s4 main first (attribute_runs those) both s5 [] second (attribute_runs own) a5)
      (members (next_attribute s0) (fs ++ ms)) (attributes runs_from (those ++ own))
      (attribute_runs (those ++ own))
      (append-nil main ∙ ap (λ n. members n (fs ++ ms)) attribute_2)
      (ap (λ n. first ++ attributes n own) run_4
      ∙ (sym (attributes_append (next_run s2) those own)
      ∙ ap (λ n. attributes n (those ++ own)) run_2))
      (sym (attribute_runs_append those own))

  pub all_added : Adds s0 s5 (pool ++ is ++ members (next_attribute s0) (fs ++ ms))
      (attributes runs_from (those ++ own)) (utf8_runs slots ++ attribute_runs (those ++ own))
  all_added = adds_then s0 s2 (pool ++ is) [] (utf8_runs slots) front s5
      (members (next_attribute s0) (fs ++ ms)) (attributes runs_from (those ++ own))
      (attribute_runs (those ++ own)) behind

-- ---- what all parts spell

pub counted_spelled : {A : Type 0} (spelling : A → List ℕ) (items : List A) (n : ℕ)
    (bytes mid rest : List ℕ) → bytes ≡ u2 n ++ mid → mid ≡ flat_map spelling items ++ rest
    → length items ≡ n → bytes ≡ counted spelling items ++ rest
counted_spelled spelling items n bytes mid rest e f few =
    both_spelled bytes (u2 n) mid (flat_map spelling items) rest e f
    ∙ ap (λ k. (u2 k ++ flat_map spelling items) ++ rest) (sym few)

counted_fit : {A : Type 0} (P : A → Type 0) (items : List A) (n : ℕ) → IsU2 n → length items ≡ n
    → AllByRecursion P items → CountedFit P items
counted_fit P items n fits few all = (subst IsU2 (sym few) fits, all)

module _ (n : Numbers) (bytes r1 r2 r3 r4 r5 r6 r7 r8 r9 r10 r11 rest : List ℕ)
    (s0 s1 s2 s3 s4 s5 : Sections) (pool : LaysPool n.slots bytes s0 s1 r1)
    (e_flags : r1 ≡ u2 n.flags ++ r2) (e_this : r2 ≡ u2 n.this_class ++ r3)
    (e_super : r3 ≡ u2 n.super_class ++ r4) (e_interfaces : r4 ≡ u2 n.interfaces ++ r5)
    (is : LaysNumbers n.interfaces r5 s1 s2 r6) (e_fields : r6 ≡ u2 n.fields ++ r7)
    (fs : LaysMembers n.fields r7 s2 s3 r8) (e_methods : r8 ≡ u2 n.methods ++ r9)
    (ms : LaysMembers n.methods r9 s3 s4 r10) (e_attributes : r10 ≡ u2 n.attributes ++ r11)
    (own : LaysAttributes n.attributes r11 s4 s5 rest) (none : rest ≡ []) where
  abbrev class : ClassFile
  class = record {
    slots = pool.slots;
    flags = n.flags;
    this_class = n.this_class;
    super_class = n.super_class;
    interfaces = is.items;
    fields = fs.items;
    methods = ms.items;
    attributes = own.items;
  }

  abbrev p0 : List ℕ
  p0 = heading ++ u2 n.slots ++ flat_map slot_bytes pool.slots

  abbrev p3 : List ℕ
  p3 = p0 ++ u2 n.flags ++ u2 n.this_class ++ u2 n.super_class

  upto_3 : bytes ≡ p3 ++ r4
  upto_3 =
      both_spelled bytes (p0 ++ u2 n.flags ++ u2 n.this_class) r3 (u2 n.super_class) r4
      (both_spelled bytes (p0 ++ u2 n.flags) r2 (u2 n.this_class) r3
      (both_spelled bytes p0 r1 (u2 n.flags) r2 pool.spelled e_flags) e_this) e_super

  abbrev p4 : List ℕ
  p4 = p3 ++ counted u2 is.items

  upto_4 : bytes ≡ p4 ++ r6
  upto_4 = both_spelled bytes p3 r4 (counted u2 is.items) r6 upto_3
      (counted_spelled u2 is.items n.interfaces r4 r5 r6 e_interfaces is.spelled is.counted)

  abbrev p5 : List ℕ
  p5 = p4 ++ counted member_bytes fs.items

  upto_5 : bytes ≡ p5 ++ r8
  upto_5 = both_spelled bytes p4 r6 (counted member_bytes fs.items) r8 upto_4
      (counted_spelled member_bytes fs.items n.fields r6 r7 r8 e_fields fs.spelled fs.counted)

  abbrev p6 : List ℕ
  p6 = p5 ++ counted member_bytes ms.items

  upto_6 : bytes ≡ p6 ++ r10
  upto_6 = both_spelled bytes p5 r8 (counted member_bytes ms.items) r10 upto_5
      (counted_spelled member_bytes ms.items n.methods r8 r9 r10 e_methods ms.spelled ms.counted)

  abbrev p7 : List ℕ
  p7 = p6 ++ counted attribute_bytes own.items

  upto_7 : bytes ≡ p7 ++ rest
  upto_7 = both_spelled bytes p6 r10 (counted attribute_bytes own.items) rest upto_6
      (counted_spelled attribute_bytes own.items n.attributes r10 r11 rest e_attributes own.spelled
      own.counted)

  all_spelled : bytes ≡ spell class
  all_spelled = upto_7 ∙ (ap (λ l. p7 ++ l) none ∙ (append-nil p7
      ∙ ap (λ k. heading ++ u2 k ++ flat_map slot_bytes pool.slots
      ++ u2 n.flags ++ u2 n.this_class ++ u2 n.super_class ++ counted u2 is.items
      ++ counted member_bytes fs.items ++ counted member_bytes ms.items
      ++ counted attribute_bytes own.items) (sym pool.counted)))

  pub file_laid : IsU2 n.flags → IsU2 n.this_class → IsU2 n.super_class → IsU2 n.interfaces
      → IsU2 n.fields → IsU2 n.methods → IsU2 n.attributes → LaysFile n bytes s0 s5
  file_laid f_flags f_this f_super f_interfaces f_fields f_methods f_attributes = record {
    class = class;
    spells = record {
      fits = record {
        count = subst IsU2 (sym pool.counted) pool.few;
        slots = pool.fit;
        flags = f_flags;
        this_class = f_this;
        super_class = f_super;
        interfaces = counted_fit IsU2 is.items n.interfaces f_interfaces is.counted is.fit;
        fields = (subst IsU2 (sym fs.counted) f_fields, fs.fit);
        methods = (subst IsU2 (sym ms.counted) f_methods, ms.fit);
        attributes = (subst IsU2 (sym own.counted) f_attributes, own.fit);
      };
      spelled = all_spelled;
    };
    numbers = record {
      slots = sym pool.counted;
      flags = refl;
      this_class = refl;
      super_class = refl;
      interfaces = sym is.counted;
      fields = sym fs.counted;
      methods = sym ms.counted;
      attributes = sym own.counted;
    };
    adds = all_added s0 s1 s2 s3 s4 s5 pool.slots is.items fs.items ms.items own.items pool.adds
        is.adds fs.adds ms.adds own.adds;
  }

-- ---- the words of all sections are the record

module _ (n : Numbers) (bytes told words : List ℕ) (a b : Sections) (f : LaysFile n bytes a b)
    (told_is : a.words.words ≡ told) (no_attributes : a.attributes.words ≡ [])
    (no_runs : a.runs.words ≡ []) (attributes_is : a.attributes_at ≡ get_or told 6 0)
    (runs_is : a.runs_at ≡ get_or told 7 0) (short : get_or told 0 0 ≤ limit)
    (found : told ≡ head_of n (length b.attributes.words) (length b.runs.words))
    (joined : words ≡ b.words.words ++ b.attributes.words ++ b.runs.words) where
  abbrev c : ClassFile
  c = f.class

  attributes_from_is : attributes_from n ≡ attributes_at c
  attributes_from_is =
      omega (
        arith,
        f.numbers.slots,
        f.numbers.interfaces,
        f.numbers.fields,
        f.numbers.methods,
        length-append c.fields c.methods,
      )

  attribute_words : length b.attributes.words ≡ 2 * length (all_attributes c)
  attribute_words =
      ap length (f.adds.attributes ∙ ap (λ l. l ++ attributes
      (next_run a + length (utf8_runs c.slots)) (all_attributes c)) no_attributes)
      ∙ attributes_len (next_run a + length (utf8_runs c.slots)) (all_attributes c)

  run_words : length b.runs.words
      ≡ length (utf8_runs c.slots) + length (attribute_runs (all_attributes c))
  run_words =
      ap length (f.adds.runs ∙ ap (λ l. l ++ (utf8_runs c.slots ++ attribute_runs
      (all_attributes c))) no_runs)
      ∙ length-append (utf8_runs c.slots) (attribute_runs (all_attributes c))

  total_is : attributes_from n + length b.attributes.words + length b.runs.words ≡ record_len c
  total_is = omega (arith, attributes_from_is, attribute_words, run_words)

  runs_from_is : attributes_from n + length b.attributes.words ≡ runs_at c
  runs_from_is = omega (arith, attributes_from_is, attribute_words)

  told_head : told ≡ head c
  told_head =
      let interfaces_from : 8 + n.slots ≡ 8 + (length c.slots + 1) =
      omega (arith, f.numbers.slots) in
      let members_from : 8 + n.slots + n.interfaces
      ≡ 8 + (length c.slots + 1) + length c.interfaces =
      omega (arith, f.numbers.slots, f.numbers.interfaces) in
      found ∙ (λ i. total_is i
      ∷ four_numbers (f.numbers.flags i) (f.numbers.this_class i) (f.numbers.super_class i)
      (f.numbers.interfaces i)
      ∷ four_numbers (f.numbers.slots i) (f.numbers.fields i) (f.numbers.methods i)
      (f.numbers.attributes i)
      ∷ 8 ∷ interfaces_from i ∷ members_from i ∷ attributes_from_is i ∷ runs_from_is i ∷ [])

  run_0 : next_run a ≡ runs_at c
  run_0 = omega (arith, ap length no_runs, runs_is, ap (λ l. get_or l 7 0) told_head)

  attribute_0 : next_attribute a ≡ attributes_at c
  attribute_0 =
      omega (arith, ap length no_attributes, attributes_is, ap (λ l. get_or l 6 0) told_head)

  run_1 : next_run a + length (utf8_runs c.slots) ≡ attribute_runs_at c
  run_1 = omega (arith, run_0)

  regroup : (h d i m t u r : List ℕ) → (h ++ (d ++ i ++ m)) ++ t ++ (u ++ r)
      ≡ h ++ d ++ i ++ m ++ t ++ u ++ r
  regroup h d i m t u r = simp append_assoc

  laid : words ≡ lay c
  unfolding lay
  laid =
      let d = 0 ∷ directory (next_run a) c.slots in
      let m = members (next_attribute a) (all_members c) in
      let t = attributes (next_run a + length (utf8_runs c.slots)) (all_attributes c) in
      let u = utf8_runs c.slots in
      let r = attribute_runs (all_attributes c) in
      joined
      ∙ ((λ i. (f.adds.words i) ++ (f.adds.attributes i) ++ (f.adds.runs i))
      ∙ ((λ i. (told_is i ++ (d ++ c.interfaces ++ m)) ++ (no_attributes i ++ t)
      ++ (no_runs i ++ (u ++ r)))
      ∙ (regroup told d c.interfaces m t u r
      ∙ (λ i. told_head i ++ (0 ∷ directory (run_0 i) c.slots) ++ c.interfaces
      ++ members (attribute_0 i) (all_members c) ++ attributes (run_1 i) (all_attributes c)
      ++ u ++ r))))

  pub record_laid : IsRecordOfFile bytes words
  record_laid = (
    c,
    f.spells,
    record {
      spelled = f.spells.fits;
      laid = laid;
      short = omega (
        arith,
        ap length laid,
        lay_len c f.spells.fits,
        ap (λ l. get_or l 0 0) told_head,
        short,
      );
    },
  )
