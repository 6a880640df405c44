-- The parts of a class file, spelled one after another.
-- For `spell_body`, `spell_class`, `spell_pool`, `spell_words`.
use Rattle.std.proofs.Common.{◌≡◌, ◌≤◌, ◌+◌, ◌-◌, ◌^◌, ◌<◌, ℕ, true, false, List, [], ◌++◌}
use Rattle.std.proofs.Common.{length, drop, get_or, Option, Some, None, Result, Ok, Err, refl, sym}
use Rattle.std.proofs.Common.{◌∙◌, ap, arith, append_assoc}
use Rattle.std.specs.Prelude.{IfOk, IsErrOf}
use Rattle.std.specs.List.{flat_map}
use Rattle.cm_class.specs.declared.constant.Slot.{Slot}
use Rattle.cm_class.specs.declared.class_file.Attribute.{Attribute}
use Rattle.cm_class.specs.declared.class_file.Member.{Member}
use Rattle.cm_class.specs.declared.class_file.ClassFile.{ClassFile}
use Rattle.cm_class.specs.Spelling.{heading, u2, slot_bytes, attribute_bytes, member_bytes, counted}
use Rattle.cm_class.specs.Spelling.{spell}
use Rattle.cm_record_layout.specs.Layout.{IsRecord, IsRecordOf, limit, head_class, head_counts}
use Rattle.cm_record_layout.specs.Layout.{head_runs_at}
use Rattle.cm_record_layout.specs.Packing.{first_of, second_of, third_of, fourth_of}
use Rattle.cm_record_reading.specs.declared.fault.RecordFault.{RecordFault}
use Rattle.cm_record_reading.specs.declared.fault.RecordFault.TheVariants.{NotARecord, NoMemory}
use Rattle.cm_record_reading.specs.Reading.{Gives, slots_at, interfaces_from}
use Rattle.cm_record_reading.specs.Reading.{attributes_from, members_from, head_is_right}
use Rattle.cm_record_reading.specs.Reading.{sections_end, pool_from, body_from, pool_of, body_of}
use Rattle.cm_record_reading.specs.Reading.{class_at, appended, behind3, behind4, pool_bytes}
use Rattle.cm_record_reading.specs.Reading.{pool_behind, body_behind, class_behind}
use Rattle.cm_record_reading.proofs.Turns.{behind_found, behind_none, behind3_found, behind3_none}
use Rattle.cm_record_reading.proofs.Turns.{behind4_found, behind4_none}
use Rattle.cm_record_reading.proofs.Counts.{slots_many}
use Rattle.cm_record_reading.proofs.WholeRecord.{always_read}
use Rattle.cm_record_reading.proofs.TakenRecord.{class_taken}

-- ---- bytes after one another

three_joined : (out out1 out2 out3 a b c : List ℕ) → out1 ≡ out ++ a → out2 ≡ out1 ++ b
    → out3 ≡ out2 ++ c → out ++ a ++ b ++ c ≡ out3
three_joined out out1 out2 out3 a b c e1 e2 e3 = rw (e3, e2, e1) refl

class_joined : (out out1 out2 pool a b c : List ℕ) → out1 ≡ out ++ pool
    → out2 ≡ out1 ++ a ++ b ++ c → out ++ (pool ++ a ++ b ++ c) ≡ out2
class_joined out out1 out2 pool a b c e1 e2 = rw (e2, e1) (simp append_assoc)

seven_joined : (out out1 out2 out3 out4 a b c d e f g : List ℕ) → out1 ≡ out ++ a ++ b
    → out2 ≡ out1 ++ c → out3 ≡ out2 ++ d ++ e ++ f → out4 ≡ out3 ++ g
    → out ++ (a ++ b ++ c ++ d ++ e ++ f ++ g) ≡ out4
seven_joined out out1 out2 out3 out4 a b c d e f g e1 e2 e3 e4 =
    rw (e4, e3, e2, e1) (simp append_assoc)

-- ---- the body

module _ (total f m o : ℕ) (main attrs runs out : List ℕ) where
  pub fields_none : behind4 out (counted member_bytes) (members_from total f main attrs runs) ≡ None
      → body_behind out (body_from total f m o main attrs runs) ≡ None
  unfolding body_from
  fields_none none =
      rw (behind4_none (counted member_bytes) out (members_from total f main attrs runs) none) refl

  module _ (out1 main1 attrs1 runs1 : List ℕ)
      (fields : behind4 out (counted member_bytes) (members_from total f main attrs runs)
      ≡ Some (out1, main1, attrs1, runs1)) where
    pub methods_none : behind4 out1 (counted member_bytes)
        (members_from total m main1 attrs1 runs1) ≡ None
        → body_behind out (body_from total f m o main attrs runs) ≡ None
    unfolding body_from
    methods_none none =
        let one =
        behind4_found (counted member_bytes) out out1 main1 attrs1 runs1
        (members_from total f main attrs runs) fields in
        rw (
          one.1,
          behind4_none (counted member_bytes) out1
              (members_from total m main1 attrs1 runs1) none,
        ) refl

    module _ (out2 main2 attrs2 runs2 : List ℕ)
        (methods : behind4 out1 (counted member_bytes) (members_from total m main1 attrs1 runs1)
        ≡ Some (out2, main2, attrs2, runs2)) where
      pub own_none : behind3 out2 (counted attribute_bytes)
          (attributes_from total o attrs2 runs2) ≡ None
          → body_behind out (body_from total f m o main attrs runs) ≡ None
      unfolding body_from
      own_none none =
          let one =
          behind4_found (counted member_bytes) out out1 main1 attrs1 runs1
          (members_from total f main attrs runs) fields in
          let two =
          behind4_found (counted member_bytes) out1 out2 main2 attrs2 runs2
          (members_from total m main1 attrs1 runs1) methods in
          rw (
            one.1,
            two.1,
            behind3_none (counted attribute_bytes) out2
                (attributes_from total o attrs2 runs2) none,
          ) refl

      pub body_made : (out3 attrs3 runs3 : List ℕ)
          → behind3 out2 (counted attribute_bytes) (attributes_from total o attrs2 runs2)
          ≡ Some (out3, attrs3, runs3)
          → body_behind out (body_from total f m o main attrs runs)
          ≡ Some (out3, main2, attrs3, runs3)
      unfolding body_from
      body_made out3 attrs3 runs3 own =
          let one =
          behind4_found (counted member_bytes) out out1 main1 attrs1 runs1
          (members_from total f main attrs runs) fields in
          let two =
          behind4_found (counted member_bytes) out1 out2 main2 attrs2 runs2
          (members_from total m main1 attrs1 runs1) methods in
          let three =
          behind3_found (counted attribute_bytes) out2 out3 attrs3 runs3
          (attributes_from total o attrs2 runs2) own in
          rw (one.1, two.1, three.1)
          (ap (λ (w : List ℕ). let r : Option (List ℕ × List ℕ × List ℕ × List ℕ) =
          Some (w, main2, attrs3, runs3) in r)
          (three_joined out out1 out2 out3 (counted member_bytes one.0)
          (counted member_bytes two.0) (counted attribute_bytes three.0) one.2 two.2 three.2))

-- ---- the pool

-- the parts that were appended are the front of the class file
pool_joined : (out out1 out2 out3 out4 : List ℕ) (words : List ℕ) (slots : List Slot)
    (those : List ℕ) → 1 ≤ first_of (head_counts words)
    → length slots ≡ first_of (head_counts words) - 1
    → out1 ≡ out ++ heading ++ u2 (first_of (head_counts words))
    → out2 ≡ out1 ++ flat_map slot_bytes slots
    → out3 ≡ out2 ++ u2 (first_of (head_class words)) ++ u2 (second_of (head_class words))
    ++ u2 (third_of (head_class words))
    → out4 ≡ out3 ++ counted u2 those
    → out ++ pool_bytes words slots those ≡ out4
pool_joined out out1 out2 out3 out4 words slots those some many e1 e2 e3 e4 =
    let count : length slots + 1 ≡ first_of (head_counts words) = omega arith in
    ap (λ (n : ℕ). out ++ (heading ++ u2 n ++ flat_map slot_bytes slots
    ++ u2 (first_of (head_class words)) ++ u2 (second_of (head_class words))
    ++ u2 (third_of (head_class words)) ++ counted u2 those)) count
    ∙ seven_joined out out1 out2 out3 out4 heading (u2 (first_of (head_counts words)))
    (flat_map slot_bytes slots) (u2 (first_of (head_class words)))
    (u2 (second_of (head_class words))) (u2 (third_of (head_class words))) (counted u2 those)
    e1 e2 e3 e4

module _ (words out out1 : List ℕ) (some : 1 ≤ first_of (head_counts words))
    (begun : out1 ≡ out ++ heading ++ u2 (first_of (head_counts words))) where
  pub slots_none : behind3 out1 (flat_map slot_bytes)
      (slots_at (length words) false (first_of (head_counts words) - 1) (drop 9 words)
      (drop (head_runs_at words) words)) ≡ None
      → pool_behind out words (pool_of words) ≡ None
  unfolding pool_from
  slots_none none = rw (behind3_none (flat_map slot_bytes) out1
      (slots_at (length words) false (first_of (head_counts words) - 1) (drop 9 words)
      (drop (head_runs_at words) words)) none) refl

  module _ (out2 main1 runs1 : List ℕ) (slots : behind3 out1 (flat_map slot_bytes)
      (slots_at (length words) false (first_of (head_counts words) - 1) (drop 9 words)
      (drop (head_runs_at words) words)) ≡ Some (out2, main1, runs1)) (out3 : List ℕ) where
    pub interfaces_none : appended out3 (counted u2)
        (interfaces_from (fourth_of (head_class words)) main1) ≡ None
        → pool_behind out words (pool_of words) ≡ None
    unfolding pool_from
    interfaces_none none =
        let one =
        behind3_found (flat_map slot_bytes) out1 out2 main1 runs1
        (slots_at (length words) false (first_of (head_counts words) - 1) (drop 9 words)
        (drop (head_runs_at words) words)) slots in
        rw (
          one.1,
          behind_none (counted u2) out3
              (interfaces_from (fourth_of (head_class words)) main1) none,
        ) refl

    pub pool_made : (out4 main2 : List ℕ)
        → out3 ≡ out2 ++ u2 (first_of (head_class words)) ++ u2 (second_of (head_class words))
        ++ u2 (third_of (head_class words))
        → appended out3 (counted u2) (interfaces_from (fourth_of (head_class words)) main1)
        ≡ Some (out4, main2)
        → pool_behind out words (pool_of words) ≡ Some (out4, main2, runs1)
    unfolding pool_from
    pool_made out4 main2 e3 those =
        let one =
        behind3_found (flat_map slot_bytes) out1 out2 main1 runs1
        (slots_at (length words) false (first_of (head_counts words) - 1) (drop 9 words)
        (drop (head_runs_at words) words)) slots in
        let two =
        behind_found (counted u2) out3 out4 main2
        (interfaces_from (fourth_of (head_class words)) main1) those in
        let many =
        slots_many (length words) false (first_of (head_counts words) - 1) (drop 9 words)
        (drop (head_runs_at words) words) (one.0, main1, runs1) one.1 in
        rw (one.1, two.1)
        (ap (λ (w : List ℕ). let r : Option (List ℕ × List ℕ × List ℕ) =
        Some (w, main2, runs1) in r)
        (pool_joined out out1 out2 out3 out4 words one.0 two.0 some many begun one.2 e3 two.2))

-- ---- the class

pool_found : (words out out1 main1 runs1 : List ℕ)
    (read : Option (List Slot × List ℕ × List ℕ × List ℕ))
    → pool_behind out words read ≡ Some (out1, main1, runs1)
    → (slots : List Slot) × (those : List ℕ) × (read ≡ Some (slots, those, main1, runs1))
    × (out1 ≡ out ++ pool_bytes words slots those)
pool_found words out out1 main1 runs1 None e = absurd (cc)
pool_found words out out1 main1 runs1 (Some read) e =
    let one : List ℕ × List ℕ × List ℕ =
    (out ++ pool_bytes words read.0 read.1, read.2, read.3) in
    let two : List ℕ × List ℕ × List ℕ = (out1, main1, runs1) in
    let same : one ≡ two = cc in (
      read.0,
      read.1,
      ap (λ p. Some (read.0, read.1, p.1, p.2)) same,
      sym (ap (λ p. p.0) same),
    )

pool_none : (words out : List ℕ) (read : Option (List Slot × List ℕ × List ℕ × List ℕ))
    → pool_behind out words read ≡ None → read ≡ None
pool_none words out None e = refl
pool_none words out (Some read) e = absurd (cc)

body_found : (out out1 main1 attrs1 runs1 : List ℕ)
    (read : Option (List Member × List Member × List Attribute × List ℕ × List ℕ × List ℕ))
    → body_behind out read ≡ Some (out1, main1, attrs1, runs1)
    → (f : List Member) × (m : List Member) × (a : List Attribute)
    × (read ≡ Some (f, m, a, main1, attrs1, runs1))
    × (out1 ≡ out ++ counted member_bytes f ++ counted member_bytes m
    ++ counted attribute_bytes a)
body_found out out1 main1 attrs1 runs1 None e = absurd (cc)
body_found out out1 main1 attrs1 runs1 (Some read) e =
    let one : List ℕ × List ℕ × List ℕ × List ℕ = (
      out ++ counted member_bytes read.0 ++ counted member_bytes read.1
          ++ counted attribute_bytes read.2,
      read.3,
      read.4,
      read.5,
    ) in
    let two : List ℕ × List ℕ × List ℕ × List ℕ = (out1, main1, attrs1, runs1) in
    let same : one ≡ two = cc in (
      read.0,
      read.1,
      read.2,
      ap (λ p. Some (read.0, read.1, read.2, p.1, p.2, p.3)) same,
      sym (ap (λ p. p.0) same),
    )

body_none : (out : List ℕ)
    (read : Option (List Member × List Member × List Attribute × List ℕ × List ℕ × List ℕ))
    → body_behind out read ≡ None → read ≡ None
body_none out None e = refl
body_none out (Some read) e = absurd (cc)

module _ (words out : List ℕ) where
  pub head_wrong : head_is_right words ≡ false → class_behind out (class_at words) ≡ None
  unfolding class_at
  head_wrong wrong = rw wrong refl

  module _ (right : head_is_right words ≡ true) where
    pub no_pool : pool_behind out words (pool_of words) ≡ None
        → class_behind out (class_at words) ≡ None
    unfolding class_at
    no_pool none = rw (right, pool_none words out (pool_of words) none) refl

    module _ (out1 main1 runs1 : List ℕ)
        (pool : pool_behind out words (pool_of words) ≡ Some (out1, main1, runs1)) where
      pub no_body : body_behind out1 (body_of words main1 runs1) ≡ None
          → class_behind out (class_at words) ≡ None
      unfolding class_at
      no_body none =
          let one = pool_found words out out1 main1 runs1 (pool_of words) pool in
          rw (right, one.2, body_none out1 (body_of words main1 runs1) none) refl

      module _ (out2 main2 attrs2 runs2 : List ℕ)
          (body : body_behind out1 (body_of words main1 runs1)
          ≡ Some (out2, main2, attrs2, runs2)) where
        pub ends_wrong : sections_end words main2 attrs2 runs2 ≡ false
            → class_behind out (class_at words) ≡ None
        unfolding class_at
        ends_wrong wrong =
            let one = pool_found words out out1 main1 runs1 (pool_of words) pool in
            let two =
            body_found out1 out2 main2 attrs2 runs2 (body_of words main1 runs1) body in
            rw (right, one.2, two.3, wrong) refl

        pub class_made : sections_end words main2 attrs2 runs2 ≡ true
            → class_behind out (class_at words) ≡ Some out2
        unfolding class_at
        class_made ends =
            let one = pool_found words out out1 main1 runs1 (pool_of words) pool in
            let two =
            body_found out1 out2 main2 attrs2 runs2 (body_of words main1 runs1) body in
            rw (right, one.2, two.3, ends)
            (ap (λ (w : List ℕ). let r : Option (List ℕ) = Some w in r)
            (class_joined out out1 out2 (pool_bytes words one.0 one.1)
            (counted member_bytes two.0) (counted member_bytes two.1)
            (counted attribute_bytes two.2) one.3 two.4))

-- ---- the class of a record

pub spelled_is_record : {X : Type 0} (w out : List ℕ) → get_or w 1 0 < 2 ^ 64
    → get_or w 2 0 < 2 ^ 64 → length w ≤ limit → (r : Result X RecordFault)
    → Gives (λ _. out) r (class_behind [] (class_at w))
    → IfOk r (λ _. (c : ClassFile) × IsRecordOf c w × (out ≡ spell c))
spelled_is_record w out small_1 small_2 short (Err e) gives = tt
spelled_is_record w out small_1 small_2 short (Ok x) gives = by_class (class_at w) refl gives
  where
    by_class : (read : Option ClassFile) → class_at w ≡ read → class_behind [] read ≡ Some out
        → (c : ClassFile) × IsRecordOf c w × (out ≡ spell c)
    by_class None e gives = absurd (cc)
    by_class (Some c) e gives =
        let taken = class_taken w c small_1 small_2 e in
        let same : spell c ≡ out = cc in
        (c, record { spelled = taken.0; laid = taken.1; short = short }, sym same)

class_none : (out : List ℕ) (read : Option ClassFile) → class_behind out read ≡ None
    → read ≡ None
class_none out None e = refl
class_none out (Some c) e = absurd (cc)

pub refused_is_none : {X : Type 0} (w out front : List ℕ) (r : Result X RecordFault)
    → Gives (λ _. out) r (class_behind front (class_at w)) → IsErrOf r NotARecord → IsRecord w → ⊥
refused_is_none w out front (Ok x) gives refused is = absurd (cc)
refused_is_none w out front (Err NoMemory) gives refused is = absurd (cc)
refused_is_none w out front (Err NotARecord) gives refused is =
    always_read w is (class_none front (class_at w) gives)
