-- The class of a record, part by part.
-- For `LaidClass`.
use Rattle.std.proofs.Common.{◌≡◌, ◌≤◌, ◌+◌, ◌-◌, ◌*◌, ℕ, List, [], ◌∷◌, ◌++◌, length, take, drop}
use Rattle.std.proofs.Common.{get_or, Bool, true, false, Option, Some, None, refl, sym, ◌∙◌, ap}
use Rattle.std.proofs.Common.{subst, arith}
use Rattle.std.specs.Prelude.{unwrap_or, option_map}
use Rattle.std.specs.Option.{option_map_or}
use Rattle.std.proofs.lemmas.List.{take_at}
use Rattle.cm_class.specs.declared.class_file.ClassFile.{ClassFile}
use Rattle.cm_class.specs.declared.constant.Constant.TheVariants as constant
use Rattle.cm_class.specs.declared.kind.Kind.{Kind}
use Rattle.cm_class.specs.declared.kind.Kind.TheVariants as kinds
use Rattle.cm_class.specs.Names.{constant_named, utf8, utf8_in, name_index, descriptor_index}
use Rattle.cm_class.specs.Names.{name_index_at, descriptor_index_at}
use Rattle.cm_class.specs.Reading.{tag_of}
use Rattle.cm_class.specs.Spelling.{HasSpelling, ClassConstant}
use Rattle.cm_record_layout.specs.Packing.{word_bytes, first_of, second_of, third_of, fourth_of}
use Rattle.cm_record_layout.specs.Packing.{upper_of}
use Rattle.cm_record_layout.specs.Layout.{lay, directory, utf8_runs, members, attributes}
use Rattle.cm_record_layout.specs.Layout.{attribute_runs, attributes_at, runs_at, interfaces_at}
use Rattle.cm_record_layout.specs.Layout.{members_at, attribute_runs_at, IsRecord, IsRecordOf}
use Rattle.cm_record_layout.specs.Layout.{limit}
use Rattle.cm_record_layout.specs.Tails.{of_fields, of_methods, method_runs_at, own_runs_at}
use Rattle.cm_record_layout.specs.Tails.{methods_at, runs_tail, attributes_tail}
use Rattle.cm_record_layout.proofs.{main_there, attributes_there, runs_there, directory_len}
use Rattle.cm_record_layout.proofs.{members_len, attributes_len, all_attributes_len}
use Rattle.cm_record_layout.proofs.{word_4, word_5, word_7, flags_there, this_there, super_there}
use Rattle.cm_record_layout.proofs.{interfaces_there, count_there, fields_there, methods_there}
use Rattle.cm_record_layout.proofs.{own_there, lay_short, lay_len}
use Rattle.cm_record_reading.specs.Reading.{class_at}
use Rattle.cm_record_reading.proofs.{class_again}
use Rattle.cm_record_rules.proofs.TextRuns.{texts_there}
use Rattle.cm_record_rules.specs.Plain.{count_characters, texts}
use Rattle.cm_record_rules.specs.Laid.{no_class, laid_class, tags_of, tags_from}
use Rattle.cm_record_rules.specs.Laid.{constant_there, attributes_in, members_in, IsLaid}
use Rattle.cm_record_rules.specs.Laid.{constant_of, run_bytes}
use Rattle.cm_record_rules.proofs.AttributesThere.{behind_front, attributes_read, members_read}
use Rattle.cm_record_rules.proofs.ConstantsThere.{constant_is}
use Rattle.cm_record_rules.proofs.Tags.{behind, tags_read, tag_named, tag_at_index}

-- ---- the class of words

pub class_in_is : (c : ClassFile) (words : List ℕ) → IsRecordOf c words → laid_class words ≡ c
unfolding laid_class
class_in_is c words is =
    ap (λ o. unwrap_or o no_class) (ap class_at is.laid ∙ class_again c is.spelled)

pub class_in_is_of : (words : List ℕ) → IsRecord words → IsRecordOf (laid_class words) words
class_in_is_of words (c, is) = subst (λ d. IsRecordOf d words) (sym (class_in_is c words is)) is

-- ---- where the parts are

module _ (c : ClassFile) (spelled : HasSpelling c) where
  abbrev body : List ℕ
  body = members (attributes_at c) c.fields
      ++ (members (methods_at c) c.methods ++ attributes_tail c)

  interfaces_place : drop (interfaces_at c) (lay c) ≡ c.interfaces ++ body
  interfaces_place =
      let d = directory (runs_at c) c.slots in
      let size = directory_len (runs_at c) c.slots spelled.slots in
      let place : 9 + length d ≡ interfaces_at c = omega (arith, size) in
      ap (λ n. drop n (lay c)) (sym place)
      ∙ behind_front (lay c) d (c.interfaces ++ body) 9 (main_there c spelled)

  fields_place : drop (members_at c) (lay c) ≡ body
  fields_place = behind_front (lay c) c.interfaces body (interfaces_at c) interfaces_place

  methods_place : drop (members_at c + 2 * length c.fields) (lay c)
      ≡ members (methods_at c) c.methods ++ attributes_tail c
  methods_place =
      let f = members (attributes_at c) c.fields in
      let size = members_len (attributes_at c) c.fields in
      let place : members_at c + length f ≡ members_at c + 2 * length c.fields =
      omega (arith, size) in
      ap (λ n. drop n (lay c)) (sym place)
      ∙ behind_front (lay c) f (members (methods_at c) c.methods ++ attributes_tail c)
      (members_at c) fields_place

  abbrev own_behind : List ℕ
  own_behind = attributes (own_runs_at c) c.attributes ++ runs_tail c

  abbrev methods_behind : List ℕ
  methods_behind = attributes (method_runs_at c) (of_methods c) ++ own_behind

  method_attributes_place : drop (methods_at c) (lay c) ≡ methods_behind
  method_attributes_place =
      let f = attributes (attribute_runs_at c) (of_fields c) in
      let size = attributes_len (attribute_runs_at c) (of_fields c) in
      let place : attributes_at c + length f ≡ methods_at c = omega (arith, size) in
      ap (λ n. drop n (lay c)) (sym place)
      ∙ behind_front (lay c) f methods_behind (attributes_at c) (attributes_there c spelled)

  own_place : drop (runs_at c - 2 * length c.attributes) (lay c) ≡ own_behind
  own_place =
      let m = attributes (method_runs_at c) (of_methods c) in
      let size = attributes_len (method_runs_at c) (of_methods c) in
      let place : methods_at c + length m ≡ runs_at c - 2 * length c.attributes =
      omega (arith, size, all_attributes_len c) in
      ap (λ n. drop n (lay c)) (sym place)
      ∙ behind_front (lay c) m own_behind (methods_at c) method_attributes_place

  abbrev own_runs : List ℕ
  own_runs = attribute_runs c.attributes ++ []

  abbrev method_runs : List ℕ
  method_runs = attribute_runs (of_methods c) ++ own_runs

  abbrev field_runs : List ℕ
  field_runs = attribute_runs (of_fields c) ++ method_runs

  field_runs_place : drop (attribute_runs_at c) (lay c) ≡ field_runs
  field_runs_place =
      behind_front (lay c) (utf8_runs c.slots) field_runs (runs_at c) (runs_there c spelled)

  method_runs_place : drop (method_runs_at c) (lay c) ≡ method_runs
  method_runs_place = behind_front (lay c) (attribute_runs (of_fields c)) method_runs
      (attribute_runs_at c) field_runs_place

  own_runs_place : drop (own_runs_at c) (lay c) ≡ own_runs
  own_runs_place = behind_front (lay c) (attribute_runs (of_methods c)) own_runs
      (method_runs_at c) method_runs_place

  -- ---- the parts, found where the words of the head say

  interfaces_laid : take (fourth_of (get_or (lay c) 1 0)) (drop (get_or (lay c) 4 0) (lay c))
      ≡ c.interfaces
  interfaces_laid =
      (λ i. take (interfaces_there c spelled i) (drop (word_4 c i) (lay c)))
      ∙ (ap (take (length c.interfaces)) interfaces_place
      ∙ take_at c.interfaces body (length c.interfaces) refl)

  fields_laid : members_in (lay c) (word_bytes (lay c)) (second_of (get_or (lay c) 2 0))
      (drop (get_or (lay c) 5 0) (lay c)) ≡ c.fields
  fields_laid =
      (λ i. members_in (lay c) (word_bytes (lay c)) (fields_there c spelled i)
      (drop (word_5 c i) (lay c)))
      ∙ (ap (members_in (lay c) (word_bytes (lay c)) (length c.fields)) fields_place
      ∙ members_read (lay c) (attributes_at c) (attribute_runs_at c) c.fields
      (members (methods_at c) c.methods ++ attributes_tail c) methods_behind method_runs
      spelled.fields.1 (attributes_there c spelled) field_runs_place)

  methods_laid : members_in (lay c) (word_bytes (lay c)) (third_of (get_or (lay c) 2 0))
      (drop (get_or (lay c) 5 0 + 2 * second_of (get_or (lay c) 2 0)) (lay c)) ≡ c.methods
  methods_laid =
      (λ i. members_in (lay c) (word_bytes (lay c)) (methods_there c spelled i)
      (drop (word_5 c i + 2 * fields_there c spelled i) (lay c)))
      ∙ (ap (members_in (lay c) (word_bytes (lay c)) (length c.methods)) methods_place
      ∙ members_read (lay c) (methods_at c) (method_runs_at c) c.methods (attributes_tail c)
      own_behind own_runs spelled.methods.1 method_attributes_place method_runs_place)

  own_laid : attributes_in (word_bytes (lay c)) (fourth_of (get_or (lay c) 2 0))
      (drop (get_or (lay c) 7 0 - 2 * fourth_of (get_or (lay c) 2 0)) (lay c)) ≡ c.attributes
  own_laid =
      (λ i. attributes_in (word_bytes (lay c)) (own_there c spelled i)
      (drop (word_7 c i - 2 * own_there c spelled i) (lay c)))
      ∙ (ap (attributes_in (word_bytes (lay c)) (length c.attributes)) own_place
      ∙ attributes_read (lay c) (own_runs_at c) c.attributes (runs_tail c) []
      spelled.attributes.1 own_runs_place)

  tags_laid : 0 ∷ tags_from false (take (first_of (get_or (lay c) 2 0) - 1) (drop 9 (lay c)))
      ≡ tags_of c
  unfolding tags_of behind
  tags_laid =
      let count : first_of (get_or (lay c) 2 0) - 1 ≡ length c.slots =
      omega (arith, count_there c spelled) in
      ap (λ ts. 0 ∷ ts) ((λ i. tags_from false (take (count i) (main_there c spelled i)))
      ∙ tags_read false 0 (runs_at c) c.slots (c.interfaces ++ body) spelled.slots)

-- ---- the same for the words

module _ (c : ClassFile) (words : List ℕ) (is : IsRecordOf c words) where
  pub flags_are : first_of (get_or words 1 0) ≡ c.flags
  flags_are = ap (λ w. first_of (get_or w 1 0)) is.laid ∙ flags_there c is.spelled

  pub this_is : second_of (get_or words 1 0) ≡ c.this_class
  this_is = ap (λ w. second_of (get_or w 1 0)) is.laid ∙ this_there c is.spelled

  pub super_is : third_of (get_or words 1 0) ≡ c.super_class
  super_is = ap (λ w. third_of (get_or w 1 0)) is.laid ∙ super_there c is.spelled

  pub interfaces_are : take (fourth_of (get_or words 1 0)) (drop (get_or words 4 0) words)
      ≡ c.interfaces
  interfaces_are = ap (λ w. take (fourth_of (get_or w 1 0)) (drop (get_or w 4 0) w)) is.laid
      ∙ interfaces_laid c is.spelled

  pub fields_are : members_in words (word_bytes words) (second_of (get_or words 2 0))
      (drop (get_or words 5 0) words) ≡ c.fields
  fields_are = ap (λ w. members_in w (word_bytes w) (second_of (get_or w 2 0))
      (drop (get_or w 5 0) w)) is.laid ∙ fields_laid c is.spelled

  pub methods_are : members_in words (word_bytes words) (third_of (get_or words 2 0))
      (drop (get_or words 5 0 + 2 * second_of (get_or words 2 0)) words) ≡ c.methods
  methods_are = ap (λ w. members_in w (word_bytes w) (third_of (get_or w 2 0))
      (drop (get_or w 5 0 + 2 * second_of (get_or w 2 0)) w)) is.laid ∙ methods_laid c is.spelled

  pub own_are : attributes_in (word_bytes words) (fourth_of (get_or words 2 0))
      (drop (get_or words 7 0 - 2 * fourth_of (get_or words 2 0)) words) ≡ c.attributes
  own_are = ap (λ w. attributes_in (word_bytes w) (fourth_of (get_or w 2 0))
      (drop (get_or w 7 0 - 2 * fourth_of (get_or w 2 0)) w)) is.laid ∙ own_laid c is.spelled

  pub tags_are : 0 ∷ tags_from false (take (first_of (get_or words 2 0) - 1) (drop 9 words))
      ≡ tags_of c
  tags_are = ap (λ w. 0 ∷ tags_from false (take (first_of (get_or w 2 0) - 1) (drop 9 w))) is.laid
      ∙ tags_laid c is.spelled

  pub constant_at : (index : ℕ)
      → constant_there words (word_bytes words) (get_or (tags_of c) index 0) index
      ≡ constant_named c index
  constant_at index =
      ap (λ w. constant_there w (word_bytes w) (get_or (tags_of c) index 0) index) is.laid
      ∙ constant_is c is.spelled (lay_short c words is) index

-- ---- the same for what is kept of a class

module _ (c : ClassFile) (words bytes tags : List ℕ) (laid : IsLaid words bytes tags)
    (same : laid_class words ≡ c) where
  its_record : IsRecordOf c words
  its_record = subst (λ d. IsRecordOf d words) same laid.record_of

  pub its_flags : first_of (get_or words 1 0) ≡ c.flags
  its_flags = flags_are c words its_record

  pub its_this : second_of (get_or words 1 0) ≡ c.this_class
  its_this = this_is c words its_record

  pub its_super : third_of (get_or words 1 0) ≡ c.super_class
  its_super = super_is c words its_record

  pub its_count : first_of (get_or words 2 0) - 1 ≡ length c.slots
  its_count = omega (
    arith,
    ap (λ w. first_of (get_or w 2 0)) its_record.laid,
    count_there c its_record.spelled,
  )

  pub its_interfaces : take (fourth_of (get_or words 1 0)) (drop (get_or words 4 0) words)
      ≡ c.interfaces
  its_interfaces = interfaces_are c words its_record

  pub its_fields : members_in words bytes (second_of (get_or words 2 0))
      (drop (get_or words 5 0) words) ≡ c.fields
  its_fields = ap (λ b. members_in words b (second_of (get_or words 2 0))
      (drop (get_or words 5 0) words)) laid.bytes_are ∙ fields_are c words its_record

  pub its_methods : members_in words bytes (third_of (get_or words 2 0))
      (drop (get_or words 5 0 + 2 * second_of (get_or words 2 0)) words) ≡ c.methods
  its_methods = ap (λ b. members_in words b (third_of (get_or words 2 0))
      (drop (get_or words 5 0 + 2 * second_of (get_or words 2 0)) words)) laid.bytes_are
      ∙ methods_are c words its_record

  pub its_attributes : attributes_in bytes (fourth_of (get_or words 2 0))
      (drop (get_or words 7 0 - 2 * fourth_of (get_or words 2 0)) words) ≡ c.attributes
  its_attributes = ap (λ b. attributes_in b (fourth_of (get_or words 2 0))
      (drop (get_or words 7 0 - 2 * fourth_of (get_or words 2 0)) words)) laid.bytes_are
      ∙ own_are c words its_record

  pub its_constant : (index : ℕ)
      → constant_there words bytes (get_or (tags_of c) index 0) index ≡ constant_named c index
  its_constant index =
      ap (λ b. constant_there words b (get_or (tags_of c) index 0) index) laid.bytes_are
      ∙ constant_at c words its_record index

  pub its_texts : (len : ℕ) → len ≡ 8 * length (utf8_runs c.slots)
      → count_characters (take len (drop (8 * get_or words 7 0) bytes))
      ≡ count_characters (texts c.slots)
  its_texts len size =
      let at : get_or words 7 0 ≡ runs_at c =
      ap (λ w. get_or w 7 0) its_record.laid ∙ word_7 c in
      let behind = field_runs c its_record.spelled in
      let there : drop (get_or words 7 0) words ≡ utf8_runs c.slots ++ behind =
      (λ i. drop (at i) (its_record.laid i)) ∙ runs_there c its_record.spelled in
      ap (λ b. count_characters (take len (drop (8 * get_or words 7 0) b))) laid.bytes_are
      ∙ texts_there c its_record.spelled.slots words behind (get_or words 7 0) len there size

  pub members_near : get_or words 5 0 ≤ limit
  members_near =
      let head : get_or words 5 0 ≡ members_at c =
      ap (λ w. get_or w 5 0) its_record.laid ∙ word_5 c in
      omega (arith, head, lay_len c its_record.spelled, lay_short c words its_record)

  -- if there is no constant at an index
  pub its_none : (index tag : ℕ) → tag ≡ get_or (tags_of c) index 0 → None ≡ tag_of tag
      → None ≡ constant_named c index
  its_none index tag there none =
      ap (option_map (constant_of bytes (get_or words (8 + index) 0) (get_or words (9 + index) 0)))
      (none ∙ ap tag_of there) ∙ its_constant index

  -- if there is a constant at an index
  pub its_some : (index tag word next : ℕ) (kind : Kind) → tag ≡ get_or (tags_of c) index 0
      → Some kind ≡ tag_of tag → word ≡ get_or words (8 + index) 0
      → next ≡ get_or words (9 + index) 0
      → Some (constant_of bytes word next kind) ≡ constant_named c index
  its_some index tag word next kind there some one two =
      (λ i. option_map (constant_of bytes (one i) (two i)) ((some ∙ ap tag_of there) i))
      ∙ its_constant index

  -- the bytes of a Utf8
  pub its_utf8 : (index tag word : ℕ) → tag ≡ get_or (tags_of c) index 0 → tag ≡ 1
      → word ≡ get_or words (8 + index) 0
      → run_bytes bytes (upper_of word) (second_of word) ≡ utf8 c index
  its_utf8 index tag word there one here =
      let some : Some kinds.Utf8 ≡ tag_of tag = ap tag_of (sym one) in
      ap (λ o. option_map_or utf8_in o [])
      (its_some index tag word (get_or words (9 + index) 0) kinds.Utf8 there some here refl)

  -- the indexes of a NameAndType
  pub its_pair : (index tag word : ℕ) → tag ≡ get_or (tags_of c) index 0 → tag ≡ 12
      → word ≡ get_or words (8 + index) 0
      → Some (constant.NameAndType (third_of word) (fourth_of word)) ≡ constant_named c index
  its_pair index tag word there twelve here =
      let some : Some kinds.NameAndType ≡ tag_of tag = ap tag_of (sym twelve) in
      its_some index tag word (get_or words (9 + index) 0) kinds.NameAndType there some here refl

-- another constant has no Utf8 bytes
no_bytes : (o : Option ClassConstant) → (tag_named o ≡ 1 → ⊥) → [] ≡ option_map_or utf8_in o []
no_bytes None h = refl
no_bytes (Some (constant.Utf8 text)) h = absurd (h refl)
no_bytes (Some (constant.Integer bits)) h = refl
no_bytes (Some (constant.Float bits)) h = refl
no_bytes (Some (constant.Long bits)) h = refl
no_bytes (Some (constant.Double bits)) h = refl
no_bytes (Some (constant.Class name)) h = refl
no_bytes (Some (constant.String text)) h = refl
no_bytes (Some (constant.Fieldref a b)) h = refl
no_bytes (Some (constant.Methodref a b)) h = refl
no_bytes (Some (constant.InterfaceMethodref a b)) h = refl
no_bytes (Some (constant.NameAndType a b)) h = refl
no_bytes (Some (constant.MethodHandle a b)) h = refl
no_bytes (Some (constant.MethodType descriptor)) h = refl
no_bytes (Some (constant.InvokeDynamic a b)) h = refl

pub no_utf8 : (c : ClassFile) (index tag : ℕ) → tag ≡ get_or (tags_of c) index 0
    → (tag ≡ 1 → ⊥) → [] ≡ utf8 c index
no_utf8 c index tag there other =
    no_bytes (constant_named c index) (λ one. other (there ∙ (tag_at_index c index ∙ one)))

-- another constant has no indexes of a NameAndType
no_indexes : (o : Option ClassConstant) → (tag_named o ≡ 12 → ⊥)
    → (0 ≡ option_map_or name_index o 0) × (0 ≡ option_map_or descriptor_index o 0)
no_indexes None h = (refl, refl)
no_indexes (Some (constant.Utf8 text)) h = (refl, refl)
no_indexes (Some (constant.Integer bits)) h = (refl, refl)
no_indexes (Some (constant.Float bits)) h = (refl, refl)
no_indexes (Some (constant.Long bits)) h = (refl, refl)
no_indexes (Some (constant.Double bits)) h = (refl, refl)
no_indexes (Some (constant.Class name)) h = (refl, refl)
no_indexes (Some (constant.String text)) h = (refl, refl)
no_indexes (Some (constant.Fieldref a b)) h = (refl, refl)
no_indexes (Some (constant.Methodref a b)) h = (refl, refl)
no_indexes (Some (constant.InterfaceMethodref a b)) h = (refl, refl)
no_indexes (Some (constant.NameAndType a b)) h = absurd (h refl)
no_indexes (Some (constant.MethodHandle a b)) h = (refl, refl)
no_indexes (Some (constant.MethodType descriptor)) h = (refl, refl)
no_indexes (Some (constant.InvokeDynamic a b)) h = (refl, refl)

pub no_pair : (c : ClassFile) (index tag : ℕ) → tag ≡ get_or (tags_of c) index 0
    → (tag ≡ 12 → ⊥) → (0 ≡ name_index_at c index) × (0 ≡ descriptor_index_at c index)
no_pair c index tag there other =
    no_indexes (constant_named c index) (λ same. other (there ∙ (tag_at_index c index ∙ same)))

-- what is required of a Utf8 alone
of_a_utf8 : (test : ClassConstant → Bool) (form : List ℕ → Bool)
    → ((text : List ℕ) → test (constant.Utf8 text) ≡ form text)
    → (o : Option ClassConstant) → tag_named o ≡ 1
    → form (option_map_or utf8_in o []) ≡ option_map_or test o true
of_a_utf8 test form h None e = absurd (omega arith)
of_a_utf8 test form h (Some (constant.Utf8 text)) e = sym (h text)
of_a_utf8 test form h (Some (constant.Integer bits)) e = absurd (omega arith)
of_a_utf8 test form h (Some (constant.Float bits)) e = absurd (omega arith)
of_a_utf8 test form h (Some (constant.Long bits)) e = absurd (omega arith)
of_a_utf8 test form h (Some (constant.Double bits)) e = absurd (omega arith)
of_a_utf8 test form h (Some (constant.Class name)) e = absurd (omega arith)
of_a_utf8 test form h (Some (constant.String text)) e = absurd (omega arith)
of_a_utf8 test form h (Some (constant.Fieldref a b)) e = absurd (omega arith)
of_a_utf8 test form h (Some (constant.Methodref a b)) e = absurd (omega arith)
of_a_utf8 test form h (Some (constant.InterfaceMethodref a b)) e = absurd (omega arith)
of_a_utf8 test form h (Some (constant.NameAndType a b)) e = absurd (omega arith)
of_a_utf8 test form h (Some (constant.MethodHandle a b)) e = absurd (omega arith)
of_a_utf8 test form h (Some (constant.MethodType descriptor)) e = absurd (omega arith)
of_a_utf8 test form h (Some (constant.InvokeDynamic a b)) e = absurd (omega arith)

pub utf8_test : (test : ClassConstant → Bool) (form : List ℕ → Bool)
    → ((text : List ℕ) → test (constant.Utf8 text) ≡ form text)
    → (c : ClassFile) (index tag : ℕ) → tag ≡ get_or (tags_of c) index 0 → tag ≡ 1
    → form (utf8 c index) ≡ option_map_or test (constant_named c index) true
utf8_test test form h c index tag there one =
    of_a_utf8 test form h (constant_named c index)
    (sym (tag_at_index c index) ∙ (sym there ∙ one))
