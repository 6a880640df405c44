-- How many words the sections have.
-- On `attribute_runs`, `member_attributes`, `all_attributes`, for crates above.
use Rattle.std.proofs.Common.{◌≡◌, ◌+◌, ◌*◌, ◌^◌, ℕ, suc, List, [], ◌∷◌, ◌++◌, length, refl, sym}
use Rattle.std.proofs.Common.{◌∙◌, ap, arith, length-append, append_assoc}
use Rattle.std.proofs.Common.{Bool, true, false, cond}
use Rattle.cm_class.specs.declared.constant.Constant.TheVariants as constant
use Rattle.cm_class.specs.declared.constant.Slot.{Slot}
use Rattle.cm_class.specs.declared.constant.Slot.TheVariants.{Usable, Unusable}
use Rattle.cm_class.specs.Spelling.{ClassConstant, is_wide, SlotsFit, HasSpelling}
use Rattle.cm_class.specs.declared.class_file.Attribute.{Attribute}
use Rattle.cm_class.specs.declared.class_file.Member.{Member}
use Rattle.cm_class.specs.declared.class_file.ClassFile.{ClassFile}
use Rattle.cm_record_layout.specs.Packing.{four_numbers}
use Rattle.cm_record_layout.specs.Layout.{constant_words, constant_run, directory, head, lay}
use Rattle.cm_record_layout.specs.Layout.{attributes_at, runs_at, attribute_runs_at, members}
use Rattle.cm_record_layout.specs.Layout.{member_attributes, attributes, attribute_run}
use Rattle.cm_record_layout.specs.Layout.{attribute_runs, utf8_runs, all_members, all_attributes}
use Rattle.cm_record_layout.specs.Layout.{record_len}

pub attribute_runs_append : (xs ys : List Attribute)
    → attribute_runs (xs ++ ys) ≡ attribute_runs xs ++ attribute_runs ys
attribute_runs_append [] ys = refl
attribute_runs_append (x ∷ xs) ys = ap
    (λ w. attribute_run x ++ w) (attribute_runs_append xs ys)
    ∙ sym (append_assoc (attribute_run x) (attribute_runs xs) (attribute_runs ys))

-- how many attributes the class has in all
pub all_attributes_len : (c : ClassFile)
    → length (all_attributes c) ≡ length (member_attributes c.fields)
    + length (member_attributes c.methods) + length c.attributes
all_attributes_len c =
    omega (
      arith,
      length-append (member_attributes c.fields ++ member_attributes c.methods)
          c.attributes,
      length-append (member_attributes c.fields) (member_attributes c.methods),
    )

-- the runs of all attributes
pub all_runs : (c : ClassFile)
    → attribute_runs (all_attributes c) ≡ attribute_runs (member_attributes c.fields)
    ++ attribute_runs (member_attributes c.methods) ++ attribute_runs c.attributes
all_runs c =
    attribute_runs_append (member_attributes c.fields ++ member_attributes c.methods) c.attributes
    ∙ ap (λ w. w ++ attribute_runs c.attributes)
    (attribute_runs_append (member_attributes c.fields) (member_attributes c.methods))

pub all_runs_len : (c : ClassFile)
    → length (attribute_runs (all_attributes c))
    ≡ length (attribute_runs (member_attributes c.fields))
    + length (attribute_runs (member_attributes c.methods)) + length (attribute_runs c.attributes)
all_runs_len c = ap length (all_runs c) ∙ omega (
  arith,
  length-append (attribute_runs (member_attributes c.fields)
      ++ attribute_runs (member_attributes c.methods)) (attribute_runs c.attributes),
  length-append (attribute_runs (member_attributes c.fields))
      (attribute_runs (member_attributes c.methods)),
)

pub all_members_len : (c : ClassFile) → length (all_members c) ≡ length c.fields + length c.methods
all_members_len c = length-append c.fields c.methods

pub attributes_append : (at : ℕ) (xs ys : List Attribute)
    → attributes at (xs ++ ys) ≡ attributes at xs ++ attributes (at + length (attribute_runs xs)) ys
attributes_append at [] ys = ap (λ n. attributes n ys) (omega arith)
attributes_append at (x ∷ xs) ys =
    let same : at + length (attribute_run x) + length (attribute_runs xs)
    ≡ at + length (attribute_run x ++ attribute_runs xs) =
    omega (arith, length-append (attribute_run x) (attribute_runs xs)) in
    ap (λ w. (x.name + 2 ^ 32 * length x.bytes) ∷ at ∷ w)
    (attributes_append (at + length (attribute_run x)) xs ys ∙ ap
    (λ n. attributes (at + length (attribute_run x)) xs ++ attributes n ys) same)

pub members_append : (at : ℕ) (xs ys : List Member)
    → members at (xs ++ ys) ≡ members at xs ++ members (at + 2 * length (member_attributes xs)) ys
members_append at [] ys = ap (λ n. members n ys) (omega arith)
members_append at (x ∷ xs) ys =
    let same : at + 2 * length x.attributes + 2 * length (member_attributes xs)
    ≡ at + 2 * length (x.attributes ++ member_attributes xs) =
    omega (arith, length-append x.attributes (member_attributes xs)) in
    ap (λ w. four_numbers x.flags x.name x.descriptor (length x.attributes) ∷ at ∷ w)
    (members_append (at + 2 * length x.attributes) xs ys ∙ ap
    (λ n. members (at + 2 * length x.attributes) xs ++ members n ys) same)

-- one more slot
slot_more : (wide : Bool) (n words rest all : ℕ) → words ≡ cond wide 2 1
    → rest + cond wide 1 0 ≡ n → all ≡ words + rest → all + 0 ≡ suc n
slot_more true n words rest all ew er ea = omega arith
slot_more false n words rest all ew er ea = omega arith

constant_words_len : (at : ℕ) (c : ClassConstant)
    → length (constant_words at c) ≡ cond (is_wide c) 2 1
constant_words_len at (constant.Utf8 bytes) = refl
constant_words_len at (constant.Integer bits) = refl
constant_words_len at (constant.Float bits) = refl
constant_words_len at (constant.Long bits) = refl
constant_words_len at (constant.Double bits) = refl
constant_words_len at (constant.Class name) = refl
constant_words_len at (constant.String utf8) = refl
constant_words_len at (constant.Fieldref class name_and_type) = refl
constant_words_len at (constant.Methodref class name_and_type) = refl
constant_words_len at (constant.InterfaceMethodref class name_and_type) = refl
constant_words_len at (constant.NameAndType name descriptor) = refl
constant_words_len at (constant.MethodHandle kind reference) = refl
constant_words_len at (constant.MethodType descriptor) = refl
constant_words_len at (constant.InvokeDynamic bootstrap_method name_and_type) = refl

-- a word for each slot, except the second slot of a wide constant before them
directory_len_from : (at : ℕ) (second : Bool) (slots : List Slot) → SlotsFit second slots
    → length (directory at slots) + cond second 1 0 ≡ length slots
directory_len_from at true [] fit = absurd fit
directory_len_from at true (Unusable ∷ slots) fit =
    omega (arith, directory_len_from at false slots fit)
directory_len_from at true (Usable c ∷ slots) fit = absurd fit
directory_len_from at false [] fit = refl
directory_len_from at false (Unusable ∷ slots) fit = absurd fit
directory_len_from at false (Usable c ∷ slots) fit =
    let more = directory_len_from (at + length (constant_run c)) (is_wide c) slots fit.1 in
    let parts =
    length-append (constant_words at c) (directory (at + length (constant_run c)) slots) in
    slot_more (is_wide c) (length slots) (length (constant_words at c))
    (length (directory (at + length (constant_run c)) slots))
    (length (directory at (Usable c ∷ slots))) (constant_words_len at c) more parts

pub directory_len : (at : ℕ) (slots : List Slot) → SlotsFit false slots
    → length (directory at slots) ≡ length slots
directory_len at slots fit = omega (arith, directory_len_from at false slots fit)

pub members_len : (at : ℕ) (these : List Member) → length (members at these) ≡ 2 * length these
members_len at [] = refl
members_len at (m ∷ rest) = omega (arith, members_len (at + 2 * length m.attributes) rest)

pub attributes_len : (at : ℕ) (these : List Attribute)
    → length (attributes at these) ≡ 2 * length these
attributes_len at [] = refl
attributes_len at (a ∷ rest) = omega (arith, attributes_len (at + length (attribute_run a)) rest)

-- the record has as many words as its first word says
pub lay_len : (c : ClassFile) → HasSpelling c → length (lay c) ≡ record_len c
unfolding lay
lay_len c spelled =
    let h = head c in
    let d = 0 ∷ directory (runs_at c) c.slots in
    let i = c.interfaces in
    let m = members (attributes_at c) (all_members c) in
    let a = attributes (attribute_runs_at c) (all_attributes c) in
    let t = utf8_runs c.slots in
    let r = attribute_runs (all_attributes c) in
    omega (
      arith,
      length-append (h ++ d ++ i ++ m ++ a ++ t) r,
      length-append (h ++ d ++ i ++ m ++ a) t,
      length-append (h ++ d ++ i ++ m) a,
      length-append (h ++ d ++ i) m,
      length-append (h ++ d) i,
      length-append h d,
      directory_len (runs_at c) c.slots spelled.slots,
      members_len (attributes_at c) (all_members c),
      attributes_len (attribute_runs_at c) (all_attributes c),
    )
