-- The record layout: the words in which a class is kept. Offsets count words from the record's
-- first word. Source: this project's own layout, docs/RECORD.md.
use Rattle.std.specs.Prelude.{◌≡◌, ◌≤◌, ℕ, ◌+◌, ◌*◌, ◌^◌, List, [], ◌∷◌, ◌++◌, length, get_or}
use Rattle.std.specs.List.{flat_map}
use Rattle.cm_class.specs.declared.constant.Constant.TheVariants as constant
use Rattle.cm_class.specs.declared.constant.Slot.{Slot}
use Rattle.cm_class.specs.declared.constant.Slot.TheVariants.{Usable, Unusable}
use Rattle.cm_class.specs.declared.class_file.Attribute.{Attribute}
use Rattle.cm_class.specs.declared.class_file.Member.{Member}
use Rattle.cm_class.specs.declared.class_file.ClassFile.{ClassFile}
use Rattle.cm_class.specs.Spelling.{ClassConstant, HasSpelling}
use Rattle.cm_record_layout.specs.Packing.{packed, four_numbers}

-- ---- the constant pool

-- a constant's run: the bytes of a Utf8
abbrev pub constant_run : ClassConstant → List ℕ
constant_run (constant.Utf8 bytes) = packed bytes
constant_run _ = []

-- A constant's words in the directory, if its run begins at `at`. A Long or a Double takes the word
-- of its second slot too.
abbrev pub constant_words : ℕ → ClassConstant → List ℕ
constant_words at (constant.Utf8 bytes) = (1 + 2 ^ 16 * length bytes + 2 ^ 32 * at) ∷ []
constant_words at (constant.Integer bits) = (3 + 2 ^ 32 * bits) ∷ []
constant_words at (constant.Float bits) = (4 + 2 ^ 32 * bits) ∷ []
constant_words at (constant.Long bits) = 5 ∷ bits ∷ []
constant_words at (constant.Double bits) = 6 ∷ bits ∷ []
constant_words at (constant.Class name) = (7 + 2 ^ 32 * name) ∷ []
constant_words at (constant.String utf8) = (8 + 2 ^ 32 * utf8) ∷ []
constant_words at (constant.Fieldref class name_and_type) =
    (9 + 2 ^ 32 * class + 2 ^ 48 * name_and_type) ∷ []
constant_words at (constant.Methodref class name_and_type) =
    (10 + 2 ^ 32 * class + 2 ^ 48 * name_and_type) ∷ []
constant_words at (constant.InterfaceMethodref class name_and_type) =
    (11 + 2 ^ 32 * class + 2 ^ 48 * name_and_type) ∷ []
constant_words at (constant.NameAndType name descriptor) =
    (12 + 2 ^ 32 * name + 2 ^ 48 * descriptor) ∷ []
constant_words at (constant.MethodHandle kind reference) =
    (15 + 2 ^ 32 * kind + 2 ^ 48 * reference) ∷ []
constant_words at (constant.MethodType descriptor) = (16 + 2 ^ 32 * descriptor) ∷ []
constant_words at (constant.InvokeDynamic bootstrap_method name_and_type) =
    (18 + 2 ^ 32 * bootstrap_method + 2 ^ 48 * name_and_type) ∷ []

-- the directory word of a constant whose words don't refer to a run
abbrev pub whole_word : ClassConstant → ℕ
whole_word (constant.Utf8 bytes) = 0
whole_word c = get_or (constant_words 0 c) 0 0

abbrev pub slot_run : Slot → List ℕ
slot_run (Usable c) = constant_run c
slot_run Unusable = []

-- the directory after slot 0; the first run begins at `at`, and each next one follows the one
-- before
abbrev pub directory : ℕ → List Slot → List ℕ
directory at [] = []
directory at (Usable c ∷ slots) =
    constant_words at c ++ directory (at + length (constant_run c)) slots
directory at (Unusable ∷ slots) = directory at slots

abbrev pub utf8_runs : List Slot → List ℕ
utf8_runs slots = flat_map slot_run slots

-- ---- members and attributes

-- two words for each member: the numbers, and where its attributes begin
abbrev pub members : ℕ → List Member → List ℕ
members at [] = []
members at (m ∷ rest) =
    four_numbers m.flags m.name m.descriptor (length m.attributes) ∷ at
    ∷ members (at + 2 * length m.attributes) rest

abbrev pub member_attributes : List Member → List Attribute
member_attributes those = flat_map (λ m. m.attributes) those

abbrev pub attribute_run : Attribute → List ℕ
attribute_run a = packed a.bytes

-- two words for each attribute: name and length, and where its run begins
abbrev pub attributes : ℕ → List Attribute → List ℕ
attributes at [] = []
attributes at (a ∷ rest) =
    (a.name + 2 ^ 32 * length a.bytes) ∷ at ∷ attributes (at + length (attribute_run a)) rest

abbrev pub attribute_runs : List Attribute → List ℕ
attribute_runs those = flat_map attribute_run those

-- ---- the whole record

-- fields, then methods
abbrev pub all_members : ClassFile → List Member
all_members c = c.fields ++ c.methods

-- the attributes of fields, then of methods, then of the class
abbrev pub all_attributes : ClassFile → List Attribute
all_attributes c = member_attributes c.fields ++ member_attributes c.methods ++ c.attributes

abbrev pub interfaces_at : ClassFile → ℕ
interfaces_at c = 8 + (length c.slots + 1)

abbrev pub members_at : ClassFile → ℕ
members_at c = interfaces_at c + length c.interfaces

abbrev pub attributes_at : ClassFile → ℕ
attributes_at c = members_at c + 2 * length (all_members c)

abbrev pub runs_at : ClassFile → ℕ
runs_at c = attributes_at c + 2 * length (all_attributes c)

abbrev pub attribute_runs_at : ClassFile → ℕ
attribute_runs_at c = runs_at c + length (utf8_runs c.slots)

-- how many words the record has
abbrev pub record_len : ClassFile → ℕ
record_len c = attribute_runs_at c + length (attribute_runs (all_attributes c))

-- The first eight words: how many words there are, the numbers and counts, and where each section
-- begins.
abbrev pub head : ClassFile → List ℕ
head c =
    record_len c
    ∷ four_numbers c.flags c.this_class c.super_class (length c.interfaces)
    ∷ four_numbers (length c.slots + 1) (length c.fields) (length c.methods) (length c.attributes)
    ∷ 8 ∷ interfaces_at c ∷ members_at c ∷ attributes_at c ∷ runs_at c ∷ []

-- the words of a head, under the names that the code uses for their places
abbrev pub head_total : List ℕ → ℕ
head_total words = get_or words 0 0

abbrev pub head_class : List ℕ → ℕ
head_class words = get_or words 1 0

abbrev pub head_counts : List ℕ → ℕ
head_counts words = get_or words 2 0

abbrev pub head_directory_at : List ℕ → ℕ
head_directory_at words = get_or words 3 0

abbrev pub head_interfaces_at : List ℕ → ℕ
head_interfaces_at words = get_or words 4 0

abbrev pub head_members_at : List ℕ → ℕ
head_members_at words = get_or words 5 0

abbrev pub head_attributes_at : List ℕ → ℕ
head_attributes_at words = get_or words 6 0

abbrev pub head_runs_at : List ℕ → ℕ
head_runs_at words = get_or words 7 0

-- After the head: the directory, whose slot 0 is 0, the interfaces, the members, the attributes,
-- and the runs, first those of the pool.
unfoldable pub lay : ClassFile → List ℕ
lay c =
    head c
    ++ (0 ∷ directory (runs_at c) c.slots)
    ++ c.interfaces
    ++ members (attributes_at c) (all_members c)
    ++ attributes (attribute_runs_at c) (all_attributes c)
    ++ utf8_runs c.slots
    ++ attribute_runs (all_attributes c)

-- a record's greatest number of words, 2^19
abbrev pub limit : ℕ
limit = 524288

-- the words are the record of this class
pub record IsRecordOf (c : ClassFile) (words : List ℕ) : Type 0 where
  pub spelled : HasSpelling c
  pub laid : words ≡ lay c
  pub short : length words ≤ limit

abbrev pub IsRecord : List ℕ → Type 0
IsRecord words = (c : ClassFile) × IsRecordOf c words
