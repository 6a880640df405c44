-- Reading a class from the words of a record, as a function of lists: what is read, and what is
-- left; `None` if the words are no record. How reading relates to layouts is proved on top of it,
-- in the law of this crate and in `Record::read`.
use Rattle.std.specs.Prelude.{◌≡◌, ℕ, zero, suc, ◌+◌, ◌-◌, ◌*◌, ◌/◌, ◌%◌, ◌^◌, Bool, true, false}
use Rattle.std.specs.Prelude.{List, [], ◌∷◌, ◌++◌, length, take, drop, get_or, Option, Some, None}
use Rattle.std.specs.Prelude.{Result, Ok, Err, nat_lt, nat_le, ◌==◌, ◌&&◌}
use Rattle.std.specs.List.{flat_map}
use Rattle.cm_class.specs.declared.constant.Constant.TheVariants as constant
use Rattle.cm_class.specs.declared.constant.Slot.{Slot}
use Rattle.cm_class.specs.declared.constant.Slot.TheVariants.{Usable, Unusable}
use Rattle.cm_class.specs.declared.class_file.Attribute.{Attribute}
use Rattle.cm_class.specs.declared.class_file.Member.{Member}
use Rattle.cm_class.specs.declared.class_file.ClassFile.{ClassFile}
use Rattle.cm_class.specs.declared.kind.Kind.{Kind}
use Rattle.cm_class.specs.declared.kind.Kind.TheVariants as kinds
use Rattle.cm_class.specs.Spelling.{is_wide, heading, u2, slot_bytes, constant_bytes}
use Rattle.cm_class.specs.Spelling.{ClassConstant, attribute_bytes, member_bytes, counted, spell}
use Rattle.cm_class.specs.Reading.{tag_of}
use Rattle.cm_record_reading.specs.declared.entry.DirectoryEntry.{DirectoryEntry}
use Rattle.cm_record_reading.specs.declared.entry.DirectoryEntry.TheVariants as entry
use Rattle.cm_record_reading.specs.declared.fault.RecordFault.{RecordFault}
use Rattle.cm_record_reading.specs.declared.fault.RecordFault.TheVariants.{NotARecord, NoMemory}
use Rattle.cm_record_layout.specs.Layout.{whole_word, head_total, head_class, head_counts}
use Rattle.cm_record_layout.specs.Layout.{head_directory_at, head_interfaces_at, head_members_at}
use Rattle.cm_record_layout.specs.Layout.{head_attributes_at, head_runs_at}
use Rattle.cm_record_layout.specs.Packing.{word_from, bytes_of, run_words, four_numbers, first_of}
use Rattle.cm_record_layout.specs.Packing.{second_of, third_of, fourth_of, upper_of}

infixl 10 ◌>>=◌
abbrev pub ◌>>=◌ : {A B : Type 0} → Option A → (A → Option B) → Option B
None >>= f = None
(Some x) >>= f = f x

-- What a function returned, seen by view, is what reading gives, unless an allocation failed.
abbrev pub Fails : {Y : Type 0} → RecordFault → Option Y → Type 0
Fails NoMemory read = Unit {0}
Fails NotARecord read = read ≡ None

abbrev pub Gives : {X Y : Type 0} → (X → Y) → Result X RecordFault → Option Y → Type 0
Gives view (Ok x) read = read ≡ Some (view x)
Gives view (Err e) read = Fails e read

-- continues if the test holds
abbrev pub only_if : {A : Type 0} → Bool → Option A → Option A
only_if true go_on = go_on
only_if false go_on = None

-- ---- runs

-- `count` bytes of one word, which has only zeros after them; at most eight
abbrev pub front_of : ℕ → ℕ → Option (List ℕ)
front_of count word =
    only_if (word_from (take count (bytes_of word)) == word) (Some (take count (bytes_of word)))

-- `count` bytes from this many words
unfoldable pub run_from : ℕ → ℕ → List ℕ → Option (List ℕ × List ℕ)
run_from zero count words = Some ([], words)
run_from (suc n) count [] = None
run_from (suc n) count (word ∷ words) = do
  front ← front_of count word
  others ← run_from n (count - 8) words
  Some (front ++ others.0, others.1)

-- a run of `count` bytes
abbrev pub run_at : ℕ → List ℕ → Option (List ℕ × List ℕ)
run_at count words = run_from (run_words count) count words

-- ---- the constant pool

-- what a directory word of this kind denotes
abbrev pub entry_of_kind : Kind → ℕ → DirectoryEntry
entry_of_kind kinds.Utf8 word = entry.Utf8 (second_of word)
entry_of_kind kinds.Integer word = entry.Whole (constant.Integer (upper_of word))
entry_of_kind kinds.Float word = entry.Whole (constant.Float (upper_of word))
entry_of_kind kinds.Long word = entry.Long
entry_of_kind kinds.Double word = entry.Double
entry_of_kind kinds.Class word = entry.Whole (constant.Class (third_of word))
entry_of_kind kinds.String word = entry.Whole (constant.String (third_of word))
entry_of_kind kinds.Fieldref word = entry.Whole (constant.Fieldref (third_of word) (fourth_of word))
entry_of_kind kinds.Methodref word =
    entry.Whole (constant.Methodref (third_of word) (fourth_of word))
entry_of_kind kinds.InterfaceMethodref word =
    entry.Whole (constant.InterfaceMethodref (third_of word) (fourth_of word))
entry_of_kind kinds.NameAndType word =
    entry.Whole (constant.NameAndType (third_of word) (fourth_of word))
entry_of_kind kinds.MethodHandle word =
    entry.Whole (constant.MethodHandle (word / 2 ^ 32 % 2 ^ 8) (fourth_of word))
entry_of_kind kinds.MethodType word = entry.Whole (constant.MethodType (third_of word))
entry_of_kind kinds.InvokeDynamic word =
    entry.Whole (constant.InvokeDynamic (third_of word) (fourth_of word))

-- what a directory word may denote, by its tag
unfoldable pub candidate : ℕ → Option DirectoryEntry
candidate word = do
  kind ← tag_of (first_of word)
  Some (entry_of_kind kind word)

-- the directory word of an entry whose run would begin at `at`
abbrev pub entry_word : ℕ → DirectoryEntry → ℕ
entry_word at (entry.Utf8 count) = 1 + 2 ^ 16 * count + 2 ^ 32 * at
entry_word at entry.Long = 5
entry_word at entry.Double = 6
entry_word at (entry.Whole c) = whole_word c

-- what a directory word denotes, if its run would begin at `at`
unfoldable pub entry_of : ℕ → ℕ → Option DirectoryEntry
entry_of at word = do
  e ← candidate word
  only_if (entry_word at e == word) (Some e)

-- the number of a Long or a Double, which has a word of its own
abbrev pub wide_from : (ℕ → ClassConstant) → List ℕ → List ℕ
    → Option (ClassConstant × List ℕ × List ℕ)
wide_from make [] runs = None
wide_from make (bits ∷ main) runs = only_if (nat_lt bits (2 ^ 64)) (Some (make bits, main, runs))

abbrev pub constant_from : DirectoryEntry → List ℕ → List ℕ
    → Option (ClassConstant × List ℕ × List ℕ)
constant_from (entry.Utf8 count) main runs = do
  text ← run_at count runs
  Some (constant.Utf8 text.0, main, text.1)
constant_from entry.Long main runs = wide_from constant.Long main runs
constant_from entry.Double main runs = wide_from constant.Double main runs
constant_from (entry.Whole c) main runs = Some (c, main, runs)

-- A constant, from the directory and the runs: what is left of each says where in the record, which
-- has `total` words, it begins.
unfoldable pub constant_at : ℕ → List ℕ → List ℕ → Option (ClassConstant × List ℕ × List ℕ)
constant_at total [] runs = None
constant_at total (word ∷ main) runs = do
  e ← entry_of (total - length runs) word
  constant_from e main runs

-- this many slots, the first of which may be the second slot of a wide constant
unfoldable pub slots_at : ℕ → Bool → ℕ → List ℕ → List ℕ → Option (List Slot × List ℕ × List ℕ)
slots_at total true zero main runs = None
slots_at total false zero main runs = Some ([], main, runs)
slots_at total true (suc n) main runs = do
  others ← slots_at total false n main runs
  Some (Unusable ∷ others.0, others.1, others.2)
slots_at total false (suc n) main runs = do
  c ← constant_at total main runs
  others ← slots_at total (is_wide c.0) n c.1 c.2
  Some (Usable c.0 ∷ others.0, others.1, others.2)

-- ---- interfaces, attributes and members

-- this many interfaces
unfoldable pub interfaces_from : ℕ → List ℕ → Option (List ℕ × List ℕ)
interfaces_from zero main = Some ([], main)
interfaces_from (suc n) [] = None
interfaces_from (suc n) (word ∷ main) = only_if (nat_lt word (2 ^ 16)) (do
  others ← interfaces_from n main
  Some (word ∷ others.0, others.1))

abbrev pub attribute_word : ℕ → ℕ → ℕ
attribute_word name count = name + 2 ^ 32 * count

-- an attribute, from the attributes and the runs
unfoldable pub attribute_at : ℕ → List ℕ → List ℕ → Option (Attribute × List ℕ × List ℕ)
attribute_at total (word ∷ at ∷ rest) runs =
    only_if (attribute_word (first_of word) (upper_of word) == word)
    (only_if (at == total - length runs) (do
      run ← run_at (upper_of word) runs
      Some (record { name = first_of word; bytes = run.0 }, rest, run.1)))
attribute_at total _ runs = None

-- this many attributes
unfoldable pub attributes_from : ℕ → ℕ → List ℕ → List ℕ → Option (List Attribute × List ℕ × List ℕ)
attributes_from total zero attrs runs = Some ([], attrs, runs)
attributes_from total (suc n) attrs runs = do
  a ← attribute_at total attrs runs
  others ← attributes_from total n a.1 a.2
  Some (a.0 ∷ others.0, others.1, others.2)

-- a member, from the members, the attributes and the runs
unfoldable pub member_at : ℕ → List ℕ → List ℕ → List ℕ → Option (Member × List ℕ × List ℕ × List ℕ)
member_at total (word ∷ at ∷ main) attrs runs =
    only_if (four_numbers (first_of word) (second_of word) (third_of word) (fourth_of word) == word)
    (only_if (at == total - length attrs) (do
      own ← attributes_from total (fourth_of word) attrs runs
      Some (
        record {
          flags = first_of word;
          name = second_of word;
          descriptor = third_of word;
          attributes = own.0;
        },
        main,
        own.1,
        own.2,
      )))
member_at total _ attrs runs = None

-- this many members
unfoldable pub members_from : ℕ → ℕ → List ℕ → List ℕ → List ℕ → Option (List Member × List ℕ
    × List ℕ × List ℕ)
members_from total zero main attrs runs = Some ([], main, attrs, runs)
members_from total (suc n) main attrs runs = do
  m ← member_at total main attrs runs
  others ← members_from total n m.1 m.2 m.3
  Some (m.0 ∷ others.0, others.1, others.2, others.3)

-- ---- the whole record

-- how many fields and methods there are
abbrev pub member_count : List ℕ → ℕ
member_count words = second_of (head_counts words) + third_of (head_counts words)

-- the head and slot 0 are there, and the head's total is the number of words
abbrev pub is_counted : List ℕ → Bool
is_counted words = nat_le 9 (length words) && head_total words == length words

-- the directory begins after the head, with its slot 0
abbrev pub has_directory : List ℕ → Bool
has_directory words =
    head_directory_at words == 8 && get_or words 8 0 == 0
    && nat_le 1 (first_of (head_counts words))

-- each next section begins where the one before it ends, as far as the counts determine it
abbrev pub sections_follow : List ℕ → Bool
sections_follow words =
    head_interfaces_at words == 8 + first_of (head_counts words)
    && head_members_at words == head_interfaces_at words + fourth_of (head_class words)
    && head_attributes_at words == head_members_at words + 2 * member_count words

-- the last sections begin within the record
abbrev pub sections_lie_within : List ℕ → Bool
sections_lie_within words =
    nat_le (head_attributes_at words) (length words)
    && nat_le (head_runs_at words) (length words)

-- the numbers in the first words, and where the sections begin, fit together
abbrev pub head_is_right : List ℕ → Bool
head_is_right words =
    is_counted words && has_directory words && sections_follow words
    && sections_lie_within words

-- each section ended where the next begins
abbrev pub sections_end : List ℕ → List ℕ → List ℕ → List ℕ → Bool
sections_end words main attrs runs =
    length main + head_attributes_at words == length words
    && length attrs + head_runs_at words == length words
    && length runs == 0

-- the slots of the pool and the interfaces, and what is left after them
unfoldable pub pool_from : ℕ → ℕ → ℕ → List ℕ → List ℕ → Option (List Slot × List ℕ × List ℕ
    × List ℕ)
pool_from total count interfaces main runs = do
  slots ← slots_at total false count main runs
  those ← interfaces_from interfaces slots.1
  Some (slots.0, those.0, those.1, slots.2)

-- the fields, the methods and the class's own attributes, and what is left after them
unfoldable pub body_from : ℕ → ℕ → ℕ → ℕ → List ℕ → List ℕ → List ℕ → Option (List Member
    × List Member × List Attribute × List ℕ × List ℕ × List ℕ)
body_from total fields methods own main attrs runs = do
  f ← members_from total fields main attrs runs
  m ← members_from total methods f.1 f.2 f.3
  a ← attributes_from total own m.2 m.3
  Some (f.0, m.0, a.0, m.1, a.1, a.2)

-- the pool and the interfaces, read from where the head says that they are
abbrev pub pool_of : List ℕ → Option (List Slot × List ℕ × List ℕ × List ℕ)
pool_of words =
    pool_from (length words) (first_of (head_counts words) - 1) (fourth_of (head_class words))
    (drop 9 words) (drop (head_runs_at words) words)

-- the body after them, read from what they leave
abbrev pub body_of : List ℕ → List ℕ → List ℕ → Option (List Member × List Member
    × List Attribute × List ℕ × List ℕ × List ℕ)
body_of words main runs =
    body_from (length words)
    (second_of (head_counts words)) (third_of (head_counts words)) (fourth_of (head_counts words))
    main (drop (head_attributes_at words) words) runs

unfoldable pub class_at : List ℕ → Option ClassFile
class_at words = only_if (head_is_right words) (do
  pool ← pool_of words
  body ← body_of words pool.2 pool.3
  only_if (sections_end words body.3 body.4 body.5) (Some (record {
    slots = pool.0;
    flags = first_of (head_class words);
    this_class = second_of (head_class words);
    super_class = third_of (head_class words);
    interfaces = pool.1;
    fields = body.0;
    methods = body.1;
    attributes = body.2;
  })))

-- ---- what was read earlier, before the result of reading the remaining words

abbrev pub with_front : {A B : Type 0} → List A → Option (List A × B) → Option (List A × B)
with_front front None = None
with_front front (Some read) = Some (front ++ read.0, read.1)

-- ---- what a buffer holds once the spelling of what is read is appended to it

abbrev pub appended : {A B : Type 0} → List ℕ → (A → List ℕ) → Option (A × B) → Option (List ℕ × B)
appended front spelled None = None
appended front spelled (Some read) = Some (front ++ spelled read.0, read.1)

abbrev pub behind3 : {A B C : Type 0} → List ℕ → (A → List ℕ) → Option (A × B × C)
    → Option (List ℕ × B × C)
behind3 front spelled None = None
behind3 front spelled (Some read) = Some (front ++ spelled read.0, read.1, read.2)

abbrev pub behind4 : {A B C D : Type 0} → List ℕ → (A → List ℕ) → Option (A × B × C × D)
    → Option (List ℕ × B × C × D)
behind4 front spelled None = None
behind4 front spelled (Some read) = Some (front ++ spelled read.0, read.1, read.2, read.3)

abbrev pub utf8_bytes : List ℕ → List ℕ
utf8_bytes bytes = constant_bytes (constant.Utf8 bytes)

-- the same for a constant, and whether it is wide
abbrev pub constant_behind : List ℕ → Option (ClassConstant × List ℕ × List ℕ)
    → Option (List ℕ × Bool × List ℕ × List ℕ)
constant_behind front None = None
constant_behind front (Some read) =
    Some (front ++ constant_bytes read.0, is_wide read.0, read.1, read.2)

-- the bytes of an attribute of this name
abbrev pub content_bytes : ℕ → List ℕ → List ℕ
content_bytes name bytes = attribute_bytes (record { name = name; bytes = bytes })

-- the bytes of a class file up to its interfaces; the numbers before them are from the head of a
-- record
abbrev pub pool_bytes : List ℕ → List Slot → List ℕ → List ℕ
pool_bytes words slots interfaces =
    heading ++ u2 (length slots + 1) ++ flat_map slot_bytes slots
    ++ u2 (first_of (head_class words)) ++ u2 (second_of (head_class words))
    ++ u2 (third_of (head_class words)) ++ counted u2 interfaces

abbrev pub pool_behind : List ℕ → List ℕ → Option (List Slot × List ℕ × List ℕ × List ℕ)
    → Option (List ℕ × List ℕ × List ℕ)
pool_behind front words None = None
pool_behind front words (Some read) =
    Some (front ++ pool_bytes words read.0 read.1, read.2, read.3)

abbrev pub body_behind : List ℕ → Option (List Member × List Member × List Attribute × List ℕ
    × List ℕ × List ℕ) → Option (List ℕ × List ℕ × List ℕ × List ℕ)
body_behind front None = None
body_behind front (Some read) =
    Some (
      front ++ counted member_bytes read.0 ++ counted member_bytes read.1
          ++ counted attribute_bytes read.2,
      read.3,
      read.4,
      read.5,
    )

abbrev pub class_behind : List ℕ → Option ClassFile → Option (List ℕ)
class_behind front None = None
class_behind front (Some c) = Some (front ++ spell c)

-- ---- what is left, if nothing is kept of what is read

abbrev pub left1 : {A B : Type 0} → Option (A × B) → Option B
left1 None = None
left1 (Some read) = Some read.1

abbrev pub left2 : {A B C : Type 0} → Option (A × B × C) → Option (B × C)
left2 None = None
left2 (Some read) = Some (read.1, read.2)

abbrev pub left3 : {A B C D : Type 0} → Option (A × B × C × D) → Option (B × C × D)
left3 None = None
left3 (Some read) = Some (read.1, read.2, read.3)

-- what is left after a pool, and after a body
abbrev pub pool_left : Option (List Slot × List ℕ × List ℕ × List ℕ) → Option (List ℕ × List ℕ)
pool_left None = None
pool_left (Some read) = Some (read.2, read.3)

abbrev pub body_left : Option (List Member × List Member × List Attribute × List ℕ × List ℕ
    × List ℕ) → Option (List ℕ × List ℕ × List ℕ)
body_left None = None
body_left (Some read) = Some (read.3, read.4, read.5)

-- whether a constant is wide, and what is left
abbrev pub width_left : Option (ClassConstant × List ℕ × List ℕ) → Option (Bool × List ℕ × List ℕ)
width_left None = None
width_left (Some read) = Some (is_wide read.0, read.1, read.2)

-- What a function returned, seen by view, is what is left.
abbrev pub LeavesRest : {X Y : Type 0} → (X → Y) → Option X → Option Y → Type 0
LeavesRest view (Some x) left = left ≡ Some (view x)
LeavesRest view None left = left ≡ None
