-- A class, as determined by the words of its record, with the bytes of these words.
use Rattle.std.specs.Prelude.{◌≡◌, ℕ, zero, suc, ◌+◌, ◌*◌, List, [], ◌∷◌, take, drop, get_or, map}
use Rattle.std.specs.Prelude.{Option, option_map, unwrap_or, Bool, true, false, ◌==◌}
use Rattle.std.specs.Prelude.{◌||◌, ◌%◌, ◌^◌}
use Rattle.cm_class.specs.declared.constant.Constant.TheVariants as constant
use Rattle.cm_class.specs.declared.constant.Slot.{Slot}
use Rattle.cm_class.specs.declared.constant.Slot.TheVariants.{Usable, Unusable}
use Rattle.cm_class.specs.declared.class_file.Attribute.{Attribute}
use Rattle.cm_class.specs.declared.class_file.Member.{Member}
use Rattle.cm_class.specs.declared.class_file.ClassFile.{ClassFile}
use Rattle.cm_class.specs.declared.kind.Kind.{Kind}
use Rattle.cm_class.specs.declared.kind.Kind.TheVariants as kinds
use Rattle.cm_class.specs.Reading.{tag_of}
use Rattle.cm_class.specs.Spelling.{ClassConstant, tag}
use Rattle.cm_record_layout.specs.Layout.{IsRecordOf}
use Rattle.cm_record_layout.specs.Packing.{word_bytes, first_of, second_of, third_of, fourth_of}
use Rattle.cm_record_layout.specs.Packing.{upper_of}
use Rattle.cm_record_reading.specs.Reading.{class_at}

-- ---- the class

-- the class of words that are no record
abbrev pub no_class : ClassFile
no_class = record {
  slots = [];
  flags = 0;
  this_class = 0;
  super_class = 0;
  interfaces = [];
  fields = [];
  methods = [];
  attributes = [];
}

-- the class whose record the words are
unfoldable pub laid_class : List ℕ → ClassFile
laid_class words = unwrap_or (class_at words) no_class

-- ---- the tags of its constants

-- the tag of the constant in a slot; 0 for the second slot of a Long or a Double
abbrev pub slot_tag : Slot → ℕ
slot_tag (Usable c) = tag c
slot_tag Unusable = 0

-- the tags by the index of the pool, from 0 on
unfoldable pub tags_of : ClassFile → List ℕ
tags_of c = 0 ∷ map slot_tag c.slots

-- ---- constants

-- the bytes of a run that begins at a word
abbrev pub run_bytes : List ℕ → ℕ → ℕ → List ℕ
run_bytes bytes at len = take len (drop (8 * at) bytes)

-- what a directory word of this kind denotes, with the word after it
abbrev pub constant_of : List ℕ → ℕ → ℕ → Kind → ClassConstant
constant_of bytes word next kinds.Utf8 =
    constant.Utf8 (run_bytes bytes (upper_of word) (second_of word))
constant_of bytes word next kinds.Integer = constant.Integer (upper_of word)
constant_of bytes word next kinds.Float = constant.Float (upper_of word)
constant_of bytes word next kinds.Long = constant.Long next
constant_of bytes word next kinds.Double = constant.Double next
constant_of bytes word next kinds.Class = constant.Class (third_of word)
constant_of bytes word next kinds.String = constant.String (third_of word)
constant_of bytes word next kinds.Fieldref = constant.Fieldref (third_of word) (fourth_of word)
constant_of bytes word next kinds.Methodref = constant.Methodref (third_of word) (fourth_of word)
constant_of bytes word next kinds.InterfaceMethodref =
    constant.InterfaceMethodref (third_of word) (fourth_of word)
constant_of bytes word next kinds.NameAndType =
    constant.NameAndType (third_of word) (fourth_of word)
constant_of bytes word next kinds.MethodHandle =
    constant.MethodHandle (third_of word % 2 ^ 8) (fourth_of word)
constant_of bytes word next kinds.MethodType = constant.MethodType (third_of word)
constant_of bytes word next kinds.InvokeDynamic =
    constant.InvokeDynamic (third_of word) (fourth_of word)

-- the constant at an index whose tag is known
abbrev pub constant_there : List ℕ → List ℕ → ℕ → ℕ → Option ClassConstant
constant_there words bytes tag index =
    option_map (constant_of bytes (get_or words (8 + index) 0) (get_or words (9 + index) 0))
    (tag_of tag)

-- ---- attributes and members

-- this many attributes, from their words
unfoldable pub attributes_in : List ℕ → ℕ → List ℕ → List Attribute
attributes_in bytes zero words = []
attributes_in bytes (suc n) [] = []
attributes_in bytes (suc n) (word ∷ []) = []
attributes_in bytes (suc n) (word ∷ at ∷ words) =
    record { name = first_of word; bytes = run_bytes bytes at (upper_of word) }
    ∷ attributes_in bytes n words

-- a member, from its two words
abbrev pub member_in : List ℕ → List ℕ → ℕ → ℕ → Member
member_in all bytes word at = record {
  flags = first_of word;
  name = second_of word;
  descriptor = third_of word;
  attributes = attributes_in bytes (fourth_of word) (drop at all);
}

-- this many members, from their words among all words
unfoldable pub members_in : List ℕ → List ℕ → ℕ → List ℕ → List Member
members_in all bytes zero words = []
members_in all bytes (suc n) [] = []
members_in all bytes (suc n) (word ∷ []) = []
members_in all bytes (suc n) (word ∷ at ∷ words) =
    member_in all bytes word at ∷ members_in all bytes n words

-- ---- the whole class

-- the words are a record, with its bytes and the tags of its constants
pub record IsLaid (words bytes tags : List ℕ) : Type 0 where
  pub record_of : IsRecordOf (laid_class words) words
  pub bytes_are : bytes ≡ word_bytes words
  pub tags_are : tags ≡ tags_of (laid_class words)

-- ---- the tags, from the directory

-- the tag of a Long or a Double
abbrev pub is_wide_tag : ℕ → Bool
is_wide_tag t = (t == 5) || (t == 6)

-- the tags from the words of the directory, the first of which may be the second word of a Long or
-- a Double
unfoldable pub tags_from : Bool → List ℕ → List ℕ
tags_from second [] = []
tags_from true (word ∷ words) = 0 ∷ tags_from false words
tags_from false (word ∷ words) =
    word % 2 ^ 8 ∷ tags_from (is_wide_tag (word % 2 ^ 8)) words
