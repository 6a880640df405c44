-- The constants of a pool, as a record holds them.
use Rattle.std.specs.Prelude.{ℕ, zero, suc, ◌+◌, ◌-◌, ◌*◌, ◌/◌, ◌%◌, ◌^◌, Bool, false, not, ◌&&◌}
use Rattle.std.specs.Prelude.{◌||◌, List, length, take, get_or, Option, None, option_map}
use Rattle.std.specs.Prelude.{nat_le, ◌==◌, if◌then◌else◌}
use Rattle.cm_class.specs.declared.constant.Constant.{Constant}
use Rattle.cm_class.specs.declared.constant.Constant.TheVariants as constant
use Rattle.cm_class.specs.declared.class_file.ClassFile.{ClassFile}
use Rattle.cm_class.specs.declared.kind.Kind.{Kind}
use Rattle.cm_class.specs.declared.kind.Kind.TheVariants as kinds
use Rattle.cm_class.specs.Names.{constant_named}
use Rattle.cm_class.specs.Reading.{tag_of}
use Rattle.cm_class.specs.Spelling.{ClassConstant}
use Rattle.cm_record.specs.declared.constant.Utf8Place.{Utf8Place}
use Rattle.cm_record_layout.specs.Layout.{utf8_runs, runs_at}
use Rattle.cm_record_layout.specs.Packing.{first_of, second_of, third_of, fourth_of, upper_of}

-- a constant of a record, in which a Utf8 has the place of its bytes
abbrev pub RecordConstant : Type 0
RecordConstant = Constant Utf8Place

-- a constant whose run begins at the word `at`: a Utf8 as the place of its bytes, any other by its
-- numbers
abbrev pub kept_constant : ℕ → ClassConstant → RecordConstant
kept_constant at (constant.Utf8 bytes) = constant.Utf8 (record { at = 8 * at; len = length bytes })
kept_constant at (constant.Integer bits) = constant.Integer bits
kept_constant at (constant.Float bits) = constant.Float bits
kept_constant at (constant.Long bits) = constant.Long bits
kept_constant at (constant.Double bits) = constant.Double bits
kept_constant at (constant.Class name) = constant.Class name
kept_constant at (constant.String utf8) = constant.String utf8
kept_constant at (constant.Fieldref class name_and_type) = constant.Fieldref class name_and_type
kept_constant at (constant.Methodref class name_and_type) = constant.Methodref class name_and_type
kept_constant at (constant.InterfaceMethodref class name_and_type) =
    constant.InterfaceMethodref class name_and_type
kept_constant at (constant.NameAndType name descriptor) = constant.NameAndType name descriptor
kept_constant at (constant.MethodHandle kind reference) = constant.MethodHandle kind reference
kept_constant at (constant.MethodType descriptor) = constant.MethodType descriptor
kept_constant at (constant.InvokeDynamic bootstrap_method name_and_type) =
    constant.InvokeDynamic bootstrap_method name_and_type

-- the word at which the run of the constant at an index begins, in the record of the class
abbrev pub utf8_at : ClassFile → ℕ → ℕ
utf8_at c index = runs_at c + length (utf8_runs (take (index - 1) c.slots))

-- the constant at an index of the class's pool, as its record holds it; none at 0, at the second
-- index of a Long or a Double, and past the end of the pool
abbrev pub constant_kept : ClassFile → ℕ → Option RecordConstant
constant_kept c index = option_map (kept_constant (utf8_at c index)) (constant_named c index)

-- ---- the same, from the words

-- the directory word of a Long or a Double
abbrev pub is_wide_word : ℕ → Bool
is_wide_word word = (word == 5) || (word == 6)

-- Word k is the second of a Long or a Double, given that word 0 isn't: the word before it is one of
-- a Long or a Double, and isn't itself the second of another.
abbrev pub is_second_word : List ℕ → ℕ → Bool
is_second_word words zero = false
is_second_word words (suc k) = is_wide_word (get_or words k 0) && not (is_second_word words k)

-- what a directory word of this kind denotes, with the word after it
abbrev pub kept_of_kind : Kind → ℕ → ℕ → RecordConstant
kept_of_kind kinds.Utf8 word next =
    constant.Utf8 (record { at = upper_of word * 8 % 2 ^ 32; len = second_of word })
kept_of_kind kinds.Integer word next = constant.Integer (upper_of word)
kept_of_kind kinds.Float word next = constant.Float (upper_of word)
kept_of_kind kinds.Long word next = constant.Long next
kept_of_kind kinds.Double word next = constant.Double next
kept_of_kind kinds.Class word next = constant.Class (third_of word)
kept_of_kind kinds.String word next = constant.String (third_of word)
kept_of_kind kinds.Fieldref word next = constant.Fieldref (third_of word) (fourth_of word)
kept_of_kind kinds.Methodref word next = constant.Methodref (third_of word) (fourth_of word)
kept_of_kind kinds.InterfaceMethodref word next =
    constant.InterfaceMethodref (third_of word) (fourth_of word)
kept_of_kind kinds.NameAndType word next = constant.NameAndType (third_of word) (fourth_of word)
kept_of_kind kinds.MethodHandle word next =
    constant.MethodHandle (word / 2 ^ 32 % 2 ^ 8) (fourth_of word)
kept_of_kind kinds.MethodType word next = constant.MethodType (third_of word)
kept_of_kind kinds.InvokeDynamic word next = constant.InvokeDynamic (third_of word) (fourth_of word)

-- a constant, from its directory word and the next one
unfoldable pub word_kept : ℕ → ℕ → Option RecordConstant
word_kept word next = option_map (λ kind. kept_of_kind kind word next) (tag_of (first_of word))

abbrev pub constant_at_index : List ℕ → ℕ → Option RecordConstant
constant_at_index words index =
    if index == 0 then None
    else if nat_le (first_of (get_or words 2 0)) index then None
    else if is_second_word words (8 + index) then None
    else word_kept (get_or words (8 + index) 0) (get_or words (9 + index) 0)
