-- The tags of a class's constants, from the words of its directory.
-- For `LaidClass::names`, `write_tags`.
use Rattle.std.proofs.Common.{◌≡◌, ◌+◌, ◌%◌, ◌^◌, ℕ, zero, suc, Bool, true, false, List}
use Rattle.std.proofs.Common.{[], ◌∷◌, ◌++◌, length, take, get_or, slice_get, Option, Some, None}
use Rattle.std.proofs.Common.{refl, ◌∙◌, ap, arith, append_assoc}
use Rattle.std.specs.Prelude.{map, ◌==◌}
use Rattle.std.specs.Option.{option_map_or}
use Rattle.cm_class.specs.declared.constant.Constant.TheVariants as constant
use Rattle.cm_class.specs.declared.constant.Slot.{Slot}
use Rattle.cm_class.specs.declared.constant.Slot.TheVariants.{Usable, Unusable}
use Rattle.cm_class.specs.declared.class_file.ClassFile.{ClassFile}
use Rattle.cm_class.specs.declared.kind.Kind.{Kind}
use Rattle.cm_class.specs.declared.kind.Kind.TheVariants as kinds
use Rattle.cm_class.specs.Names.{constant_named, constant_in, kind_of, is_kind, names}
use Rattle.cm_class.specs.Reading.{tag_of, tag_number}
use Rattle.cm_class.specs.Spelling.{ClassConstant, is_wide, SlotsFit, tag}
use Rattle.cm_record_layout.specs.Layout.{constant_words, constant_run, directory}
use Rattle.cm_record_rules.specs.Laid.{slot_tag, tags_of, tags_from, is_wide_tag}

-- ---- the word of a constant

pub word_tag : (at : ℕ) (d : ClassConstant) → get_or (constant_words at d) 0 0 % 2 ^ 8 ≡ tag d
word_tag at (constant.Utf8 bytes) = omega arith
word_tag at (constant.Integer bits) = omega arith
word_tag at (constant.Float bits) = omega arith
word_tag at (constant.Long bits) = refl
word_tag at (constant.Double bits) = refl
word_tag at (constant.Class name) = omega arith
word_tag at (constant.String utf8) = omega arith
word_tag at (constant.Fieldref a b) = omega arith
word_tag at (constant.Methodref a b) = omega arith
word_tag at (constant.InterfaceMethodref a b) = omega arith
word_tag at (constant.NameAndType a b) = omega arith
word_tag at (constant.MethodHandle a b) = omega arith
word_tag at (constant.MethodType descriptor) = omega arith
word_tag at (constant.InvokeDynamic a b) = omega arith

wide_by_tag : (d : ClassConstant) → is_wide_tag (tag d) ≡ is_wide d
wide_by_tag (constant.Utf8 bytes) = refl
wide_by_tag (constant.Integer bits) = refl
wide_by_tag (constant.Float bits) = refl
wide_by_tag (constant.Long bits) = refl
wide_by_tag (constant.Double bits) = refl
wide_by_tag (constant.Class name) = refl
wide_by_tag (constant.String utf8) = refl
wide_by_tag (constant.Fieldref a b) = refl
wide_by_tag (constant.Methodref a b) = refl
wide_by_tag (constant.InterfaceMethodref a b) = refl
wide_by_tag (constant.NameAndType a b) = refl
wide_by_tag (constant.MethodHandle a b) = refl
wide_by_tag (constant.MethodType descriptor) = refl
wide_by_tag (constant.InvokeDynamic a b) = refl

-- the tag determines the kind
pub kind_by_tag : (d : ClassConstant) → tag_of (tag d) ≡ Some (kind_of d)
kind_by_tag (constant.Utf8 bytes) = refl
kind_by_tag (constant.Integer bits) = refl
kind_by_tag (constant.Float bits) = refl
kind_by_tag (constant.Long bits) = refl
kind_by_tag (constant.Double bits) = refl
kind_by_tag (constant.Class name) = refl
kind_by_tag (constant.String utf8) = refl
kind_by_tag (constant.Fieldref a b) = refl
kind_by_tag (constant.Methodref a b) = refl
kind_by_tag (constant.InterfaceMethodref a b) = refl
kind_by_tag (constant.NameAndType a b) = refl
kind_by_tag (constant.MethodHandle a b) = refl
kind_by_tag (constant.MethodType descriptor) = refl
kind_by_tag (constant.InvokeDynamic a b) = refl

-- words after the first one of a constant: those of a wide constant begin with its bits
unfoldable pub behind : Bool → ℕ → List ℕ → List ℕ
behind true bits words = bits ∷ words
behind false bits words = words

pub words_in_front : (at : ℕ) (d : ClassConstant) (words : List ℕ)
    → constant_words at d ++ words
    ≡ get_or (constant_words at d) 0 0
    ∷ behind (is_wide d) (get_or (constant_words at d) 1 0) words
unfolding behind
words_in_front at (constant.Utf8 bytes) words = refl
words_in_front at (constant.Integer bits) words = refl
words_in_front at (constant.Float bits) words = refl
words_in_front at (constant.Long bits) words = refl
words_in_front at (constant.Double bits) words = refl
words_in_front at (constant.Class name) words = refl
words_in_front at (constant.String utf8) words = refl
words_in_front at (constant.Fieldref a b) words = refl
words_in_front at (constant.Methodref a b) words = refl
words_in_front at (constant.InterfaceMethodref a b) words = refl
words_in_front at (constant.NameAndType a b) words = refl
words_in_front at (constant.MethodHandle a b) words = refl
words_in_front at (constant.MethodType descriptor) words = refl
words_in_front at (constant.InvokeDynamic a b) words = refl

-- ---- the directory

pub tags_read : (second : Bool) (bits at : ℕ) (slots : List Slot) (tail : List ℕ)
    → SlotsFit second slots
    → tags_from second (take (length slots) (behind second bits (directory at slots ++ tail)))
    ≡ map slot_tag slots
unfolding tags_from behind
tags_read true bits at [] tail fits = absurd fits
tags_read false bits at [] tail fits = refl
tags_read true bits at (Unusable ∷ slots) tail fits =
    ap (λ ts. 0 ∷ ts) (tags_read false 0 at slots tail fits)
tags_read true bits at (Usable d ∷ slots) tail fits = absurd fits
tags_read false bits at (Unusable ∷ slots) tail fits = absurd fits
tags_read false bits at (Usable d ∷ slots) tail fits =
    let next = at + length (constant_run d) in
    let bits_of = get_or (constant_words at d) 1 0 in
    let word = get_or (constant_words at d) 0 0 in
    let front = append_assoc (constant_words at d) (directory next slots) tail
    ∙ words_in_front at d (directory next slots ++ tail) in
    let more = tags_read (is_wide d) bits_of next slots tail fits.1 in
    let here : word % 2 ^ 8 ≡ tag d = word_tag at d in
    let wide : is_wide_tag (word % 2 ^ 8) ≡ is_wide d = ap is_wide_tag here ∙ wide_by_tag d in
    ap (λ ws. tags_from false (take (suc (length slots)) ws)) front
    ∙ ((λ i. here i ∷ tags_from (wide i)
    (take (length slots) (behind (is_wide d) bits_of (directory next slots ++ tail))))
    ∙ ap (λ ts. tag d ∷ ts) more)

-- ---- a tag and the constant at its index

pub tag_in : (slots : List Slot) (i : ℕ)
    → get_or (map slot_tag slots) i 0 ≡ option_map_or slot_tag (slice_get slots i) 0
tag_in [] i = refl
tag_in (s ∷ slots) zero = refl
tag_in (s ∷ slots) (suc i) = tag_in slots i

-- the tag of a constant that an index names; 0 if it names none
abbrev pub tag_named : Option ClassConstant → ℕ
tag_named o = option_map_or tag o 0

pub tag_at_index : (c : ClassFile) (index : ℕ)
    → get_or (tags_of c) index 0 ≡ tag_named (constant_named c index)
unfolding tags_of
tag_at_index c zero = refl
tag_at_index c (suc i) = tag_in c.slots i ∙ by_slot (slice_get c.slots i)
  where
    by_slot : (o : Option Slot)
        → option_map_or slot_tag o 0
        ≡ tag_named (elim o [ None ↦ None | Some s ↦ constant_in s ])
    by_slot None = refl
    by_slot (Some (Usable d)) = refl
    by_slot (Some Unusable) = refl

kind_test : (kind : Kind) (d : ClassConstant) → (tag d == tag_number kind) ≡ is_kind kind d
kind_test kinds.Utf8 (constant.Utf8 bytes) = refl
kind_test kinds.Integer (constant.Integer bits) = refl
kind_test kinds.Float (constant.Float bits) = refl
kind_test kinds.Long (constant.Long bits) = refl
kind_test kinds.Double (constant.Double bits) = refl
kind_test kinds.Class (constant.Class name) = refl
kind_test kinds.String (constant.String utf8) = refl
kind_test kinds.Fieldref (constant.Fieldref a b) = refl
kind_test kinds.Methodref (constant.Methodref a b) = refl
kind_test kinds.InterfaceMethodref (constant.InterfaceMethodref a b) = refl
kind_test kinds.NameAndType (constant.NameAndType a b) = refl
kind_test kinds.MethodHandle (constant.MethodHandle a b) = refl
kind_test kinds.MethodType (constant.MethodType descriptor) = refl
kind_test kinds.InvokeDynamic (constant.InvokeDynamic a b) = refl
kind_test _ _ = refl

no_kind : (kind : Kind) → (0 == tag_number kind) ≡ false
no_kind kinds.Utf8 = refl
no_kind _ = refl

-- whether an index names a constant of a kind, by its tag
pub names_by_tag : (c : ClassFile) (kind : Kind) (index : ℕ)
    → (get_or (tags_of c) index 0 == tag_number kind) ≡ names kind c index
names_by_tag c kind index =
    ap (λ t. t == tag_number kind) (tag_at_index c index) ∙ by_named (constant_named c index)
  where
    by_named : (o : Option ClassConstant)
        → (tag_named o == tag_number kind) ≡ option_map_or (is_kind kind) o false
    by_named None = no_kind kind
    by_named (Some d) = kind_test kind d
