-- The layout computed for one class, beside a description of its words.
use Rattle.std.proofs.Common.{◌≡◌, [], ◌∷◌, refl}
use Rattle.cm_class.specs.declared.constant.Constant.TheVariants as constant
use Rattle.cm_class.specs.declared.constant.Slot.TheVariants.{Usable}
use Rattle.cm_class.specs.declared.class_file.ClassFile.{ClassFile}
use Rattle.cm_record_layout.specs.Packing.{word_from}
use Rattle.cm_record_layout.specs.Layout.{lay}

-- the class A, which extends java/lang/Object, with flags 0021
abbrev class_a : ClassFile
class_a = record {
  slots = Usable (constant.Class 2) ∷ Usable (constant.Utf8 (0x41 ∷ [])) ∷ Usable (constant.Class 4)
      ∷ Usable (constant.Utf8 (0x6a ∷ 0x61 ∷ 0x76 ∷ 0x61 ∷ 0x2f ∷ 0x6c ∷ 0x61 ∷ 0x6e ∷ 0x67 ∷ 0x2f
      ∷ 0x4f ∷ 0x62 ∷ 0x6a ∷ 0x65 ∷ 0x63 ∷ 0x74 ∷ [])) ∷ [];
  flags = 0x21;
  this_class = 1;
  super_class = 3;
  interfaces = [];
  fields = [];
  methods = [];
  attributes = [];
}

class_a_words : lay class_a ≡ 0x10 ∷ 0x0000000300010021 ∷ 5 ∷ 8 ∷ 0xd ∷ 0xd ∷ 0xd ∷ 0xd ∷ 0
    ∷ 0x0000000200000007 ∷ 0x0000000d00010001 ∷ 0x0000000400000007 ∷ 0x0000000e00100001 ∷ 0x41
    ∷ 0x6e616c2f6176616a ∷ 0x7463656a624f2f67 ∷ []
unfolding lay word_from
class_a_words = refl
