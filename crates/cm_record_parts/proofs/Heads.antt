-- The numbers and the offsets in a record's first words.
-- For `class_name`, `field_count`, `interface`, `member_at`, `attributes_of` and others.
use Rattle.std.proofs.Common.{◌≡◌, ◌+◌, ◌%◌, ◌^◌, ℕ, List, length, get_or}
use Rattle.std.proofs.Common.{◌∙◌, ap, arith}
use Rattle.cm_class.specs.declared.class_file.ClassFile.{ClassFile}
use Rattle.cm_record_layout.specs.Packing.{first_of, second_of, third_of, fourth_of}
use Rattle.cm_record_layout.specs.Layout.{interfaces_at, members_at, runs_at}
use Rattle.cm_record_layout.specs.Layout.{record_len, IsRecordOf}
use Rattle.cm_record_layout.proofs.{this_there, super_there, interfaces_there, count_there}
use Rattle.cm_record_layout.proofs.{fields_there, methods_there, own_there, lay_len}
use Rattle.cm_record_layout.proofs.{word_4, word_5, word_7}

module _ (c : ClassFile) (words : List ℕ) (is : IsRecordOf c words) where
  pub this_read : second_of (get_or words 1 0) ≡ c.this_class
  this_read = ap (λ w. second_of (get_or w 1 0)) is.laid ∙ this_there c is.spelled

  pub super_read : third_of (get_or words 1 0) ≡ c.super_class
  super_read = ap (λ w. third_of (get_or w 1 0)) is.laid ∙ super_there c is.spelled

  pub interfaces_read : fourth_of (get_or words 1 0) ≡ length c.interfaces
  interfaces_read = ap (λ w. fourth_of (get_or w 1 0)) is.laid ∙ interfaces_there c is.spelled

  pub count_read : first_of (get_or words 2 0) ≡ length c.slots + 1
  count_read = ap (λ w. first_of (get_or w 2 0)) is.laid ∙ count_there c is.spelled

  pub fields_read : second_of (get_or words 2 0) ≡ length c.fields
  fields_read = ap (λ w. second_of (get_or w 2 0)) is.laid ∙ fields_there c is.spelled

  pub methods_read : third_of (get_or words 2 0) ≡ length c.methods
  methods_read = ap (λ w. third_of (get_or w 2 0)) is.laid ∙ methods_there c is.spelled

  pub own_read : fourth_of (get_or words 2 0) ≡ length c.attributes
  own_read = ap (λ w. fourth_of (get_or w 2 0)) is.laid ∙ own_there c is.spelled

  pub whole : length words ≡ record_len c
  whole = ap length is.laid ∙ lay_len c is.spelled

  pub interfaces_offset : get_or words 4 0 % 2 ^ 32 ≡ interfaces_at c
  interfaces_offset =
      omega (arith, ap (λ w. get_or w 4 0) is.laid ∙ word_4 c, whole, is.short)

  pub members_offset : get_or words 5 0 % 2 ^ 32 ≡ members_at c
  members_offset = omega (arith, ap (λ w. get_or w 5 0) is.laid ∙ word_5 c, whole, is.short)

  pub runs_offset : get_or words 7 0 % 2 ^ 32 ≡ runs_at c
  runs_offset = omega (arith, ap (λ w. get_or w 7 0) is.laid ∙ word_7 c, whole, is.short)
