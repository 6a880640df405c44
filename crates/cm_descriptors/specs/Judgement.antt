-- What is determined once for a Utf8.
use Rattle.std.specs.Prelude.{ℕ, Bool, List, ◌||◌, bytes_eq}
use Rattle.cm_descriptors.specs.declared.judgement.Judgement.{Judgement}
use Rattle.cm_descriptors.specs.Forms.{init, clinit, has_utf8_form, is_unqualified_name}
use Rattle.cm_descriptors.specs.Forms.{is_method_name}
use Rattle.cm_descriptors.specs.Forms.{is_class_name, is_field_descriptor, method_units}

unfoldable pub judgement : List ℕ → Judgement
judgement bytes = record {
  utf8 = has_utf8_form bytes;
  class_name = is_class_name bytes;
  unqualified_name = is_unqualified_name bytes;
  method_name = is_method_name bytes;
  field_descriptor = is_field_descriptor bytes;
  method_units = method_units bytes;
}

-- the two method names that have angles
abbrev pub is_special_name : List ℕ → Bool
is_special_name bytes = bytes_eq bytes init || bytes_eq bytes clinit
