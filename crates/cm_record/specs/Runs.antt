-- Where the bytes of a Utf8 are in the words of a record.
use Rattle.std.specs.Prelude.{◌≡◌, ◌≤◌, ℕ, ◌+◌, ◌/◌, List, ◌++◌, length, drop, get_or, Option}
use Rattle.std.specs.Prelude.{Some, None, unwrap_or}
use Rattle.cm_class.specs.declared.constant.Constant.TheVariants as constant
use Rattle.cm_class.specs.Spelling.{AreBytes}
use Rattle.cm_record.specs.declared.run.Run.{Run}
use Rattle.cm_record_layout.specs.Packing.{packed, upper_of}
use Rattle.cm_record.specs.Constants.{RecordConstant, constant_at_index}

-- the words from run.at on begin with the run of these bytes, run.len of them
pub record IsRunOf (words : List ℕ) (run : Run) (bytes : List ℕ) : Type 0 where
  pub fits : AreBytes bytes
  pub count : run.len ≡ length bytes
  pub within : run.at ≤ length words
  pub rest : List ℕ
  pub split : drop run.at words ≡ packed bytes ++ rest

abbrev pub HasRun : List ℕ → Run → Type 0
HasRun words run = (bytes : List ℕ) × IsRunOf words run bytes

-- the run of a Utf8; none for anything else
abbrev pub run_of_utf8 : Option RecordConstant → Option Run
run_of_utf8 (Some (constant.Utf8 place)) = Some (record { at = place.at / 8; len = place.len })
run_of_utf8 _ = None

-- the run of no bytes
abbrev pub no_bytes : Run
no_bytes = record { at = 0; len = 0 }

-- the run of the Utf8 at an index; the run of no bytes if there is no Utf8
abbrev pub utf8_run : List ℕ → ℕ → Run
utf8_run words index = unwrap_or (run_of_utf8 (constant_at_index words index)) no_bytes

-- the run of an attribute, from its two words
abbrev pub attribute_run_at : List ℕ → ℕ → Run
attribute_run_at words at =
    record { at = get_or words (at + 1) 0; len = upper_of (get_or words at 0) }

-- the index that a Class holds
abbrev pub class_link : Option RecordConstant → ℕ
class_link (Some (constant.Class name)) = name
class_link _ = 0

-- the run of a class's name
abbrev pub name_run : List ℕ → ℕ → Run
name_run words index = utf8_run words (class_link (constant_at_index words index))
