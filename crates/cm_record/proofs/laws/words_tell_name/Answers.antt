use Rattle.std.proofs.Common.{◌≡◌, ℕ, List, [], get_or, Some, None, ap}
use Rattle.cm_class.specs.declared.class_file.ClassFile.{ClassFile}
use Rattle.cm_record_layout.specs.Packing.{second_of}
use Rattle.cm_record_layout.specs.Layout.{IsRecordOf}
use Rattle.cm_record.specs.Names.{class_name_of, class_name_in}
use Rattle.cm_record.specs.Runs.{name_run}
use Rattle.cm_record.proofs.RunPlaces.{own_name, run_read}
use Rattle.cm_record.proofs.laws.words_tell_name.Goals as goal

name_told : (c : ClassFile) (words : List ℕ) → IsRecordOf c words
    → class_name_in words ≡ class_name_of c
unfolding class_name_in
name_told c words is = ap
    (λ r. elim r [ Some run ↦ run.0 | None ↦ [] ])
    (run_read words (name_run words (second_of (get_or words 1 0))) (class_name_of c)
    (own_name c words is))

pub returns : goal.returns
returns c = name_told
