use Rattle.std.proofs.Common.{◌≡◌, Some, sym, ◌∙◌, ap}
use Rattle.cm_record_reading.specs.Reading.{class_at}
use Rattle.cm_record_reading.proofs.WholeRecord.{class_again}
use Rattle.cm_record_reading.proofs.laws.layout_determines_class.Goals as goal

pub returns : goal.returns
returns _ = λ c d of_c of_d same. let both : Some c ≡ Some d =
    sym (class_again c of_c) ∙ (ap class_at same ∙ class_again d of_d) in cc
