use Rattle.std.proofs.Common.{sym, ◌∙◌}
use Rattle.cm_descriptors.proofs.ByMarks.{method_by_marks, special_by_marks, no_method}
use Rattle.cm_descriptors.proofs.judgement.is_method_name_by_marks.Goals as goal

pub returns-then-marks : goal.returns-then-marks
returns-then-marks c =
    method_by_marks c.args.bytes.now c.args.marks c.requires
    (sym c.is_unqualified_name_by_marks.ensures ∙ c.if-is_unqualified_name_by_marks.true)
    c.if-marks.true

pub returns-else-marks : goal.returns-else-marks
returns-else-marks c =
    c.is_special_name.ensures ∙ special_by_marks c.args.bytes.now c.args.marks c.requires
    (sym c.is_unqualified_name_by_marks.ensures ∙ c.if-is_unqualified_name_by_marks.true)
    c.if-marks.false

pub returns-else-is_unqualified_name_by_marks : goal.returns-else-is_unqualified_name_by_marks
returns-else-is_unqualified_name_by_marks c =
    no_method c.args.bytes.now c.is_unqualified_name_by_marks.result
    c.if-is_unqualified_name_by_marks.false c.is_unqualified_name_by_marks.ensures
