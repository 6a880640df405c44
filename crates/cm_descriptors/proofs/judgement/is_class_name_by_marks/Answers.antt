use Rattle.std.proofs.Common.{sym, ◌∙◌}
use Rattle.cm_descriptors.proofs.ByMarks.{unqualified_class, no_class_by_marks, no_stop_of}
use Rattle.cm_descriptors.proofs.judgement.is_class_name_by_marks.Goals as goal

pub returns-then-is_unqualified_name_by_marks : goal.returns-then-is_unqualified_name_by_marks
returns-then-is_unqualified_name_by_marks c =
    unqualified_class c.args.bytes.now c.is_unqualified_name_by_marks.result
    c.if-is_unqualified_name_by_marks.true c.is_unqualified_name_by_marks.ensures

pub returns-else-marks : goal.returns-else-marks
returns-else-marks c = no_class_by_marks c.args.bytes.now c.args.marks c.requires c.if-marks.false

pub are_names-requires : goal.are_names-requires
are_names-requires c = sym (no_stop_of c.args.bytes.now c.args.marks c.requires) ∙ c.if-marks.true
