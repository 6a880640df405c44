use Rattle.cm_descriptors.proofs.ByMarks.{utf8_by_marks}
use Rattle.cm_descriptors.proofs.judgement.has_utf8_form_by_marks.Goals as goal

pub returns-then-marks : goal.returns-then-marks
returns-then-marks c = utf8_by_marks c.args.bytes.now c.args.marks c.requires c.if-marks.true
