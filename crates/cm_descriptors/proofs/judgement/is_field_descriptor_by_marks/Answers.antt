use Rattle.cm_descriptors.proofs.ByMarks.{no_field_by_marks}
use Rattle.cm_descriptors.proofs.judgement.is_field_descriptor_by_marks.Goals as goal

pub returns-then-bytes-ne1 : goal.returns-then-bytes-ne1
returns-then-bytes-ne1 c =
    no_field_by_marks c.args.bytes.now c.args.marks c.requires c.if-marks.true c.if-bytes-ne1.true
