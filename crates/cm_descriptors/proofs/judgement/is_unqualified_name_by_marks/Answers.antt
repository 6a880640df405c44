use Rattle.cm_descriptors.proofs.ByMarks.{unqualified_by_marks}
use Rattle.cm_descriptors.proofs.judgement.is_unqualified_name_by_marks.Goals as goal

pub returns : goal.returns
returns c = rw c.is_empty.ensures (unqualified_by_marks c.args.bytes.now c.args.marks c.requires)
