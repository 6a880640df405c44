use Rattle.cm_class.proofs.Fields.{AreBytes-from_slice}
use Rattle.cm_class.proofs.Shapes.{rest_fits, left_fits}
use Rattle.cm_class.proofs.shape.refusal.Goals as goal

pub overflow_sub-result : goal.overflow_sub-result
overflow_sub-result c =
    rw c.in-Ok.rest-is
    (rest_fits c.args.bytes.now c.in-Ok.rest.now
    (AreBytes-from_slice c.args.bytes.now c.type_inv.bytes) (rw c.in-Ok.is at c.requires))

pub overflow_sub-result-in-Err-Bad : goal.overflow_sub-result-in-Err-Bad
overflow_sub-result-in-Err-Bad c =
    let bad = rw c.in-Err-Bad.is at c.in-Err-Bad.field-0-is in
    let stopped = rw c.in-Err-Bad.is at c.requires in
    left_fits c.args.bytes.now c.in-Err-Bad.left
    (AreBytes-from_slice c.args.bytes.now c.type_inv.bytes) (rw bad at stopped)
