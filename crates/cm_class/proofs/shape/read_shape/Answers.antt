use Rattle.cm_class.proofs.Fields.{AreBytes-from_slice}
use Rattle.cm_class.proofs.Shapes.{ok_is, fault_is, only_is}
use Rattle.cm_class.proofs.shape.read_shape.Goals as goal

pub returns-clause-ok : goal.returns-clause-ok
returns-clause-ok c =
    ok_is c.args.bytes.now (AreBytes-from_slice c.args.bytes.now c.type_inv.bytes)
    c.read_whole.result
    c.read_whole.ensures

pub returns-clause-fault : goal.returns-clause-fault
returns-clause-fault c =
    fault_is c.args.bytes.now (AreBytes-from_slice c.args.bytes.now c.type_inv.bytes)
    c.read_whole.result
    c.read_whole.ensures

pub returns-clause-only : goal.returns-clause-only
returns-clause-only c =
    only_is c.args.bytes.now (AreBytes-from_slice c.args.bytes.now c.type_inv.bytes)
    c.read_whole.result
    c.read_whole.ensures
