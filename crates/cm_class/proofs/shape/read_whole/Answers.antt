use Rattle.std.proofs.Common.{refl}
use Rattle.cm_class.proofs.Fields.{AreBytes-from_slice}
use Rattle.cm_class.proofs.Shapes.{read_fits}
use Rattle.cm_class.proofs.shape.read_whole.Goals as goal

pub from_file-requires : goal.from_file-requires
from_file-requires c =
    read_fits c.args.bytes.now c.in-Ok-default-empty.file c.in-Ok-default-empty.field-0-1.now
    (AreBytes-from_slice c.args.bytes.now c.type_inv.bytes)
    (c.in-Ok-default-empty.ensures.kept refl)
