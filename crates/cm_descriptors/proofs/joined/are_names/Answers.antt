use Rattle.std.proofs.Common.{arith}
use Rattle.cm_descriptors.proofs.JoinedNames.{names_by_neighbours}
use Rattle.cm_descriptors.proofs.joined.are_names.Goals as goal

pub returns : goal.returns
returns c = rw c.slashes_are_apart.ensures
    (names_by_neighbours c.args.bytes.now c.requires (omega (arith, c.if-bytes-lt-HALF_SPAN.false)))
