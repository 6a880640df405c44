use Rattle.cm_descriptors.proofs.JoinedNames.{few_apart}
use Rattle.cm_descriptors.proofs.joined.slashes_are_apart.Goals as goal

pub returns-else-bytes-ge-SPAN : goal.returns-else-bytes-ge-SPAN
returns-else-bytes-ge-SPAN c =
    few_apart c.args.bytes.now c.nine_are_apart.result c.nine_are_apart-else-bytes-ge-SPAN.result
    c.requires c.if-bytes-ge-SPAN.false c.nine_are_apart.ensures
    c.nine_are_apart-else-bytes-ge-SPAN.ensures
