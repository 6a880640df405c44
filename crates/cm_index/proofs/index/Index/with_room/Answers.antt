use Rattle.cm_index.proofs.Joined.{joined-empty}
use Rattle.cm_index.proofs.index.Index.with_room.Goals as goal

pub returns-clause-empty : goal.returns-clause-empty
returns-clause-empty c = joined-empty c.in_ok-blocks.blocks.items c.in_ok-blocks.ensures.empty
