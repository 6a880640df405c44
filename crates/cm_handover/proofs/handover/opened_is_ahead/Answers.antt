use Rattle.cm_handover.proofs.Handed.{opened_is_ahead}
use Rattle.cm_handover.proofs.handover.opened_is_ahead.Goals as goal

pub returns : goal.returns
returns c =
    opened_is_ahead c.chains_go_with_rows.ensures.chunks c.held_chunks_are_used.ensures.owned
    c.chunks_are_apart.ensures.either
