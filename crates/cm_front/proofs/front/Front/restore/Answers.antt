use Rattle.cm_front.proofs.Taking.{none_taken}
use Rattle.cm_front.proofs.front.Front.restore.Goals as goal

pub take_rows-requires-clause-none : goal.take_rows-requires-clause-none
take_rows-requires-clause-none c =
    none_taken c.args.book.sizes c.args.geometry c.in_ok-space.space c.requires.sizes
    c.in_ok-space.ensures c.invariant_holds-2.ensures.arenas c.invariant_holds-2.ensures.pool
