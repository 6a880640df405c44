use Rattle.std.proofs.Common.{◌≡◌, List, sym, ap, ◌∙◌, subst}
use Rattle.cm_pool.specs.declared.chunk.Chunk.{Chunk}
use Rattle.cm_pool.specs.FreeSpace.{FreeSpace}
use Rattle.cm_pool.specs.Held.{AreHeld}
use Rattle.cm_space.specs.Space.{waits_in, with_chunks}
use Rattle.cm_space.proofs.Giving.{IsUnderWay, way-first, way-more, way-end}
use Rattle.cm_space.proofs.waiting.free_due.Goals as goal

pub give_all-requires : goal.give_all-requires
give_all-requires c =
    subst (λ (cs : List Chunk). AreHeld c.loop-chunks.pool cs) (sym c.deref.ensures.value)
    (way-first c.loop-chunks.invariant c.in-Some.ensures.some.oldest)

pub loop-chunks-preserved : goal.loop-chunks-preserved
loop-chunks-preserved c =
    let taken = c.in-Some.ensures.some in
    let given : c.give_all.new.pool ≡ with_chunks c.loop-chunks.pool c.in-Some.chunks.items =
    c.give_all.ensures ∙ ap
    (with_chunks c.loop-chunks.pool) c.deref.ensures.value in
    subst (λ (p : FreeSpace). IsUnderWay c.args.number c.args.pool.now
    (waits_in c.args.waiting.now.items) p (waits_in c.take_due.new.waiting.items)) (sym given)
    (way-more c.loop-chunks.invariant taken.oldest taken.is_due)

pub returns-clause-pool : goal.returns-clause-pool
returns-clause-pool c = (way-end c.loop-chunks.invariant c.in_default.ensures.later).0

pub returns-clause-waiting : goal.returns-clause-waiting
returns-clause-waiting c = ap waits_in c.in_default.ensures.none
    ∙ (way-end c.loop-chunks.invariant c.in_default.ensures.later).1
