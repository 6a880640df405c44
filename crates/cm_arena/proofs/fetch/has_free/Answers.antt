use Rattle.std.proofs.Common.{sym, ap, ◌∙◌, subst}
use Rattle.cm_pool.specs.FreeSpace.{FreeSpace, IsUsedChunk, with_chunk}
use Rattle.cm_pool.proofs.SpaceLaws.{giving_back_restores, taken_is_used}
use Rattle.cm_arena.proofs.fetch.has_free.Goals as goal

pub give-requires : goal.give-requires
give-requires c =
    let first = c.in-Some.ensures.first in
    subst (λ (p : FreeSpace). IsUsedChunk p c.in-Some.found) (sym c.in-Some.ensures.left)
    (taken_is_used c.args.pool.now c.in-Some.found first.free)

pub returns-clause-left : goal.returns-clause-left
returns-clause-left c =
    c.give.ensures ∙ ap (λ (p : FreeSpace). with_chunk p c.in-Some.found) c.in-Some.ensures.left
    ∙ giving_back_restores c.args.pool.now c.in-Some.found c.in-Some.ensures.first.free
