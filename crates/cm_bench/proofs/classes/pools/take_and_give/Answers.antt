use Rattle.std.proofs.Common.{sym, ap, ◌∙◌, subst}
use Rattle.cm_pool.specs.FreeSpace.{FreeSpace, IsUsedChunk, with_chunk}
use Rattle.cm_pool.proofs.SpaceLaws.{giving_back_restores, taken_is_used}
use Rattle.cm_bench.proofs.classes.pools.take_and_give.Goals as goal

pub give-requires : goal.give-requires
give-requires c =
    let old = c.args.pool.now in
    let chunk = c.in-Some.chunk in
    subst (λ (p : FreeSpace). IsUsedChunk p chunk) (sym c.in-Some.ensures.left)
    (taken_is_used old chunk c.in-Some.ensures.first.free)

pub returns : goal.returns
returns c =
    let old = c.args.pool.now in
    let chunk = c.in-Some.chunk in
    c.give.ensures ∙ ap
    (λ p. with_chunk p chunk) c.in-Some.ensures.left
    ∙ giving_back_restores old chunk c.in-Some.ensures.first.free
