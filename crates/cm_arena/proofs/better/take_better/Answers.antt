use Rattle.std.proofs.Common.{sym, ap, ◌∙◌, subst}
use Rattle.cm_pool.specs.FreeSpace.{FreeSpace, IsUsedChunk, with_chunk}
use Rattle.cm_pool.specs.declared.chunk.Chunk.{Chunk}
use Rattle.cm_pool.proofs.SpaceLaws.{giving_back_restores, taken_is_used}
use Rattle.cm_arena.specs.Tightening.{IsBetter}
use Rattle.cm_arena.proofs.Tightened.{first_is_one}
use Rattle.cm_arena.proofs.better.take_better.Goals as goal

pub give-requires : goal.give-requires
give-requires c =
    let first = c.in_ok-found.ensures.first in
    subst (λ (p : FreeSpace). IsUsedChunk p c.in_ok-found.found) (sym c.in_ok-found.ensures.left)
    (taken_is_used c.args.pool.now c.in_ok-found.found first.free)

pub returns-clause-none : goal.returns-clause-none
returns-clause-none c = (
  λ to first better.
      let same = first_is_one c.args.pool.now c.args.order to c.in_ok-found.found first
      c.in_ok-found.ensures.first in
      let yes = c.is_better.ensures.1
      (subst (λ (t : Chunk). IsBetter t c.args.than.now) same better) in
      let no = c.if-is_better.false in
      cc,
  c.give.ensures
      ∙ ap (λ (p : FreeSpace). with_chunk p c.in_ok-found.found) c.in_ok-found.ensures.left
      ∙ giving_back_restores c.args.pool.now c.in_ok-found.found c.in_ok-found.ensures.first.free,
)
