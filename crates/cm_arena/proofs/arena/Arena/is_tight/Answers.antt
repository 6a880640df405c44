use Rattle.std.proofs.Common.{◌≡◌, suc, length, ap, sym, subst, ◌∙◌, arith, refl}
use Rattle.cm_pool.specs.FreeSpace.{FreeSpace, IsUsedChunk, with_chunk}
use Rattle.cm_pool.proofs.SpaceLaws.{giving_back_restores, taken_is_used}
use Rattle.cm_arena.proofs.Tightened.{last_place, last_is, used_few, is_tight}
use Rattle.cm_arena.proofs.arena.Arena.is_tight.Goals as goal

pub order_for-need-requires : goal.order_for-need-requires
order_for-need-requires c =
    let cs = c.self.inside.chunks.items in
    let us = c.self.inside.used.items in
    let k = c.in-Some.last in
    let long : length cs ≡ suc k =
    last_place c.in-Some.ensures.0 c.in-Some.ensures.1 c.len.ensures c.self.inside.chunks.ok.0 in
    used_few cs us k c.self.invariant long c.index.ensures

pub returns-in_default-take_better-clause-tight : goal.returns-in_default-take_better-clause-tight
returns-in_default-take_better-clause-tight c =
    let cs = c.self.inside.chunks.items in
    let us = c.self.inside.used.items in
    let k = c.in-Some.last in
    let some = c.in-Some.ensures.0 in
    let before = c.in-Some.ensures.1 in
    let size = c.len.ensures in
    let ok = c.self.inside.chunks.ok.0 in
    let long : length cs ≡ suc k = omega (arith, some, before, size, ok) in (
      λ _. is_tight c.args.self.now c.args.pool.now c.index-2.result.now c.index.result.now
          c.order_for-need.result
          (last_is cs us k c.self.invariant long c.args.self.now c.index-2.result.now
          c.index.result.now c.self.view_is c.index-2.ensures c.index.ensures)
          c.order_for-need.ensures.need c.in_default-take_better.ensures.none.0,
      λ _. refl,
    )

pub give-requires : goal.give-requires
give-requires c =
    let some = c.in-Some-take_better.ensures.some in
    subst (λ (p : FreeSpace). IsUsedChunk p c.in-Some-take_better.found) (sym some.2)
    (taken_is_used c.args.pool.now c.in-Some-take_better.found some.0.free)

pub returns-clause-tight : goal.returns-clause-tight
returns-clause-tight c =
    let cs = c.self.inside.chunks.items in
    let us = c.self.inside.used.items in
    let k = c.in-Some.last in
    let long : length cs ≡ suc k =
    last_place c.in-Some.ensures.0 c.in-Some.ensures.1 c.len.ensures c.self.inside.chunks.ok.0 in
    let some = c.in-Some-take_better.ensures.some in (
      λ no. absurd (cc),
      λ tight. absurd (tight c.index-2.result.now c.in-Some-take_better.found (record {
        used = c.index.result.now;
        last = last_is cs us k c.self.invariant long c.args.self.now c.index-2.result.now
            c.index.result.now c.self.view_is c.index-2.ensures c.index.ensures;
        need = c.order_for-need.result;
        is_need = c.order_for-need.ensures.need;
        first = some.0;
        better = some.1;
      })),
    )

pub returns-clause-left : goal.returns-clause-left
returns-clause-left c =
    let some = c.in-Some-take_better.ensures.some in
    c.give.ensures
    ∙ ap (λ (p : FreeSpace). with_chunk p c.in-Some-take_better.found) some.2
    ∙ giving_back_restores c.args.pool.now c.in-Some-take_better.found some.0.free
