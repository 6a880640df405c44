use Rattle.std.proofs.Common.{◌≡◌, ◌≤◌, suc, length, ap, sym, subst, arith, refl, IfNone, IsSomeAnd}
use Rattle.std.proofs.Common.{◌∙◌, Some}
use Rattle.std.specs.Option.{option_map}
use Rattle.cm_pool.specs.Chunks.{chunk_size}
use Rattle.cm_pool.specs.declared.chunk.Chunk.{Chunk}
use Rattle.cm_arena.specs.Chains.{Filled}
use Rattle.cm_arena.specs.Tightening.{IsTight, IsBetter}
use Rattle.cm_arena.proofs.Tightened.{last_place, last_is, used_few, is_tight, one_chunk}
use Rattle.cm_arena.proofs.Tightened.{moved_is_held, moving_loses_none}
use Rattle.cm_arena.proofs.arena.Arena.tighten.Goals as goal

pub order_for-need-requires : goal.order_for-need-requires
order_for-need-requires c =
    let cs = c.self.inside.chunks.items in
    let us = c.self.inside.used.items in
    let k = c.in_ok-last.last in
    let long : length cs ≡ suc k =
    last_place c.in_ok-last.ensures.0 c.in_ok-last.ensures.1 c.len.ensures
    c.self.inside.chunks.ok.0 in
    used_few cs us k c.self.invariant long c.index.ensures

pub returns-in_err-to-clause-none : goal.returns-in_err-to-clause-none
returns-in_err-to-clause-none c =
    let cs = c.self.inside.chunks.items in
    let us = c.self.inside.used.items in
    let k = c.in_ok-last.last in
    let long : length cs ≡ suc k =
    last_place c.in_ok-last.ensures.0 c.in_ok-last.ensures.1 c.len.ensures
    c.self.inside.chunks.ok.0 in
    let none = c.in_err-to.ensures.none in
    subst (λ r. IfNone r (IsTight c.args.self.now c.args.pool.now
    × ((c.args.self.now ≡ c.args.self.now) × (c.take_better.new.pool ≡ c.args.pool.now))))
    (sym c.from_residual-in_err-to.ensures) (
      is_tight c.args.self.now c.args.pool.now c.index-2.result.now c.index.result.now
          c.order_for-need.result
          (last_is cs us k c.self.invariant long c.args.self.now c.index-2.result.now
          c.index.result.now c.self.view_is c.index-2.ensures c.index.ensures)
          c.order_for-need.ensures.need none.0,
      (refl, none.1),
    )

pub swap_last-from-requires : goal.swap_last-from-requires
swap_last-from-requires c =
    let cs = c.self.inside.chunks.items in
    let us = c.self.inside.used.items in
    let k = c.in_ok-last.last in
    let long : length cs ≡ suc k =
    last_place c.in_ok-last.ensures.0 c.in_ok-last.ensures.1 c.len.ensures
    c.self.inside.chunks.ok.0 in
    let first = c.in_ok-to.ensures.some.0 in
    let order = first.of_order in
    let small = c.order_for-need.ensures.small in
    record {
      small = omega (arith, order, small);
      enough = subst (λ o. IsSomeAnd o (λ (f : Filled). f.used ≤ chunk_size c.in_ok-to.to.order))
          (sym (last_is cs us k c.self.invariant long c.args.self.now c.index-2.result.now
          c.index.result.now c.self.view_is c.index-2.ensures c.index.ensures))
          (subst (λ m. c.index.result.now ≤ chunk_size m) (sym order)
          c.order_for-need.ensures.need.enough);
    }

pub returns-clause-some : goal.returns-clause-some
returns-clause-some c =
    let cs = c.self.inside.chunks.items in
    let us = c.self.inside.used.items in
    let k = c.in_ok-last.last in
    let long : length cs ≡ suc k =
    last_place c.in_ok-last.ensures.0 c.in_ok-last.ensures.1 c.len.ensures
    c.self.inside.chunks.ok.0 in
    let some = c.in_ok-to.ensures.some in
    let last = last_is cs us k c.self.invariant long c.args.self.now c.index-2.result.now
    c.index.result.now c.self.view_is c.index-2.ensures c.index.ensures in
    let same : c.index-2.result.now ≡ c.swap_last-from.result =
    one_chunk (sym (ap (option_map (λ (f : Filled). f.chunk)) last) ∙ c.swap_last-from.ensures.last)
    in
    record {
      may = record {
        used = c.index.result.now;
        last = last
            ∙ ap (λ (b : Chunk). Some (record { chunk = b; used = c.index.result.now })) same;
        need = c.order_for-need.result;
        is_need = c.order_for-need.ensures.need;
        first = some.0;
        better = subst (IsBetter c.in_ok-to.to) same some.1;
      };
      after = c.swap_last-from.ensures.swapped;
      left_is = some.2;
    }

pub returns-clause-alone : goal.returns-clause-alone
returns-clause-alone c = λ others.
    moved_is_held c.args.self.now c.swap_last-from.new.self c.args.pool.now c.take_better.new.pool
    c.swap_last-from.result c.in_ok-to.to others (returns-clause-some c)

pub returns-clause-none_lost : goal.returns-clause-none_lost
returns-clause-none_lost c = λ others.
    moving_loses_none c.args.self.now c.swap_last-from.new.self c.args.pool.now
    c.take_better.new.pool c.swap_last-from.result c.in_ok-to.to others (returns-clause-some c)
