use Rattle.std.proofs.Common.{ℕ, List, ◌∙◌, ap, sym, arith}
use Rattle.std.proofs.lemmas.List.{drop_all}
use Rattle.cm_space.specs.Space.{left_by_all, space_state}
use Rattle.cm_space.proofs.InTurn.{next-turn, next-left}
use Rattle.cm_space.proofs.leaving.leave_each.Goals as goal

pub leave_one-requires-clause-known : goal.leave_one-requires-clause-known
leave_one-requires-clause-known c =
    (next-turn c.loop-loader.invariant.leaving c.loop-loader-test.true).known.0

pub loop-loader-preserved : goal.loop-loader-preserved
loop-loader-preserved c =
    let room = c.loop-loader.invariant.room in
    let len = c.leave_one.ensures.len in
    let capacity = c.leave_one.ensures.capacity in
    record {
      leaving = next-left _ _ c.leave_one.new.arenas.entries c.leave_one.new.waiting.items
          (next-turn c.loop-loader.invariant.leaving c.loop-loader-test.true)
          c.leave_one.ensures.left;
      room = omega (arith, room, len, capacity);
    }

pub returns : goal.returns
returns c p =
    let us : List ℕ = c.args.loaders.now in
    ap (λ (vs : List ℕ). left_by_all
    (space_state p c.loop-loader.arenas.entries c.loop-loader.waiting.items) c.args.number vs)
    (sym (drop_all c.loop-loader.loader-index us c.loop-loader-test.false))
    ∙ c.loop-loader.invariant.leaving.sofar p
