use Rattle.std.proofs.Common.{◌≡◌, suc, ◌+◌, ◌<◌, ◌≤◌, length, get_or, set, Some, IsSomeAnd, refl}
use Rattle.std.proofs.Common.{sym, ap, ◌∙◌, subst, arith, length-set}
use Rattle.cm_pool.specs.declared.chunk.Chunk.{Chunk}
use Rattle.cm_pool.specs.Chunks.{chunk_size}
use Rattle.cm_arena.specs.Chains.{Filled, chain_of, last_of, IsFilled}
use Rattle.cm_arena.proofs.ChainFacts.{last-chain_of, more-chain_of, filled-at, filled-set}
use Rattle.cm_arena.proofs.arena.place_on_top.Goals as goal
use Rattle.cm_arena.proofs.arena.place_on_top.Goals.{After-index-offset}

abbrev nowhere : Chunk
nowhere = record { root = 0; order = 0; at = 0 }

last_len : (c : After-index-offset) → length c.args.chunks.now ≡ suc c.in_ok-last.last
last_len c = omega (arith, c.in_ok-last.ensures.0, c.in_ok-last.ensures.1)

filled : (c : After-index-offset)
    → IsFilled (record {
      chunk = get_or c.args.chunks.now c.in_ok-last.last nowhere;
      used = c.index-offset.result.now;
    })
filled c =
    let within : c.in_ok-last.last < length c.args.chunks.now = omega (arith, last_len c) in
    subst (λ n. IsFilled (record {
      chunk = get_or c.args.chunks.now c.in_ok-last.last nowhere;
      used = n;
    })) (sym c.index-offset.ensures)
    (filled-at c.args.chunks.now c.args.used.now.items c.in_ok-last.last nowhere
    c.index-offset.result.now c.requires.pairs within c.requires.each)

last_is : (c : After-index-offset)
    → last_of (chain_of c.args.chunks.now c.args.used.now.items)
    ≡ Some (record {
      chunk = get_or c.args.chunks.now c.in_ok-last.last nowhere;
      used = c.index-offset.result.now;
    })
last_is c =
    last-chain_of c.args.chunks.now c.args.used.now.items c.in_ok-last.last nowhere
    c.index-offset.result.now c.requires.pairs (last_len c)
    ∙ ap (λ n. Some (record {
      chunk = get_or c.args.chunks.now c.in_ok-last.last nowhere;
      used = n;
    })) (sym c.index-offset.ensures)

pub size-requires : goal.size-requires
size-requires c = (filled (goal.at.size-requires c).After-index-offset).small

pub overflow_sub-size : goal.overflow_sub-size
overflow_sub-size c =
    omega (arith, c.size.ensures, (filled (goal.at.overflow_sub-size c).After-index-offset).within)

pub returns-then-words-size-clause-none : goal.returns-then-words-size-clause-none
returns-then-words-size-clause-none c =
    let last = last_is (goal.at.returns-then-words-size-clause-none c).After-index-offset in (
      λ room.
          let fits = subst (λ o. IsSomeAnd o
          (λ (f : Filled). f.used + c.args.words ≤ chunk_size f.chunk.order)) last room in
          absurd (omega (arith, fits, c.size.ensures)),
      refl,
    )

pub returns-clause-some : goal.returns-clause-some
returns-clause-some c =
    let at = (goal.at.returns-clause-some c).After-index-offset in
    let cs = c.args.chunks.now in
    let us = c.args.used.now.items in
    let k = c.in_ok-last.last in
    record {
      last = last_is at;
      room = omega (arith, c.size.ensures, (filled at).within);
      amount = refl;
      after = ap (λ n. chain_of cs (set us k (n + c.args.words))) c.index-offset.ensures
          ∙ more-chain_of cs us k c.args.words c.index-offset.result.now c.requires.pairs
          (last_len at);
    }

pub returns-clause-kept : goal.returns-clause-kept
returns-clause-kept c = λ some.
    let at = (goal.at.returns-clause-kept c).After-index-offset in
    let cs = c.args.chunks.now in
    let us = c.args.used.now.items in
    let k = c.in_ok-last.last in
    let within : k < length cs = omega (arith, last_len at) in
    record {
      pairs = c.requires.pairs ∙ sym (length-set us k _);
      each = filled-set cs us k (c.index-offset.result.now + c.args.words) nowhere c.requires.pairs
          within c.requires.each
          (record {
            small = (filled at).small;
            some = omega arith;
            within = omega (arith, c.size.ensures, (filled at).within);
          });
    }
