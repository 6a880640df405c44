use Rattle.std.proofs.Common.{◌≡◌, suc, ◌+◌, ◌-◌, ◌<◌, ◌≤◌, length, get_or, Some, IsSomeAnd, sym}
use Rattle.std.proofs.Common.{subst, arith}
use Rattle.std.proofs.lemmas.Bool.{leb-true, le-leb}
use Rattle.cm_pool.specs.declared.chunk.Chunk.{Chunk}
use Rattle.cm_pool.specs.Chunks.{chunk_size}
use Rattle.cm_arena.specs.Chains.{Filled, chain_of, last_of, IsFilled}
use Rattle.cm_arena.proofs.ChainFacts.{last-chain_of, filled-at}
use Rattle.cm_arena.proofs.arena.has_room.Goals as goal
use Rattle.cm_arena.proofs.arena.has_room.Goals.{In-Some}

abbrev nowhere : Chunk
nowhere = record { root = 0; order = 0; at = 0 }

last_len : (c : In-Some) → length c.args.chunks.now ≡ suc c.in-Some.last
last_len c = omega (arith, c.in-Some.ensures.0, c.in-Some.ensures.1)

filled : (c : In-Some)
    → IsFilled (record {
      chunk = get_or c.args.chunks.now c.in-Some.last nowhere;
      used = get_or c.args.used.now c.in-Some.last 0;
    })
filled c =
    let within : c.in-Some.last < length c.args.chunks.now = omega (arith, last_len c) in
    filled-at c.args.chunks.now c.args.used.now c.in-Some.last nowhere 0 c.requires.pairs within
    c.requires.each

last_is : (c : In-Some)
    → last_of (chain_of c.args.chunks.now c.args.used.now)
    ≡ Some (record {
      chunk = get_or c.args.chunks.now c.in-Some.last nowhere;
      used = get_or c.args.used.now c.in-Some.last 0;
    })
last_is c =
    last-chain_of c.args.chunks.now c.args.used.now c.in-Some.last nowhere 0 c.requires.pairs
    (last_len c)

pub size-requires : goal.size-requires
size-requires c = (filled (goal.at.size-requires c).In-Some).small

pub overflow_sub-result : goal.overflow_sub-result
overflow_sub-result c =
    omega (arith, c.size.ensures, (filled (goal.at.overflow_sub-result c).In-Some).within)

pub returns : goal.returns
returns c =
    let at = (goal.at.returns c).In-Some in
    let last = last_is at in
    let full = (filled at).within in
    let used = get_or c.args.used.now c.in-Some.last 0 in (
      λ h.
          let fits : c.args.words ≤ c.size.result - used =
          leb-true c.args.words (c.size.result - used) h in
          subst (λ o. IsSomeAnd o (λ (f : Filled). f.used + c.args.words
          ≤ chunk_size f.chunk.order)) (sym last) (omega (arith, fits, c.size.ensures, full)),
      λ room.
          let fits =
          subst (λ o. IsSomeAnd o (λ (f : Filled). f.used + c.args.words
          ≤ chunk_size f.chunk.order)) last room in
          le-leb c.args.words (c.size.result - used) (omega (arith, fits, c.size.ensures, full)),
    )
