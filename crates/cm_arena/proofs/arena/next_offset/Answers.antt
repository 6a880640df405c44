use Rattle.std.proofs.Common.{◌≡◌, suc, true, false, cond, length, get_or, sym, ap, ◌∙◌, arith}
use Rattle.cm_pool.specs.declared.chunk.Chunk.{Chunk}
use Rattle.cm_pool.specs.Chunks.{same_chunk}
use Rattle.cm_arena.proofs.ChainFacts.{next-chain_of}
use Rattle.cm_arena.proofs.arena.next_offset.Goals as goal

pub returns-then-eq : goal.returns-then-eq
returns-then-eq c =
    let cs = c.args.chunks.now in
    let us = c.args.used.now in
    let k = c.in-Some.last in
    let nowhere : Chunk = record { root = 0; order = 0; at = 0 } in
    let some : length cs ≡ suc k = omega (arith, c.in-Some.ensures.0, c.in-Some.ensures.1) in
    let same : same_chunk (get_or cs k nowhere) c.args.chunk.now ≡ true =
    sym c.eq.ensures ∙ c.if-eq.true in
    sym (next-chain_of cs us k nowhere c.args.chunk.now 0 c.requires some ∙ ap
    (λ b. cond b (get_or us k 0) 0) same)

pub returns-else-eq : goal.returns-else-eq
returns-else-eq c =
    let cs = c.args.chunks.now in
    let us = c.args.used.now in
    let k = c.in-Some.last in
    let nowhere : Chunk = record { root = 0; order = 0; at = 0 } in
    let some : length cs ≡ suc k = omega (arith, c.in-Some.ensures.0, c.in-Some.ensures.1) in
    let other : same_chunk (get_or cs k nowhere) c.args.chunk.now ≡ false =
    sym c.eq.ensures ∙ c.if-eq.false in
    sym (next-chain_of cs us k nowhere c.args.chunk.now 0 c.requires some ∙ ap
    (λ b. cond b (get_or us k 0) 0) other)
