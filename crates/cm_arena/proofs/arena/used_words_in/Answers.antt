use Rattle.std.proofs.Common.{◌≡◌, ◌+◌, false, cond, Some, get_or, drop, sym, ap, ◌∙◌}
use Rattle.cm_pool.specs.declared.chunk.Chunk.{Chunk}
use Rattle.cm_pool.specs.Chunks.{same_chunk}
use Rattle.cm_arena.specs.Chains.{used_of, chain_of}
use Rattle.cm_arena.proofs.ChainFacts.{used_of-drop}
use Rattle.cm_arena.proofs.arena.used_words_in.Goals as goal

pub loop-at-preserved : goal.loop-at-preserved
loop-at-preserved c =
    let cs = c.args.chunks.now in
    let us = c.args.used.now in
    let at = c.loop-at.at in
    let none : Chunk = record { root = 0; order = 0; at = 0 } in
    let rest = used_of (chain_of (drop (at + 1) cs) (drop (at + 1) us)) c.args.chunk.now in
    let other : same_chunk (get_or cs at none) c.args.chunk.now ≡ false =
    sym c.eq.ensures ∙ c.if-eq.false in
    sym (used_of-drop cs us at none c.args.chunk.now 0 c.requires c.loop-at-test.true ∙ ap
    (λ b. cond b (Some (get_or us at 0)) rest) other) ∙ c.loop-at.invariant
