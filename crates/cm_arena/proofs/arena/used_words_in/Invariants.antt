use Rattle.std.proofs.Common.{◌≡◌, drop}
use Rattle.cm_arena.specs.Chains.{used_of, chain_of}
use Rattle.cm_arena.proofs.arena.used_words_in.Given as goal

abbrev pub invariant-loop-at : goal.invariant-loop-at
invariant-loop-at l = used_of (chain_of (drop l.at l.chunks) (drop l.at l.used)) l.chunk
    ≡ used_of (chain_of l.chunks l.used) l.chunk
