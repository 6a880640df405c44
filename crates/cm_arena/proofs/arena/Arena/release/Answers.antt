use Rattle.std.proofs.Common.{sym, ap, ◌∙◌}
use Rattle.cm_arena.specs.Chains.{chain_chunks}
use Rattle.cm_arena.proofs.ChainFacts.{chunks-chain_of}
use Rattle.cm_arena.proofs.arena.Arena.release.Goals as goal

pub returns : goal.returns
returns c =
    let a = c.self.inside in
    sym (chunks-chain_of a.chunks.items a.used.items c.self.invariant.pairs)
    ∙ ap chain_chunks c.self.view_is
