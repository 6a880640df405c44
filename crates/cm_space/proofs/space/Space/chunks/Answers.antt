use Rattle.std.proofs.Common.{ap, ◌∙◌, Some}
use Rattle.std.specs.Option.{option_map}
use Rattle.cm_arena.specs.Chains.{chain_chunks}
use Rattle.cm_space.proofs.Views.{view-get}
use Rattle.cm_space.proofs.space.Space.chunks.Goals as goal

pub returns-in-Some : goal.returns-in-Some
returns-in-Some c =
    let a = c.self.inside in
    ap Some c.chunks.ensures
    ∙ ap (option_map chain_chunks) (c.in-Some.ensures.value
    ∙ view-get a.pool a.arenas.entries a.waiting.items c.args.self.now c.args.loader
    c.self.view_is)

pub returns-in-None : goal.returns-in-None
returns-in-None c =
    let a = c.self.inside in
    ap (option_map chain_chunks) (c.in-None.ensures.value
    ∙ view-get a.pool a.arenas.entries a.waiting.items c.args.self.now c.args.loader
    c.self.view_is)
