use Rattle.std.proofs.Common.{[], sym, ap, ◌∙◌}
use Rattle.std.specs.Option.{unwrap_or}
use Rattle.cm_arena.specs.Chains.{used_of}
use Rattle.cm_space.proofs.Views.{view-get}
use Rattle.cm_space.proofs.space.Space.used_words.Goals as goal

pub returns-in_err-get : goal.returns-in_err-get
returns-in_err-get c =
    let a = c.self.inside in
    let none =
    sym (view-get a.pool a.arenas.entries a.waiting.items c.args.self.now c.args.loader
    c.self.view_is) ∙ sym c.in_err-get.ensures.value in
    c.from_residual.ensures ∙ ap (λ o. used_of (unwrap_or o []) c.args.chunk.now) (sym none)

pub returns : goal.returns
returns c =
    let a = c.self.inside in
    let some =
    sym (view-get a.pool a.arenas.entries a.waiting.items c.args.self.now c.args.loader
    c.self.view_is) ∙ sym c.in_ok-get.ensures.value in
    c.used_words.ensures ∙ ap (λ o. used_of (unwrap_or o []) c.args.chunk.now) (sym some)
