use Rattle.std.proofs.Common.{ap, sym, ◌∙◌}
use Rattle.std.specs.Prelude.{is_some}
use Rattle.cm_space.proofs.Views.{view-get}
use Rattle.cm_space.proofs.space.Space.is_known.Goals as goal

pub returns : goal.returns
returns c =
    let a = c.self.inside in
    let same =
    c.contains_key.ensures ∙ ap is_some
    (view-get a.pool a.arenas.entries a.waiting.items c.args.self.now c.args.loader
    c.self.view_is) in
    (λ h. sym same ∙ h, λ h. same ∙ h)
