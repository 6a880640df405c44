use Rattle.std.proofs.Common.{◌∙◌, sym, ap}
use Rattle.std.specs.Prelude.{◌&&◌}
use Rattle.cm_layout.specs.Rules.{differ}
use Rattle.cm_rows.proofs.live_rows.are_different.Goals as goal

pub loop-first-preserved : goal.loop-first-preserved
loop-first-preserved c =
    let others = c.in-Some.others.now in
    ap (λ t. t && differ others) c.if-not-differs_from_all.ensures
    ∙ ap differ (sym c.in-Some.ensures.cases.0) ∙ c.loop-first.invariant
