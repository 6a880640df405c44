use Rattle.std.proofs.Common.{ap, sym, ◌∙◌}
use Rattle.cm_cache.specs.Handing.{HandingState, rows_sent}
use Rattle.cm_cache.proofs.Tied.{rows_tied}
use Rattle.cm_cache.proofs.handing.Handing.front.Goals as goal

pub returns-clause-rows : goal.returns-clause-rows
returns-clause-rows g c =
    ap (λ (h : HandingState). h.front.rows) (sym c.self.view_is)
    ∙ rows_tied _ _ c.self.invariant.0
    ∙ ap (λ (h : HandingState). rows_sent g.K.Naming.base h.sent) c.self.view_is
