use Rattle.cm_view.proofs.Exact.{view_exact}
use Rattle.cm_view.proofs.laws.view_is_exact.Goals as goal

pub returns : goal.returns
returns c =
    view_exact c.verdict_is_exact.ensures.stands c.verdict_is_exact.ensures.ok
    c.rows_tell_state.ensures.classes.0
