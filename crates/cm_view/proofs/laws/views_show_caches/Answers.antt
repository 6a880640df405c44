use Rattle.cm_view.proofs.Cache.{shows_cache}
use Rattle.cm_view.proofs.laws.views_show_caches.Goals as goal

pub returns : goal.returns
returns c =
    shows_cache c.found_is_live.ensures c.verdict_is_exact.ensures.stands
    c.verdict_is_exact.ensures.ok c.rows_tell_state.ensures.loaders.0
    c.rows_tell_state.ensures.classes.0
