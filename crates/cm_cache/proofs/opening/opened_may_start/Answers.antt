use Rattle.cm_cache.proofs.Opened.{may_start}
use Rattle.cm_cache.proofs.opening.opened_may_start.Goals as goal

pub returns : goal.returns
returns g c = λ contents opens.
    may_start c.found_is_live.ensures c.found_is_framed.ensures.framed
    c.verdict_is_exact.ensures.stands c.words_tell_name.ensures c.opened_is_ahead.ensures
    g.D.Disk.view.failures contents _ _ opens c.invariant_holds.ensures
