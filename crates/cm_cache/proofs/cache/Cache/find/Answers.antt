use Rattle.std.specs.Arc.{arc_value}
use Rattle.cm_cache.specs.Handing.{rows_sent}
use Rattle.cm_cache.proofs.Found.{found_is_named}
use Rattle.cm_cache.proofs.cache.Cache.find.Goals as goal

pub returns-clause-named : goal.returns-clause-named
returns-clause-named g c =
    found_is_named arc_value c.rows_tell_state.ensures.classes.1
    (rows_sent g.K.Naming.base c.deref.result.now.sent) c.args.loader.now
    c.args.class.now _ c.find.ensures.found
