use Rattle.std.proofs.Common.{[], refl, sym}
use Rattle.std.proofs.lemmas.List.{append-nil}
use Rattle.cm_cache.proofs.flushing.Ended.drain.Goals as goal

pub loop-init : goal.loop-init
loop-init g c = (c.requires, refl, ([], sym (append-nil _)))
