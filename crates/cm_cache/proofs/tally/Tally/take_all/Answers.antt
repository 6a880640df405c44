use Rattle.std.proofs.Common.{◌∙◌}
use Rattle.std.proofs.lemmas.Iterator.Adapters.{YieldsList-from_vec}
use Rattle.std.proofs.lemmas.Iterator.Consumers.{YieldsList-end}
use Rattle.cm_cache.proofs.Counted.{none_taken, one_taken, all_taken}
use Rattle.cm_cache.proofs.tally.Tally.take_all.Goals as goal

pub loop-pass-init : goal.loop-pass-init
loop-pass-init g c = none_taken _ _ _ _

pub loop-pass-preserved : goal.loop-pass-preserved
loop-pass-preserved g c =
    one_taken _ _ _ _ _ _ _ _ _ _ _ _ c.loop-pass.invariant c.take.ensures.handed
    c.take.ensures.missing c.take.ensures.of_passes c.take.ensures.poster c.take.ensures.seen
    c.take.ensures.marked c.take.ensures.settled c.take.ensures.apart c.take.ensures.counted
    c.take.ensures.changes

pub returns : goal.returns
returns g c =
    let b = c.into_iter-pass-iterator.ensures.into_iter_gives in
    let end = YieldsList-end
    (YieldsList-from_vec {s = c.into_iter-pass-iterator.result} c.args.passes.items b.0
    (b.1 ∙ c.args.passes.ok.0)) c.loop-pass.yielded c.loop-pass.pass-iterator
    c.loop-pass.yielded_by c.next.result c.next.new.self c.in-None.is c.next.ensures.steps in
    all_taken _ _ _ _ _ _ _ _ _ c.loop-pass.invariant end.0
