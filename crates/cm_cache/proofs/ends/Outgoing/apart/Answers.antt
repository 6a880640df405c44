use Rattle.std.proofs.Common.{subst}
use Rattle.cm_cache.specs.Channel.{OutgoingState, AreApart}
use Rattle.cm_cache.proofs.ChannelSteps.{owns_apart}
use Rattle.cm_cache.proofs.ends.Outgoing.apart.Goals as goal

pub learn_as-requires-clause-rule : goal.learn_as-requires-clause-rule
learn_as-requires-clause-rule g c = owns_apart _ _

pub returns-clause-apart : goal.returns-clause-apart
returns-clause-apart g c =
    subst (λ (o : OutgoingState). AreApart o.owned) c.self.view_is c.learn_as.ensures.rule.1
