use Rattle.std.proofs.Common.{[], List, subst}
use Rattle.cm_cache.specs.declared.channel.Base.{Base}
use Rattle.cm_cache.specs.declared.channel.Message.{Message}
use Rattle.cm_cache.specs.Channel.{InOrder}
use Rattle.cm_cache.proofs.ChannelSteps.{orders}
use Rattle.cm_cache.proofs.ends.Outgoing.ordered.Goals as goal

pub learn_as-requires-clause-rule : goal.learn_as-requires-clause-rule
learn_as-requires-clause-rule g c =
    orders _ _ c.self.invariant.2

pub returns-clause-ordered : goal.returns-clause-ordered
returns-clause-ordered g c =
    subst (λ (t : Base × List Message). InOrder t.0 [] t.1)
    (λ i. (c.self.invariant.3 i, (c.self.view_is i).sent))
    c.learn_as.ensures.rule.1
