use Rattle.std.proofs.Common.{[], ap, ◌∙◌}
use Rattle.cm_cache.specs.declared.channel.ChannelView.{ChannelView}
use Rattle.cm_cache.specs.Channel.{OutgoingState, known_to}
use Rattle.cm_cache.proofs.ChannelSteps.{joins, totals, all_received}
use Rattle.cm_cache.proofs.ends.Outgoing.settle.Goals as goal

pub absorb-requires-clause-rule : goal.absorb-requires-clause-rule
absorb-requires-clause-rule g c =
    joins _ _ _ _ c.self.invariant.2
    (ap (λ (v : ChannelView). v.receives) c.other.invariant.2)

pub learn_as-requires-clause-rule : goal.learn_as-requires-clause-rule
learn_as-requires-clause-rule g c =
    totals _ _ (ap (λ (v : ChannelView). v.sends) c.absorb.ensures.rule)
    (ap (λ (v : ChannelView). v.receives) c.absorb.ensures.rule)

pub returns-clause-whole : goal.returns-clause-whole
returns-clause-whole g c =
    all_received (known_to c.absorb.new.pass) _ _ c.learn_as.ensures.rule.0
    (ap (λ (v : ChannelView). v.sent) c.absorb.ensures.rule
    ∙ ap (λ (o : OutgoingState). o.sent) c.self.view_is)
    (ap (λ (v : ChannelView). v.received) c.absorb.ensures.rule ∙ c.other.view_is)
    c.learn_as.ensures.rule.1

pub invariant_of-result : goal.invariant_of-result
invariant_of-result g c =
    let is = c.learn_as.ensures.channel.2 ∙ c.absorb.ensures.rule in (
      c.learn_as.ensures.channel.0,
      c.self.invariant.1,
      ap (λ (v : ChannelView). v.sends) is,
      ap (λ (v : ChannelView). v.base) is ∙ c.self.invariant.3,
    )

pub returns-clause-same : goal.returns-clause-same
returns-clause-same g c =
    let is = c.learn_as.ensures.channel.2 ∙ c.absorb.ensures.rule in
    ap (λ (v : ChannelView). record { sent = v.sent; owned = v.owned }) is
    ∙ ap (λ (o : OutgoingState). record { sent = o.sent; owned = [] }) c.self.view_is
