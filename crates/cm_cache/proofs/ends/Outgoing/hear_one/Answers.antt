use Rattle.std.proofs.Common.{◌++◌, sym, ap, ◌∙◌}
use Rattle.cm_cache.specs.declared.channel.ChannelView.{ChannelView}
use Rattle.cm_cache.specs.Channel.{ChannelId, OutgoingState, WitnessState}
use Rattle.cm_cache.proofs.ChannelSteps.{hears_witness, knows}
use Rattle.cm_cache.proofs.ends.Outgoing.hear_one.Goals as goal

pub absorb-requires-clause-channel : goal.absorb-requires-clause-channel
absorb-requires-clause-channel g c =
    let mine = c.self.invariant in
    let theirs = c.witness.invariant in (
      mine.0,
      (
        theirs.0 ∙ sym (ap (λ (i : ChannelId). i.table) mine.1),
        theirs.1 ∙ sym (ap (λ (i : ChannelId). i.key) mine.1),
        theirs.2,
        mine.0.3,
      ),
    )

pub absorb-requires-clause-rule : goal.absorb-requires-clause-rule
absorb-requires-clause-rule g c = hears_witness _ _ _ _

pub learn_as-requires-clause-rule : goal.learn_as-requires-clause-rule
learn_as-requires-clause-rule g c =
    knows _ _ (ap (λ (v : ChannelView). v.sends) c.absorb.ensures.rule ∙ c.self.invariant.2)

pub returns-clause-known : goal.returns-clause-known
returns-clause-known g c =
    let absorbed = c.absorb.ensures.rule in
    let rule = c.learn_as.ensures.rule.1 in (
      rule.0,
      sym (ap (λ (o : OutgoingState). o.sent) c.self.view_is)
          ∙ sym (ap (λ (v : ChannelView). v.sent) absorbed)
          ∙ rule.1
          ∙ ap (λ (v : ChannelView). v.known ++ rule.0) absorbed
          ∙ ap (λ (w : WitnessState). w.known ++ rule.0) c.witness.view_is,
    )

pub returns-clause-taken : goal.returns-clause-taken
returns-clause-taken g c =
    ap (λ (v : ChannelView). record { sent = v.sent; owned = v.owned })
    (c.learn_as.ensures.channel.2 ∙ c.absorb.ensures.rule)
    ∙ (λ i. record {
      sent = (c.self.view_is i).sent;
      owned = (c.self.view_is i).owned ++ (c.witness.view_is i).owned;
    })
