use Rattle.std.proofs.Common.{sym, ap, ◌∙◌}
use Rattle.cm_cache.specs.declared.channel.ChannelView.{ChannelView}
use Rattle.cm_cache.specs.Channel.{ChannelId, witness as witness_view}
use Rattle.cm_cache.proofs.ChannelSteps.{witnesses}
use Rattle.cm_cache.proofs.ends.Outgoing.witness.Goals as goal

pub another-pass-requires-clause-rule : goal.another-pass-requires-clause-rule
another-pass-requires-clause-rule g c =
    witnesses _ _ c.self.invariant.2

pub invariant_of-result : goal.invariant_of-result
invariant_of-result g c =
    let made = c.another-pass.ensures in
    let named = c.self.invariant.1 in (
      made.channel.2.0 ∙ ap (λ (i : ChannelId). i.table) named,
      made.channel.2.1 ∙ ap (λ (i : ChannelId). i.key) named,
      made.channel.2.2,
      made.rule.1
          ∙ sym (ap (λ (v : ChannelView). witness_view v.known v.owned) made.rule.1),
    )
