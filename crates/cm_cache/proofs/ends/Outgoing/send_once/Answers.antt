use Rattle.std.proofs.Common.{List, ap, subst, sym, ◌∙◌}
use Rattle.cm_cache.specs.declared.channel.Base.{Base}
use Rattle.cm_cache.specs.declared.channel.Message.{Message}
use Rattle.cm_cache.specs.Channel.{OutgoingState, entries_of, is_open, MayBeSent}
use Rattle.cm_cache.proofs.ChannelSteps.{sends, learns_nothing}
use Rattle.cm_cache.proofs.ends.Outgoing.send_once.Goals as goal

pub send_as-requires-clause-rule : goal.send_as-requires-clause-rule
send_as-requires-clause-rule g c =
    let sent = ap (λ (o : OutgoingState). o.sent) c.self.view_is in
    let base = c.self.invariant.3 in (
      sends _ _ _ _ c.self.invariant.2
          (ap is_open sent ∙ c.requires.still_open)
          (subst (λ (t : Base × List Message). MayBeSent t.0 (entries_of t.1) c.args.message)
          (λ i. (sym base i, sym sent i)) c.requires.may),
      learns_nothing _ _,
    )
