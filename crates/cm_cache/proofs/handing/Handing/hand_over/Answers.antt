use Rattle.std.proofs.Common.{◌≡◌, [], ◌∷◌, ◌++◌, List, refl, ap, sym, subst, ◌∙◌}
use Rattle.cm_commands.specs.Commands.{change_asked}
use Rattle.cm_cache.specs.declared.channel.Message.{Message}
use Rattle.cm_cache.specs.declared.channel.Message.TheVariants.{Group}
use Rattle.cm_front.specs.Front.{FrontState}
use Rattle.cm_cache.specs.Channel.{OutgoingState, entries_of, is_open, MayBeSent}
use Rattle.cm_cache.specs.Handing.{HandingState, IsTied, MayAccept, HandsOver}
use Rattle.cm_cache.proofs.Tied.{carries_on, still_tied, may_accept, hands_over}
use Rattle.cm_cache.proofs.handing.Handing.hand_over.Goals as goal

pub send-requires-clause-still_open : goal.send-requires-clause-still_open
send-requires-clause-still_open g c =
    ap (λ (o : OutgoingState). is_open o.sent) c.hear.ensures.taken ∙ c.self.invariant.0.unended

pub send-requires-clause-may : goal.send-requires-clause-may
send-requires-clause-may g c =
    subst
    (λ (o : OutgoingState).
    MayBeSent g.K.Naming.base (entries_of o.sent) (Group c.in-Ok.taken.1))
    (sym c.hear.ensures.taken)
    (carries_on _ _ _ _ _ _ c.self.invariant.0 c.in-Ok.ensures.ok
    c.ahead_stays_ahead.ensures.accepted c.groups_may_follow.ensures.handed)

pub invariant_of-self-2 : goal.invariant_of-self-2
invariant_of-self-2 g c =
    subst
    (λ (o : OutgoingState).
    IsTied g.K.Naming.base (record { front = c.take_out.new.front; sent = o.sent })
    × (o.owned ≡ []))
    (sym c.witness-2.ensures.given) (
      subst
          (λ l. IsTied g.K.Naming.base (record { front = c.take_out.new.front; sent = l }))
          (sym sent_is)
          (still_tied _ _ _ _ _ _ c.self.invariant.0 c.in-Ok.ensures.ok
          c.ahead_stays_ahead.ensures.accepted c.ahead_stays_ahead.ensures.handed),
      refl,
    )
  where
    sent_is : c.send.new.self.sent ≡ c.self.inside.outgoing.sent ++ Group c.in-Ok.taken.1 ∷ []
    sent_is =
        ap (λ (o : OutgoingState). o.sent) c.send.ensures
        ∙ ap (λ (o : OutgoingState). o.sent ++ Group c.in-Ok.taken.1 ∷ []) c.hear.ensures.taken

pub returns-clause-ok : goal.returns-clause-ok
returns-clause-ok g c =
    subst
    (λ (x : List Message × List Message).
    HandsOver g.K.Naming.base x.0 (change_asked c.args.command) c.in-Ok.taken.0 x.1)
    (λ i. ((c.self.view_is i).sent, sym now_is i))
    (hands_over _ _ _ _ _ _ c.self.invariant.0 c.in-Ok.ensures.ok)
  where
    now_is : c.witness-2.new.self.sent
        ≡ c.self.inside.outgoing.sent ++ Group c.in-Ok.taken.1 ∷ []
    now_is =
        ap (λ (o : OutgoingState). o.sent) c.witness-2.ensures.given
        ∙ ap (λ (o : OutgoingState). o.sent) c.send.ensures
        ∙ ap (λ (o : OutgoingState). o.sent ++ Group c.in-Ok.taken.1 ∷ []) c.hear.ensures.taken

pub returns-clause-fits : goal.returns-clause-fits
returns-clause-fits g c =
    subst (λ (f : FrontState). MayAccept f (change_asked c.args.command) c.in-Ok.taken.0)
    (ap (λ (h : HandingState). h.front) c.self.view_is)
    (may_accept _ _ _ _ _ _ c.self.invariant.0 c.in-Ok.ensures.ok)
