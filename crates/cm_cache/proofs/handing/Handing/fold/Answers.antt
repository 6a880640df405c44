use Rattle.std.proofs.Common.{◌≡◌, [], ap, sym, subst, ◌∙◌}
use Rattle.cm_handover.specs.Ahead.{AllFollow}
use Rattle.cm_handover.specs.Folding.{LeadTo}
use Rattle.cm_state.specs.State.{state_of, words_show}
use Rattle.cm_cache.specs.Channel.{OutgoingState, entries_of}
use Rattle.cm_cache.specs.Handing.{HandingState, IsTied}
use Rattle.cm_cache.proofs.Leaving.{sent_follow}
use Rattle.cm_cache.proofs.Tied.{sent_leads}
use Rattle.cm_cache.proofs.handing.Handing.fold.Goals as goal

pub invariant_of-self : goal.invariant_of-self
invariant_of-self g c =
    subst
    (λ (o : OutgoingState).
    IsTied g.K.Naming.base (record { front = c.self.inside.front; sent = o.sent })
    × (o.owned ≡ []))
    (sym c.ordered.ensures.same) c.self.invariant

pub returns-clause-same : goal.returns-clause-same
returns-clause-same g c =
    ap (λ (o : OutgoingState). record { front = c.self.inside.front; sent = o.sent })
    c.ordered.ensures.same
    ∙ c.self.view_is

pub returns-clause-follow : goal.returns-clause-follow
returns-clause-follow g c =
    let base = g.K.Naming.base in
    subst (λ (h : HandingState). AllFollow base.sizes base.rows base.number (entries_of h.sent))
    c.self.view_is (sent_follow base _ c.ordered.ensures.ordered)

pub returns-clause-leads : goal.returns-clause-leads
returns-clause-leads g c =
    let base = g.K.Naming.base in
    subst
    (λ (h : HandingState). LeadTo base.sizes base.rows base.number (entries_of h.sent)
    (state_of words_show h.front.rows))
    c.self.view_is
    (sent_leads c.handed_changes_lead_on.ensures base _ c.self.invariant.0
    (sent_follow base _ c.ordered.ensures.ordered))
