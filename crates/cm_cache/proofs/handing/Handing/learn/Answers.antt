use Rattle.std.proofs.Common.{ap, ◌∙◌}
use Rattle.cm_cache.specs.Handing.{HandingState, with_receipt}
use Rattle.cm_cache.proofs.Tied.{learn_is_tied, learnt_by_receipt}
use Rattle.cm_cache.proofs.handing.Handing.learn.Goals as goal

pub invariant_of-self : goal.invariant_of-self
invariant_of-self g c =
    let learnt = c.learn-learnt.ensures in (
      learn_is_tied c.handed_groups_are_next.ensures.committed
          c.ahead_stays_ahead.ensures.learnt _ _ _ _
          c.self.invariant.0 c.learn-learnt.result learnt.known.0 learnt.ok learnt.err
          c.invariant_holds.ensures,
      c.self.invariant.1,
    )

pub returns : goal.returns
returns g c =
    let learnt = c.learn-learnt.ensures in
    ap (λ f. record { front = f; sent = c.self.inside.outgoing.sent })
    (learnt_by_receipt c.self.inside.front _ c.args.receipt.number c.learn-learnt.result
    learnt.known learnt.ok learnt.err)
    ∙ ap (λ (h : HandingState).
    record { front = with_receipt h.front c.args.receipt.number; sent = h.sent })
    c.self.view_is
