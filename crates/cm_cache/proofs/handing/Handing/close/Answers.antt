use Rattle.std.proofs.Common.{sym, subst}
use Rattle.cm_front.specs.Front.{IsFront}
use Rattle.cm_cache.specs.Handing.{IsTied}
use Rattle.cm_cache.proofs.Tied.{failed_is_tied}
use Rattle.cm_cache.proofs.handing.Handing.close.Goals as goal

pub invariant_of-self : goal.invariant_of-self
invariant_of-self g c = (
  subst
      (λ f. IsTied g.K.Naming.base (record { front = f; sent = c.self.inside.outgoing.sent }))
      (sym c.close.ensures)
      (failed_is_tied c.ahead_stays_ahead.ensures.failed _ _ _ _ c.self.invariant.0
      (subst IsFront c.close.ensures c.invariant_holds.ensures)),
  c.self.invariant.1,
)
