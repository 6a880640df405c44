use Rattle.std.proofs.Common.{ap}
use Rattle.cm_cache.proofs.ChannelSteps.{receives, learns_nothing}
use Rattle.cm_cache.proofs.ends.Incoming.receive_now.Goals as goal

pub try_recv_as-requires-clause-rule : goal.try_recv_as-requires-clause-rule
try_recv_as-requires-clause-rule g c =
    (receives _ _ (ap (λ v. v.receives) c.self.invariant.2), learns_nothing _ _)
