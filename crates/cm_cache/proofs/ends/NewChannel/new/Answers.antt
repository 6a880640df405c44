use Rattle.cm_cache.proofs.ChannelSteps.{begins}
use Rattle.cm_cache.proofs.ends.NewChannel.new.Goals as goal

pub bounded_with-requires-clause-rule : goal.bounded_with-requires-clause-rule
bounded_with-requires-clause-rule c = begins
