use Rattle.cm_cache.proofs.ChannelSteps.{splits}
use Rattle.cm_cache.proofs.ends.NewChannel.named.Goals as goal

pub another-other-requires-clause-rule : goal.another-other-requires-clause-rule
another-other-requires-clause-rule g c = splits _ _ g.K.Naming.base c.args.self.is_new
