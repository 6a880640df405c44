use Rattle.std.proofs.Common.{◌≡◌, true, List, ◌++◌}
use Rattle.cm_cache.specs.declared.channel.Message.{Message}
use Rattle.cm_cache.proofs.flushing.Ended.drain.Given as goal

abbrev pub invariant-loop : goal.invariant-loop
invariant-loop g l =
    (l.self.committer.broken ≡ true) × (l.self.committer ≡ l.initial.self.committer)
    × ((more : List Message) × (l.self.received ≡ l.initial.self.received ++ more))
