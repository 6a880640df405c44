use Rattle.std.proofs.Common.{◌≡◌}
use Rattle.cm_cache.proofs.ends.Incoming.receive.Given as goal

abbrev pub invariant-loop : goal.invariant-loop
invariant-loop g l = l.self ≡ l.initial.self
