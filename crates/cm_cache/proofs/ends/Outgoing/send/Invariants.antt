use Rattle.std.proofs.Common.{◌≡◌}
use Rattle.cm_cache.proofs.ends.Outgoing.send.Given as goal

abbrev pub invariant-loop : goal.invariant-loop
invariant-loop g l = (l.self ≡ l.initial.self) × (l.message ≡ l.initial.message)
