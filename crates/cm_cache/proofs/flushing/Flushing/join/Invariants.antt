use Rattle.cm_cache.specs.Flushing.{OnlyReceives}
use Rattle.cm_cache.proofs.flushing.Flushing.join.Given as goal

abbrev pub invariant-loop : goal.invariant-loop
invariant-loop g l = OnlyReceives l.initial.self l.self
