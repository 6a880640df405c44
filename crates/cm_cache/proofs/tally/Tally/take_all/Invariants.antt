use Rattle.cm_cache.specs.Closing.{AreTaken}
use Rattle.cm_cache.proofs.tally.Tally.take_all.Given as goal

abbrev pub invariant-loop-pass : goal.invariant-loop-pass
invariant-loop-pass g l =
    AreTaken g.K.Naming.base l.initial.self l.initial.poster l.initial.settled l.yielded l.self
    l.poster l.settled
