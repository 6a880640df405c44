use Rattle.cm_record_laying.specs.Laying.{LaysNumbers}
use Rattle.cm_record_laying.proofs.lists.lay_interfaces.Given as goal

abbrev pub invariant-loop : goal.invariant-loop
invariant-loop l = LaysNumbers l.counter l.bytes l.fn.sections l.sections l.rest
