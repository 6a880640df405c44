use Rattle.cm_record_laying.specs.Laying.{LaysAttributes}
use Rattle.cm_record_laying.proofs.lists.lay_attributes.Given as goal

abbrev pub invariant-loop : goal.invariant-loop
invariant-loop l = LaysAttributes l.counter l.bytes l.fn.sections l.sections l.rest
