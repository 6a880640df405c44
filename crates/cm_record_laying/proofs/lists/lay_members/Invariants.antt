use Rattle.cm_record_laying.specs.Laying.{LaysMembers}
use Rattle.cm_record_laying.proofs.lists.lay_members.Given as goal

abbrev pub invariant-loop : goal.invariant-loop
invariant-loop l = LaysMembers l.counter l.bytes l.fn.sections l.sections l.rest
