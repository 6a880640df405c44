use Rattle.std.proofs.Common.{◌≡◌, map, take}
use Rattle.cm_constraints.specs.Subject.{judgement_in}
use Rattle.cm_constraints.proofs.utf8s.judgements.Given as goal

abbrev pub invariant-loop-slot : goal.invariant-loop-slot
invariant-loop-slot l = l.table.items ≡ map judgement_in (take l.slot-index l.slots)
