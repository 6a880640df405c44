use Rattle.cm_record_laying.proofs.measure.pass_slots.Given as goal

abbrev pub decreases-loop-left : goal.decreases-loop-left
decreases-loop-left l = l.left
