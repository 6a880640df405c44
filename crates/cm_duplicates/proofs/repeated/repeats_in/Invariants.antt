use Rattle.cm_duplicates.proofs.Repeating.{RepeatsBefore}
use Rattle.cm_duplicates.proofs.repeated.repeats_in.Given as goal

abbrev pub invariant-loop-place : goal.invariant-loop-place
invariant-loop-place l = RepeatsBefore l.sorted l.repeated.items l.place
