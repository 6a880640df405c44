use Rattle.std.proofs.Common.{◌≡◌, drop}
use Rattle.cm_index.specs.Living.{living}
use Rattle.cm_rows.proofs.walk.next_living.Given as goal

abbrev pub invariant-loop-place : goal.invariant-loop-place
invariant-loop-place g l = living (drop l.place l.slots) ≡ living (drop l.from l.slots)
