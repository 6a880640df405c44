use Rattle.std.proofs.Common.{◌≤◌}
use Rattle.std.specs.List.{prefix_len}
use Rattle.cm_descriptors.specs.Marks.{is_no_stop}
use Rattle.cm_descriptors.proofs.stops.first_stop_of_few.Given as goal

abbrev pub invariant-loop-place : goal.invariant-loop-place
invariant-loop-place l = l.place ≤ prefix_len is_no_stop l.bytes
