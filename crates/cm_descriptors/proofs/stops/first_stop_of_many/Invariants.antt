use Rattle.std.proofs.Common.{◌≤◌, ◌*◌}
use Rattle.std.specs.List.{prefix_len}
use Rattle.cm_descriptors.specs.Marks.{is_no_stop}
use Rattle.cm_descriptors.proofs.stops.first_stop_of_many.Given as goal

abbrev pub invariant-loop-place : goal.invariant-loop-place
invariant-loop-place l = 16 * l.place ≤ prefix_len is_no_stop l.bytes
