use Rattle.std.proofs.Common.{◌≡◌, ◌*◌, ◌-◌, take, drop, length}
use Rattle.cm_descriptors.specs.Marks.{marks_of, both_marks}
use Rattle.cm_descriptors.proofs.marks.marks_of_many.Given as goal

abbrev pub invariant-loop-place : goal.invariant-loop-place
invariant-loop-place l =
    l.marks ≡ both_marks (marks_of (drop (length l.bytes - 16) l.bytes))
    (marks_of (take (16 * l.place) l.bytes))
