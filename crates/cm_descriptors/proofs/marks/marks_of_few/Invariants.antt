use Rattle.std.proofs.Common.{◌≡◌, drop}
use Rattle.cm_descriptors.specs.Marks.{marks_of, both_marks}
use Rattle.cm_descriptors.proofs.marks.marks_of_few.Given as goal

abbrev pub invariant-loop-byte : goal.invariant-loop-byte
invariant-loop-byte l = both_marks l.marks (marks_of (drop l.byte-index l.bytes)) ≡ marks_of l.bytes
