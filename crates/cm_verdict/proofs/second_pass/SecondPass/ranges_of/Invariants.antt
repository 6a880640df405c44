use Rattle.std.proofs.Common.{length}
use Rattle.cm_verdict.proofs.RecordRanges.{IsListing}
use Rattle.cm_verdict.proofs.second_pass.SecondPass.ranges_of.Given as goal

abbrev pub invariant-loop-row : goal.invariant-loop-row
invariant-loop-row l = record {
  listing : IsListing l.self.geometry l.self.long l.self.number l.found.rows l.left l.ranges.items;
}

abbrev pub decreases-loop-row : goal.decreases-loop-row
decreases-loop-row l = length l.left
