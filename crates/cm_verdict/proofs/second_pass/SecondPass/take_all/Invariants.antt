use Rattle.std.proofs.Common.{◌≡◌, ℕ, List, length}
use Rattle.std.specs.Vec.Iter.{into_iter_items, into_iter_len}
use Rattle.cm_verdict.specs.Judging.{AreJudged}
use Rattle.cm_verdict.proofs.Passing.{IsPassing}
use Rattle.cm_verdict.proofs.second_pass.SecondPass.take_all.Given as goal

-- what is still to be taken comes to what all of it does
abbrev pub invariant-loop-row : goal.invariant-loop-row
invariant-loop-row l = record {
  passing : (contents : List ℕ)
      → AreJudged l.self.geometry contents l.found.rows l.fn.judged.items
      → IsPassing l.self.geometry contents l.self.number l.found.rows l.left l.rows
      × AreJudged l.self.geometry contents l.left (into_iter_items l.records);
  count : into_iter_len l.records ≡ length l.left;
}

abbrev pub decreases-loop-row : goal.decreases-loop-row
decreases-loop-row l = length l.left
