use Rattle.std.proofs.Common.{◌≡◌, ◌<◌, ◌≤◌, ℕ, List, Option, get_or}
use Rattle.cm_verdict.specs.declared.row_record.RowRecord.{RowRecord}
use Rattle.cm_verdict.specs.Judging.{IsTaken, IsJudged}
use Rattle.cm_verdict.proofs.judging.judge_rows.Given as goal

abbrev pub invariant-loop-row : goal.invariant-loop-row
invariant-loop-row l = record {
  judged : (k : ℕ) (d : RowRecord) (words : Option (List ℕ)) → k < l.row
      → IsTaken words (get_or l.initial.records k d) → IsJudged words (get_or l.records k d);
  left : (k : ℕ) (d : RowRecord) → l.row ≤ k
      → get_or l.records k d ≡ get_or l.initial.records k d;
}
