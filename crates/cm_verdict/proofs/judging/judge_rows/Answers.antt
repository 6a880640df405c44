use Rattle.std.proofs.Common.{◌<◌, arith, length, get_or}
use Rattle.std.proofs.lemmas.List.{get_or_default}
use Rattle.cm_verdict.proofs.RecordRows.{judged_on, left_on}
use Rattle.cm_verdict.proofs.judging.judge_rows.Goals as goal

pub loop-row-preserved : goal.loop-row-preserved
loop-row-preserved c =
    let l = c.loop-row in
    let start = c.args.records.now in
    let lt : l.row < length l.records = omega (arith, l.auto.records, c.loop-row-test.true) in
    let old = get_or l.records l.row c.index-records-row.result in
    record {
      judged = judged_on start l.records l.row old c.judge.new.self lt
          (get_or_default l.records l.row c.index-records-row.result old lt) c.judge.ensures
          l.invariant.judged l.invariant.left;
      left = left_on start l.records l.row c.judge.new.self l.invariant.left;
    }

pub returns : goal.returns
returns c = λ k d words lt taken.
    c.loop-row.invariant.judged k d words (omega (arith, lt, c.loop-row-test.false)) taken
