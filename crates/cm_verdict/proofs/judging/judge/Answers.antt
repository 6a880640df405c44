use Rattle.cm_verdict.proofs.RecordRows.{all_are_judged}
use Rattle.cm_verdict.proofs.judging.judge.Goals as goal

pub returns : goal.returns
returns c = all_are_judged c.args.records c.deref_mut.result.now c.judge_rows.new.records
    c.deref_mut.ensures.value c.judge_rows.auto.records c.judge_rows.ensures
