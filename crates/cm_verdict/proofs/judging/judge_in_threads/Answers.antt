use Rattle.std.proofs.Common.{sym, subst}
use Rattle.cm_verdict.specs.Judging.{IsTaken, IsJudged}
use Rattle.cm_verdict.proofs.RecordRows.{all_are_judged}
use Rattle.cm_verdict.proofs.judging.judge_in_threads.Goals as goal

pub returns : goal.returns
returns g c =
    all_are_judged c.args.records c.deref_mut.result.now c.for_each_chunk_mut.new.s
    c.deref_mut.ensures.value c.for_each_chunk_mut.auto.s
    (λ k d w lt is.
    let h = (c.for_each_chunk_mut.ensures.by_index k d lt).1 in
    subst (IsJudged w) h.new_element (h.call h.offset d w h.offset_in_chunk
    (subst (IsTaken w) (sym h.old_element) is)))
