use Rattle.std.proofs.Common.{length, ap, arith, IsSome}
use Rattle.std.proofs.lemmas.List.Elements.{All-rest}
use Rattle.cm_import.proofs.preparer.Preparer.prepare.Goals as goal

pub loop-job-preserved : goal.loop-job-preserved
loop-job-preserved g c =
    let step = c.in-Some.ensures.steps.0 in
    let more = ap length step in
    let kept = c.loop-job.invariant in (
      omega (arith, more, kept.0, c.in_ok-keep.ensures),
      All-rest (λ job. IsSome job.outcome) c.in-Some.job c.next.new.self.rest.items
          c.loop-job.job-iterator.rest.items step kept.1,
    )
