use Rattle.std.proofs.Common.{List, subst, sym, map, take, ◌+◌, ◌≡◌}
use Rattle.std.specs.List.{All}
use Rattle.std.proofs.lemmas.List.Elements.{All-push}
use Rattle.cm_device_disk.specs.declared.word_run.WordRun.{WordRun}
use Rattle.cm_device_disk.specs.Runs.{range_of, IsFull}
use Rattle.cm_device_disk.proofs.RunBytes.{one_more_run}
use Rattle.cm_device_disk.proofs.opening.read_runs.Goals as goal

pub loop-range-preserved : goal.loop-range-preserved
loop-range-preserved g c =
    let l = c.loop-range in
    let run = c.in_ok-run.run' in
    let ranges = c.args.ranges.now in
    record {
      ranges = subst (λ (r : List WordRun). map range_of r ≡ take (l.range-index + 1) ranges)
          (sym c.in_ok-push.ensures.items)
          (one_more_run l.runs.items ranges l.range-index run _ c.loop-range-test.true
          l.invariant.ranges c.in_ok-run.ensures.0);
      full = subst (λ (r : List WordRun). All IsFull r) (sym c.in_ok-push.ensures.items)
          (All-push IsFull l.runs.items run l.invariant.full c.in_ok-run.ensures.1);
    }
