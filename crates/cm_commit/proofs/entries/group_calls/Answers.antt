use Rattle.std.proofs.Common.{◌≡◌, ◌+◌, sym, ap, ◌∙◌, arith}
use Rattle.cm_group.specs.Groups.{Handed}
use Rattle.cm_guards.specs.Stages.{calls_left}
use Rattle.cm_commit.specs.declared.step.CommitStep.{CommitStep}
use Rattle.cm_commit.specs.declared.step.CommitStep.TheVariants as step
use Rattle.cm_commit.specs.Steps.{stages_at}
use Rattle.cm_commit.proofs.Counting.{calls_write, group_counts}
use Rattle.cm_commit.proofs.entries.group_calls.Goals as goal

pub returns-in-Grow-clause-calls : goal.returns-in-Grow-clause-calls
returns-in-Grow-clause-calls c = λ j first learnt.
    let group : Handed = record {
      first = first;
      learnt = learnt;
      entries = c.args.entries.now;
    } in
    let counted : c.from.result + c.all_writes.result + 4
    ≡ calls_left (stages_at j group (step.Grow c.in-Grow.roots)) =
    omega (
      arith,
      group_counts j.geometry j.half j.end j.number c.in-Grow.roots c.args.entries.now,
      c.from.ensures,
      c.saturating_sub-zeros.ensures,
      c.roots_needed.ensures,
      c.all_writes.ensures,
    ) in
    counted ∙ ap (λ (s : CommitStep). calls_left (stages_at j group s)) (sym c.in-Grow.is)

pub returns-in-Write-clause-calls : goal.returns-in-Write-clause-calls
returns-in-Write-clause-calls c = λ j first learnt.
    let group : Handed = record {
      first = first;
      learnt = learnt;
      entries = c.args.entries.now;
    } in
    let counted : c.writes_from.result + 4
    ≡ calls_left (stages_at j group (step.Write c.in-Write.entry c.in-Write.number)) =
    omega (
      arith,
      calls_write j group c.in-Write.entry c.in-Write.number,
      c.writes_from.ensures.value,
    ) in
    counted ∙ ap (λ (s : CommitStep). calls_left (stages_at j group s)) (sym c.in-Write.is)
