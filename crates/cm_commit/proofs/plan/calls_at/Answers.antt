use Rattle.std.proofs.Common.{◌≡◌, ◌+◌, sym, ap, ◌∙◌, arith}
use Rattle.cm_group.specs.Groups.{Handed}
use Rattle.cm_guards.specs.Stages.{calls_left}
use Rattle.cm_guards.proofs.{calls_left-append}
use Rattle.cm_commit.specs.declared.step.PlanStep.{PlanStep}
use Rattle.cm_commit.specs.declared.step.PlanStep.TheVariants as plan
use Rattle.cm_commit.specs.declared.step.CommitStep.TheVariants as step
use Rattle.cm_commit.specs.Checkpoints.{target_of}
use Rattle.cm_commit.specs.Steps.{checkpoint_left, stages_at, plan_left}
use Rattle.cm_commit.proofs.plan.calls_at.Goals as goal

pub overflow_add-result : goal.overflow_add-result
overflow_add-result c =
    omega (arith, c.checkpoint_calls.ensures.few, c.group_calls-group.ensures.few, c.requires.few)

pub returns-in-Checkpoint : goal.returns-in-Checkpoint
returns-in-Checkpoint c = λ j rows first learnt.
    let at = c.in-Checkpoint.at in
    let group : Handed = record {
      first = first;
      learnt = learnt;
      entries = c.args.entries.now;
    } in
    let to = target_of j rows group.entries in
    let both : c.checkpoint_calls.result + c.group_calls-group.result
    ≡ calls_left (plan_left j rows c.args.roots group (plan.Checkpoint at)) =
    omega (
      arith,
      calls_left-append (checkpoint_left j rows at)
          (stages_at to group (step.Grow c.args.roots)),
      c.checkpoint_calls.ensures.calls j rows,
      c.group_calls-group.ensures.calls to first learnt,
    ) in
    both
    ∙ ap (λ (s : PlanStep). calls_left (plan_left j rows c.args.roots group s))
    (sym c.in-Checkpoint.is)
