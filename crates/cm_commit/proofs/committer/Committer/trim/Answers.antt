use Rattle.std.proofs.Common.{sym, ap, subst, ◌∙◌, is_some}
use Rattle.std.specs.Prelude.{vec_capacity, Option}
use Rattle.std.specs.Arc.{arc_value}
use Rattle.cm_layout.specs.Rows.{bare, rows_with}
use Rattle.cm_group.specs.Groups.{Handed}
use Rattle.cm_commit.specs.declared.step.PlanStep.TheVariants as plan
use Rattle.cm_commit.specs.declared.step.TrimStep.TheVariants as trim
use Rattle.cm_commit.specs.Keeps.{IsCommitter}
use Rattle.cm_commit.specs.States.{CommitterState, NoGroup}
use Rattle.cm_commit.specs.Steps.{stages_left, work_of}
use Rattle.cm_commit.specs.Trims.{roots_of_rows}
use Rattle.cm_commit.proofs.Advancing.{no_group}
use Rattle.cm_commit.specs.Steps.{committer_of}
use Rattle.cm_commit.proofs.Offering.{none_under_way, trim_taken}
use Rattle.cm_commit.proofs.committer.Committer.trim.Goals as goal

pub invariant_of-self : goal.invariant_of-self
invariant_of-self g c =
    let s = c.self.inside in
    let rows = rows_with arc_value s.rows.rows in
    let v = committer_of s.disk s.journal rows s.roots s.group s.step s.is_broken in
    let idle = none_under_way (work_of s.group s.step)
    (ap (λ (z : CommitterState _). is_some z.underway) c.self.view_is
    ∙ (sym c.is_busy.ensures ∙ c.if-is_busy.false)) in
    let none = no_group s.group s.step (subst NoGroup (sym idle) tt) in
    let used = c.roots-used.result in
    subst (λ (o : Option Handed). IsCommitter g.D.Disk.view (record v {
      underway = work_of o (plan.Trim trim.Cut);
      left = stages_left s.journal (bare rows) used o (plan.Trim trim.Cut);
    }) s.rows.sizes s.next used (vec_capacity s.buffer)) (sym none)
    (trim_taken g.D.Disk.view v s.rows.sizes s.next s.roots
    (vec_capacity s.buffer) c.self.invariant c.if-self.false idle used
    (c.roots-used.ensures
    ∙ sym (ap (λ (z : CommitterState _). roots_of_rows z.rows) c.self.view_is)))
