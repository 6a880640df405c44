use Rattle.std.proofs.Common.{◌≡◌, List, [], Some, false, refl, sym, ap, subst, ◌∙◌, arith}
use Rattle.std.specs.Prelude.{vec_capacity, Option}
use Rattle.std.specs.Arc.{arc_value}
use Rattle.cm_guards.specs.Stages.{Stage, after_call, CallsOnce}
use Rattle.cm_guards.proofs.{leaves_none}
use Rattle.cm_layout.specs.Rows.{rows_with, bare}
use Rattle.cm_group.specs.Groups.{Handed}
use Rattle.cm_commit.specs.declared.step.CommitStep.TheVariants as step
use Rattle.cm_commit.specs.declared.step.PlanStep.TheVariants as plan
use Rattle.cm_commit.specs.Keeps.{IsCommitter}
use Rattle.cm_commit.specs.States.{Work, Trimming, NoGroup, CommitterState, MayLeave}
use Rattle.cm_commit.specs.Steps.{stages_left, trim_left, trim_rest, work_of}
use Rattle.cm_commit.proofs.Advancing.{images, told_ok, nothing_left, nothing_works, no_group}
use Rattle.cm_commit.specs.Steps.{committer_of}
use Rattle.cm_commit.proofs.Advancing.{trim_works, trim_stages, some_trim, trim_moments}
use Rattle.cm_commit.proofs.Advancing.{trim_is_broken, trim_is_working, is_trimmed}
use Rattle.cm_commit.proofs.committer.Committer.advance_trim.Goals as goal

pub returns-in_default : goal.returns-in_default
returns-in_default g c =
    let s = c.self.inside in
    let rows = rows_with arc_value s.rows.rows in
    let v = committer_of s.disk s.journal rows s.roots s.group s.step s.is_broken in
    let ungrouped : NoGroup (work_of s.group s.step) =
    subst (λ (z : CommitterState _). NoGroup z.underway) (sym c.self.view_is)
    c.requires.ungrouped in
    let sound : s.is_broken ≡ false =
    ap (λ (z : CommitterState _). z.broken) c.self.view_is ∙ c.requires.sound in
    let none = nothing_works s.group s.step ungrouped c.in_default.not-Trim in
    rw (← c.self.view_is) (record {
      moved = record {
        sound = sound;
        none = nothing_left s.journal (bare rows) s.roots s.group s.step none;
        stays = refl;
      };
      any_moment = leaves_none g.D.Disk.view g.met.D.Disk.only_now s.disk (MayLeave v)
          (images g.D.Disk.view v s.rows.sizes s.next s.roots
          (vec_capacity s.buffer) c.self.invariant
          (nothing_left s.journal (bare rows) s.roots s.group s.step));
      cause = record { later = omega arith; device = λ d. absurd d };
      call = refl;
      trimmed = tt;
    })

pub invariant_of-self : goal.invariant_of-self
invariant_of-self g c =
    let s = c.self.inside in
    let rows = rows_with arc_value s.rows.rows in
    let v = committer_of s.disk s.journal rows s.roots s.group s.step s.is_broken in
    let ungrouped : NoGroup (work_of s.group s.step) =
    subst (λ (z : CommitterState _). NoGroup z.underway) (sym c.self.view_is)
    c.requires.ungrouped in
    let sound : s.is_broken ≡ false =
    ap (λ (z : CommitterState _). z.broken) c.self.view_is ∙ c.requires.sound in
    let none = no_group s.group s.step ungrouped in
    let step_is = c.in-Trim.is in
    let trimming : work_of s.group s.step ≡ Some Trimming =
    ap (work_of s.group) step_is ∙ trim_works s.group c.in-Trim.at none in
    let left_is : v.left ≡ trim_left s.journal.geometry s.roots c.in-Trim.at =
    ap (stages_left s.journal (bare rows) s.roots s.group) step_is
    ∙ trim_stages s.journal (bare rows) s.roots s.group c.in-Trim.at none in
    let made = subst (λ (l : List Stage). CallsOnce g.D.Disk.view l s.disk
    c.make_trim_call-called.new.disk c.make_trim_call-called.result) (sym left_is)
    c.make_trim_call-called.ensures.called in
    trim_is_broken g.D.Disk.view v s.rows.sizes s.next s.roots
    (vec_capacity s.buffer) c.self.invariant trimming sound g.met.D.Disk.only_now
    c.make_trim_call-called.new.disk
    c.make_trim_call-called.result made
    c.in_default-called.field-0 c.in_default-called.is

pub returns-in_default-called-clause-any_moment : goal.returns-in_default-called-clause-any_moment
returns-in_default-called-clause-any_moment g c =
    let s = c.self.inside in
    let rows = rows_with arc_value s.rows.rows in
    let v = committer_of s.disk s.journal rows s.roots s.group s.step s.is_broken in
    let ungrouped : NoGroup (work_of s.group s.step) =
    subst (λ (z : CommitterState _). NoGroup z.underway) (sym c.self.view_is)
    c.requires.ungrouped in
    let sound : s.is_broken ≡ false =
    ap (λ (z : CommitterState _). z.broken) c.self.view_is ∙ c.requires.sound in
    let none = no_group s.group s.step ungrouped in
    let step_is = c.in-Trim.is in
    let trimming : work_of s.group s.step ≡ Some Trimming =
    ap (work_of s.group) step_is ∙ trim_works s.group c.in-Trim.at none in
    let left_is : v.left ≡ trim_left s.journal.geometry s.roots c.in-Trim.at =
    ap (stages_left s.journal (bare rows) s.roots s.group) step_is
    ∙ trim_stages s.journal (bare rows) s.roots s.group c.in-Trim.at none in
    let made = subst (λ (l : List Stage). CallsOnce g.D.Disk.view l s.disk
    c.make_trim_call-called.new.disk c.make_trim_call-called.result) (sym left_is)
    c.make_trim_call-called.ensures.called in
    rw (← c.self.view_is)
    (trim_moments g.D.Disk.view v s.rows.sizes s.next s.roots
    (vec_capacity s.buffer) c.self.invariant trimming sound g.met.D.Disk.only_now
    c.make_trim_call-called.new.disk
    c.make_trim_call-called.result made)

pub invariant_of-self-in-Some : goal.invariant_of-self-in-Some
invariant_of-self-in-Some g c =
    let s = c.self.inside in
    let rows = rows_with arc_value s.rows.rows in
    let v = committer_of s.disk s.journal rows s.roots s.group s.step s.is_broken in
    let ungrouped : NoGroup (work_of s.group s.step) =
    subst (λ (z : CommitterState _). NoGroup z.underway) (sym c.self.view_is)
    c.requires.ungrouped in
    let sound : s.is_broken ≡ false =
    ap (λ (z : CommitterState _). z.broken) c.self.view_is ∙ c.requires.sound in
    let none = no_group s.group s.step ungrouped in
    let step_is = c.in-Trim.is in
    let trimming : work_of s.group s.step ≡ Some Trimming =
    ap (work_of s.group) step_is ∙ trim_works s.group c.in-Trim.at none in
    let left_is : v.left ≡ trim_left s.journal.geometry s.roots c.in-Trim.at =
    ap (stages_left s.journal (bare rows) s.roots s.group) step_is
    ∙ trim_stages s.journal (bare rows) s.roots s.group c.in-Trim.at none in
    let made = subst (λ (l : List Stage). CallsOnce g.D.Disk.view l s.disk
    c.make_trim_call-called.new.disk c.make_trim_call-called.result) (sym left_is)
    c.make_trim_call-called.ensures.called in
    let next = told_ok c.make_trim_call-called.result
    (λ x. trim_rest s.journal.geometry s.roots x
    ≡ after_call (trim_left s.journal.geometry s.roots c.in-Trim.at)) c.in-Ok.next c.in-Ok.is
    c.make_trim_call-called.ensures.next in
    let at = c.in-Some.at in
    let stages = trim_stages s.journal (bare rows) s.roots s.group at none in
    let then : stages_left s.journal (bare rows) s.roots s.group (plan.Trim at)
    ≡ after_call v.left =
    stages
    ∙ (sym (ap (trim_rest s.journal.geometry s.roots) c.in-Some.is)
    ∙ (next ∙ sym (ap after_call left_is))) in
    subst (λ (w : Option Work). IsCommitter g.D.Disk.view (record v {
      disk = c.make_trim_call-called.new.disk;
      underway = w;
      left = stages_left s.journal (bare rows) s.roots s.group (plan.Trim at);
    }) s.rows.sizes s.next s.roots (vec_capacity s.buffer))
    (trimming ∙ sym (trim_works s.group at none))
    (trim_is_working g.D.Disk.view v s.rows.sizes s.next s.roots
    (vec_capacity s.buffer) c.self.invariant trimming sound g.met.D.Disk.only_now
    c.make_trim_call-called.new.disk
    c.make_trim_call-called.result made
    c.in-Ok.next c.in-Ok.is (stages_left s.journal (bare rows) s.roots s.group (plan.Trim at)) then
    (λ e. some_trim s.journal.geometry s.roots at (sym stages ∙ e)))

pub returns-in-Some-clause-any_moment : goal.returns-in-Some-clause-any_moment
returns-in-Some-clause-any_moment g c =
    let s = c.self.inside in
    let rows = rows_with arc_value s.rows.rows in
    let v = committer_of s.disk s.journal rows s.roots s.group s.step s.is_broken in
    let ungrouped : NoGroup (work_of s.group s.step) =
    subst (λ (z : CommitterState _). NoGroup z.underway) (sym c.self.view_is)
    c.requires.ungrouped in
    let sound : s.is_broken ≡ false =
    ap (λ (z : CommitterState _). z.broken) c.self.view_is ∙ c.requires.sound in
    let none = no_group s.group s.step ungrouped in
    let step_is = c.in-Trim.is in
    let trimming : work_of s.group s.step ≡ Some Trimming =
    ap (work_of s.group) step_is ∙ trim_works s.group c.in-Trim.at none in
    let left_is : v.left ≡ trim_left s.journal.geometry s.roots c.in-Trim.at =
    ap (stages_left s.journal (bare rows) s.roots s.group) step_is
    ∙ trim_stages s.journal (bare rows) s.roots s.group c.in-Trim.at none in
    let made = subst (λ (l : List Stage). CallsOnce g.D.Disk.view l s.disk
    c.make_trim_call-called.new.disk c.make_trim_call-called.result) (sym left_is)
    c.make_trim_call-called.ensures.called in
    rw (← c.self.view_is)
    (trim_moments g.D.Disk.view v s.rows.sizes s.next s.roots
    (vec_capacity s.buffer) c.self.invariant trimming sound g.met.D.Disk.only_now
    c.make_trim_call-called.new.disk
    c.make_trim_call-called.result made)

pub invariant_of-self-2 : goal.invariant_of-self-2
invariant_of-self-2 g c =
    let s = c.self.inside in
    let rows = rows_with arc_value s.rows.rows in
    let v = committer_of s.disk s.journal rows s.roots s.group s.step s.is_broken in
    let ungrouped : NoGroup (work_of s.group s.step) =
    subst (λ (z : CommitterState _). NoGroup z.underway) (sym c.self.view_is)
    c.requires.ungrouped in
    let sound : s.is_broken ≡ false =
    ap (λ (z : CommitterState _). z.broken) c.self.view_is ∙ c.requires.sound in
    let none = no_group s.group s.step ungrouped in
    let step_is = c.in-Trim.is in
    let trimming : work_of s.group s.step ≡ Some Trimming =
    ap (work_of s.group) step_is ∙ trim_works s.group c.in-Trim.at none in
    let left_is : v.left ≡ trim_left s.journal.geometry s.roots c.in-Trim.at =
    ap (stages_left s.journal (bare rows) s.roots s.group) step_is
    ∙ trim_stages s.journal (bare rows) s.roots s.group c.in-Trim.at none in
    let made = subst (λ (l : List Stage). CallsOnce g.D.Disk.view l s.disk
    c.make_trim_call-called.new.disk c.make_trim_call-called.result) (sym left_is)
    c.make_trim_call-called.ensures.called in
    let next = told_ok c.make_trim_call-called.result
    (λ x. trim_rest s.journal.geometry s.roots x
    ≡ after_call (trim_left s.journal.geometry s.roots c.in-Trim.at)) c.in-Ok.next c.in-Ok.is
    c.make_trim_call-called.ensures.next in
    let last : after_call v.left ≡ [] =
    ap after_call left_is
    ∙ (sym next ∙ ap (trim_rest s.journal.geometry s.roots) c.in_default-next.is) in
    subst (λ (o : Option Handed). IsCommitter g.D.Disk.view (record v {
      disk = c.make_trim_call-called.new.disk;
      underway = work_of o (plan.Group step.Done);
      left = stages_left s.journal (bare rows) s.roots o (plan.Group step.Done);
    }) s.rows.sizes s.next s.roots (vec_capacity s.buffer)) (sym none)
    (is_trimmed g.D.Disk.view v s.rows.sizes s.next s.roots
    (vec_capacity s.buffer) c.self.invariant trimming sound g.met.D.Disk.only_now
    c.make_trim_call-called.new.disk
    c.make_trim_call-called.result made
    c.in-Ok.next c.in-Ok.is last)

pub returns-clause-any_moment : goal.returns-clause-any_moment
returns-clause-any_moment g c =
    let s = c.self.inside in
    let rows = rows_with arc_value s.rows.rows in
    let v = committer_of s.disk s.journal rows s.roots s.group s.step s.is_broken in
    let ungrouped : NoGroup (work_of s.group s.step) =
    subst (λ (z : CommitterState _). NoGroup z.underway) (sym c.self.view_is)
    c.requires.ungrouped in
    let sound : s.is_broken ≡ false =
    ap (λ (z : CommitterState _). z.broken) c.self.view_is ∙ c.requires.sound in
    let none = no_group s.group s.step ungrouped in
    let step_is = c.in-Trim.is in
    let trimming : work_of s.group s.step ≡ Some Trimming =
    ap (work_of s.group) step_is ∙ trim_works s.group c.in-Trim.at none in
    let left_is : v.left ≡ trim_left s.journal.geometry s.roots c.in-Trim.at =
    ap (stages_left s.journal (bare rows) s.roots s.group) step_is
    ∙ trim_stages s.journal (bare rows) s.roots s.group c.in-Trim.at none in
    let made = subst (λ (l : List Stage). CallsOnce g.D.Disk.view l s.disk
    c.make_trim_call-called.new.disk c.make_trim_call-called.result) (sym left_is)
    c.make_trim_call-called.ensures.called in
    rw (← c.self.view_is)
    (trim_moments g.D.Disk.view v s.rows.sizes s.next s.roots
    (vec_capacity s.buffer) c.self.invariant trimming sound g.met.D.Disk.only_now
    c.make_trim_call-called.new.disk
    c.make_trim_call-called.result made)
