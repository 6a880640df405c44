use Rattle.std.proofs.Common.{List, length, ap, sym, ◌∙◌, arith}
use Rattle.std.specs.Prelude.{vec_capacity, Option}
use Rattle.std.specs.Arc.{arc_value}
use Rattle.cm_layout.specs.Rows.{bare, rows_with}
use Rattle.cm_group.specs.Groups.{Carried, Handed, entries_in}
use Rattle.cm_guards.specs.Stages.{calls_left}
use Rattle.cm_commit.specs.GroupPlans.{roots_of_entries, all_writes}
use Rattle.cm_commit.specs.Steps.{plan_left, stages_left}
use Rattle.cm_commit.proofs.Advancing.{few_roots, few_writes, steps_are, group_works}
use Rattle.cm_commit.specs.Steps.{committer_of}
use Rattle.cm_commit.proofs.committer.Committer.steps_left.Goals as goal

pub calls_at-requires-clause-roots : goal.calls_at-requires-clause-roots
calls_at-requires-clause-roots g c =
    let s = c.self.inside in
    let v = committer_of s.disk s.journal (rows_with arc_value s.rows.rows) s.roots s.group s.step
    s.is_broken in
    let few = few_roots g.D.Disk.view v s.rows.sizes s.next s.roots
    (vec_capacity s.buffer) c.self.invariant c.in-Some.group
    (group_works s.group c.in-Some.group s.step c.in-Some.is) in
    omega (
      arith,
      few,
      ap (λ (l : List Carried). roots_of_entries (entries_in l)) c.entries.ensures,
    )

pub calls_at-requires-clause-few : goal.calls_at-requires-clause-few
calls_at-requires-clause-few g c =
    let s = c.self.inside in
    let v = committer_of s.disk s.journal (rows_with arc_value s.rows.rows) s.roots s.group s.step
    s.is_broken in
    let few = few_writes g.D.Disk.view v s.rows.sizes s.next s.roots
    (vec_capacity s.buffer) c.self.invariant c.in-Some.group
    (group_works s.group c.in-Some.group s.step c.in-Some.is) in
    omega (
      arith,
      few,
      ap (λ (l : List Carried). length (all_writes l)) c.entries.ensures,
    )

pub returns-in_default : goal.returns-in_default
returns-in_default g c =
    let s = c.self.inside in
    let rows = bare (rows_with arc_value s.rows.rows) in
    rw (← c.self.view_is)
    (steps_are s.is_broken (stages_left s.journal rows s.roots s.group s.step)
    c.trim_calls.result c.if-self.false
    (c.trim_calls.ensures s.journal rows s.roots
    ∙ sym (ap (λ (o : Option Handed). calls_left (stages_left s.journal rows s.roots o s.step))
    c.in_default.is)))

pub returns : goal.returns
returns g c =
    let s = c.self.inside in
    let rows = bare (rows_with arc_value s.rows.rows) in
    rw (← c.self.view_is)
    (steps_are s.is_broken (stages_left s.journal rows s.roots s.group s.step) c.calls_at.result
    c.if-self.false
    (c.calls_at.ensures s.journal rows c.in-Some.group.first c.in-Some.group.learnt
    ∙ (ap (λ (l : List Carried). calls_left (plan_left s.journal rows s.roots
    (record { first = c.in-Some.group.first; learnt = c.in-Some.group.learnt; entries = l })
    s.step))
    c.entries.ensures
    ∙ sym (ap (λ (o : Option Handed). calls_left (stages_left s.journal rows s.roots o s.step))
    c.in-Some.is))))
