use Rattle.std.proofs.Common.{sym, ap, ◌∙◌, is_some}
use Rattle.std.specs.Prelude.{vec_capacity}
use Rattle.std.specs.Arc.{arc_value}
use Rattle.cm_layout.specs.Rows.{bare, rows_with}
use Rattle.cm_commit.specs.States.{CommitterState, TakesGroup}
use Rattle.cm_commit.specs.Steps.{work_of}
use Rattle.cm_commit.specs.Steps.{committer_of}
use Rattle.cm_commit.proofs.Offering.{none_under_way, next_before, next_after, taken, as_taken}
use Rattle.cm_commit.proofs.Offering.{steps}
use Rattle.cm_commit.proofs.committer.Committer.offer.Goals as goal

pub take_group-requires-clause-next_is : goal.take_group-requires-clause-next_is
take_group-requires-clause-next_is g c =
    let s = c.self.inside in
    let i = c.self.invariant in
    next_before arc_value s.journal.geometry s.rows.sizes s.rows.rows (work_of s.group s.step)
    s.next i.beside.sizes_are
    (none_under_way (work_of s.group s.step)
    (ap (λ (z : CommitterState _). is_some z.underway) c.self.view_is
    ∙ (sym c.is_busy.ensures ∙ c.if-is_busy.false))) i.beside.next_is

pub invariant_of-self-2 : goal.invariant_of-self-2
invariant_of-self-2 g c =
    let s = c.self.inside in
    let rows = rows_with arc_value s.rows.rows in
    let v = committer_of s.disk s.journal rows s.roots s.group s.step s.is_broken in
    let i = c.self.invariant in
    let none = none_under_way (work_of s.group s.step)
    (ap (λ (z : CommitterState _). is_some z.underway) c.self.view_is
    ∙ (sym c.is_busy.ensures ∙ c.if-is_busy.false)) in
    let takes : TakesGroup v c.args.group = record {
      sound = c.if-self.false;
      idle = none;
      next = c.take_group.ensures.comes.0 c.if-not-take_group.false;
    } in
    let told = c.take_group.ensures.told c.if-not-take_group.false in
    let before = next_before arc_value s.journal.geometry s.rows.sizes s.rows.rows
    (work_of s.group s.step) s.next i.beside.sizes_are none i.beside.next_is in
    rw (c.take_group.ensures.same, c.first_step-self-inside.ensures (bare rows))
    (taken g.D.Disk.view v s.rows.sizes s.next s.roots
    (vec_capacity s.buffer) i c.args.group takes c.take_group.ensures.group told
    c.take_group.new.next
    (next_after arc_value s.journal.geometry s.rows.sizes s.rows.rows c.args.group.entries s.next
    c.take_group.new.next c.take_group.result i.beside.sizes_are c.if-not-take_group.false before
    c.take_group.ensures.next))

pub returns-clause-taken : goal.returns-clause-taken
returns-clause-taken g c =
    let s = c.self.inside in
    let rows = rows_with arc_value s.rows.rows in
    let v = committer_of s.disk s.journal rows s.roots s.group s.step s.is_broken in
    let i = c.self.invariant in
    let none = none_under_way (work_of s.group s.step)
    (ap (λ (z : CommitterState _). is_some z.underway) c.self.view_is
    ∙ (sym c.is_busy.ensures ∙ c.if-is_busy.false)) in
    let takes : TakesGroup v c.args.group = record {
      sound = c.if-self.false;
      idle = none;
      next = c.take_group.ensures.comes.0 c.if-not-take_group.false;
    } in
    let told = c.take_group.ensures.told c.if-not-take_group.false in
    rw (← c.self.view_is, c.take_group.ensures.same, c.first_step-self-inside.ensures (bare rows))
    (as_taken g.D.Disk.view v s.rows.sizes s.next s.roots
    (vec_capacity s.buffer) i c.args.group takes c.take_group.ensures.group told)

pub returns-clause-steps : goal.returns-clause-steps
returns-clause-steps g c =
    let s = c.self.inside in
    let rows = rows_with arc_value s.rows.rows in
    let v = committer_of s.disk s.journal rows s.roots s.group s.step s.is_broken in
    let i = c.self.invariant in
    let none = none_under_way (work_of s.group s.step)
    (ap (λ (z : CommitterState _). is_some z.underway) c.self.view_is
    ∙ (sym c.is_busy.ensures ∙ c.if-is_busy.false)) in
    let takes : TakesGroup v c.args.group = record {
      sound = c.if-self.false;
      idle = none;
      next = c.take_group.ensures.comes.0 c.if-not-take_group.false;
    } in
    let told = c.take_group.ensures.told c.if-not-take_group.false in
    rw (← c.self.view_is, c.take_group.ensures.same, c.first_step-self-inside.ensures (bare rows))
    (steps g.D.Disk.view v s.rows.sizes s.next s.roots
    (vec_capacity s.buffer) i c.args.group takes c.take_group.ensures.group told)

pub invariant_of-self : goal.invariant_of-self
invariant_of-self g c =
    let i = c.self.invariant in
    rw (c.take_group.ensures.same, c.take_group.ensures.next, c.if-not-take_group.true)
    (record { is = i.is; beside = i.beside; at = i.at })
