use Rattle.std.proofs.Common.{◌≡◌, ◌+◌, [], length, false, sym, ap, subst, ◌∙◌, arith}
use Rattle.std.specs.Prelude.{vec_capacity, Option, is_err}
use Rattle.std.specs.Arc.{arc_value}
use Rattle.std.proofs.lemmas.Bool.{false≢true}
use Rattle.cm_guards.specs.Stages.{after_call, calls_left, CallsOnce, TakesCall}
use Rattle.cm_guards.proofs.{leaves_none, call_cause, one_call_less}
use Rattle.cm_layout.specs.Rows.{rows_with, bare}
use Rattle.cm_group.specs.Groups.{Handed, entries_in}
use Rattle.cm_commit.specs.declared.journal_end.JournalEnd.{JournalEnd}
use Rattle.cm_commit.specs.Checkpoints.{target_of}
use Rattle.cm_commit.specs.Keeping.{keep_rules}
use Rattle.cm_commit.specs.States.{Work, MayLeave}
use Rattle.cm_commit.specs.Keeps.{IsCommitter}
use Rattle.cm_commit.specs.Steps.{FitsJournal, plan_left, stages_left, is_trim}
use Rattle.cm_commit.proofs.Advancing.{images, half, fits, few_roots, takes, busy}
use Rattle.cm_commit.specs.Steps.{committer_of}
use Rattle.cm_commit.proofs.Advancing.{call_moments, is_broken, is_working, is_finished, told_ok}
use Rattle.cm_commit.proofs.Advancing.{some_stages, no_stages, above_own, as_committed}
use Rattle.cm_commit.proofs.Advancing.{group_works, same_work, nothing_left}
use Rattle.cm_commit.proofs.Committing.{next_above, rules_kept}
use Rattle.cm_commit.proofs.Journals.{target_stays}
use Rattle.cm_commit.proofs.With.{bare-with}
use Rattle.cm_commit.proofs.committer.Committer.advance.Goals as goal

pub returns-then-self-clause-any_moment : goal.returns-then-self-clause-any_moment
returns-then-self-clause-any_moment g c =
    let s = c.self.inside in
    let rows = rows_with arc_value s.rows.rows in
    let v = committer_of s.disk s.journal rows s.roots s.group s.step s.is_broken in
    rw (← c.self.view_is)
    (leaves_none g.D.Disk.view
    g.met.D.Disk.only_now s.disk (MayLeave v)
    (images g.D.Disk.view v s.rows.sizes s.next s.roots
    (vec_capacity s.buffer) c.self.invariant
    (nothing_left s.journal (bare rows) s.roots s.group s.step)))

pub make_call-called-requires-clause-half : goal.make_call-called-requires-clause-half
make_call-called-requires-clause-half g c =
    let s = c.self.inside in
    let rows = rows_with arc_value s.rows.rows in
    let v = committer_of s.disk s.journal rows s.roots s.group s.step s.is_broken in
    half g.D.Disk.view v s.rows.sizes s.next s.roots
    (vec_capacity s.buffer) c.self.invariant

pub make_call-called-requires-clause-group : goal.make_call-called-requires-clause-group
make_call-called-requires-clause-group g c =
    let s = c.self.inside in
    let rows = rows_with arc_value s.rows.rows in
    let v = committer_of s.disk s.journal rows s.roots s.group s.step s.is_broken in
    fits g.D.Disk.view v s.rows.sizes s.next s.roots
    (vec_capacity s.buffer) c.self.invariant c.in-Some.group
    (group_works s.group c.in-Some.group s.step c.in-Some.is)

pub make_call-called-requires-clause-fits : goal.make_call-called-requires-clause-fits
make_call-called-requires-clause-fits g c =
    let s = c.self.inside in
    let rows = rows_with arc_value s.rows.rows in
    let v = committer_of s.disk s.journal rows s.roots s.group s.step s.is_broken in
    subst (λ (o : Option Handed). TakesCall
    (stages_left s.journal (bare rows) s.roots o s.step) (length (g.D.Disk.view.contents s.disk)))
    c.in-Some.is
    (takes g.D.Disk.view v s.rows.sizes s.next s.roots
    (vec_capacity s.buffer) c.self.invariant c.in-Some.group
    (group_works s.group c.in-Some.group s.step c.in-Some.is) c.if-self.false
    (g.met.D.Disk.sound s.disk))

pub invariant_of-self : goal.invariant_of-self
invariant_of-self g c =
    let s = c.self.inside in
    let rows = rows_with arc_value s.rows.rows in
    let v = committer_of s.disk s.journal rows s.roots s.group s.step s.is_broken in
    let made = subst (λ (o : Option Handed). CallsOnce g.D.Disk.view
    (stages_left s.journal (bare rows) s.roots o s.step) s.disk c.make_call-called.new.disk
    c.make_call-called.result) (sym c.in-Some.is) c.make_call-called.ensures.called in
    is_broken g.D.Disk.view v s.rows.sizes s.next s.roots
    (vec_capacity s.buffer) c.self.invariant
    c.in-Some.group
    (group_works s.group c.in-Some.group s.step c.in-Some.is) c.if-self.false g.met.D.Disk.only_now
    c.make_call-called.new.disk
    c.make_call-called.result
    made c.in_default-called.field-0 c.in_default-called.is
    (vec_capacity c.make_call-called.new.buffer) c.make_call-called.ensures.room

pub returns-in_default-called-clause-any_moment : goal.returns-in_default-called-clause-any_moment
returns-in_default-called-clause-any_moment g c =
    let s = c.self.inside in
    let rows = rows_with arc_value s.rows.rows in
    let v = committer_of s.disk s.journal rows s.roots s.group s.step s.is_broken in
    let made = subst (λ (o : Option Handed). CallsOnce g.D.Disk.view
    (stages_left s.journal (bare rows) s.roots o s.step) s.disk c.make_call-called.new.disk
    c.make_call-called.result) (sym c.in-Some.is) c.make_call-called.ensures.called in
    rw (← c.self.view_is) (call_moments g.D.Disk.view v s.rows.sizes s.next
    s.roots (vec_capacity s.buffer) c.self.invariant
    c.in-Some.group
    (group_works s.group c.in-Some.group s.step c.in-Some.is) c.if-self.false g.met.D.Disk.only_now
    c.make_call-called.new.disk
    c.make_call-called.result
    made)

pub returns-in_default-called-clause-cause : goal.returns-in_default-called-clause-cause
returns-in_default-called-clause-cause g c =
    let s = c.self.inside in
    let rows = rows_with arc_value s.rows.rows in
    let v = committer_of s.disk s.journal rows s.roots s.group s.step s.is_broken in
    let made = subst (λ (o : Option Handed). CallsOnce g.D.Disk.view
    (stages_left s.journal (bare rows) s.roots o s.step) s.disk c.make_call-called.new.disk
    c.make_call-called.result) (sym c.in-Some.is) c.make_call-called.ensures.called in
    let k = call_cause g.D.Disk.view v.left s.disk c.make_call-called.new.disk
    c.make_call-called.result made in
    rw (← c.self.view_is) (record {
      later = k.later;
      device = λ d. k.fault (ap is_err c.in_default-called.is);
    })

pub invariant_of-self-then-not-is_done : goal.invariant_of-self-then-not-is_done
invariant_of-self-then-not-is_done g c =
    let s = c.self.inside in
    let rows = rows_with arc_value s.rows.rows in
    let v = committer_of s.disk s.journal rows s.roots s.group s.step s.is_broken in
    let made = subst (λ (o : Option Handed). CallsOnce g.D.Disk.view
    (stages_left s.journal (bare rows) s.roots o s.step) s.disk c.make_call-called.new.disk
    c.make_call-called.result) (sym c.in-Some.is) c.make_call-called.ensures.called in
    let next = told_ok c.make_call-called.result
    (λ x. plan_left s.journal (bare rows) s.roots c.in-Some.group x
    ≡ after_call (plan_left s.journal (bare rows) s.roots c.in-Some.group s.step)) c.in-Ok.step
    c.in-Ok.is c.make_call-called.ensures.next in
    let left_is : stages_left s.journal (bare rows) s.roots s.group c.in-Ok.step
    ≡ after_call v.left =
    ap (λ (o : Option Handed). stages_left s.journal (bare rows) s.roots o c.in-Ok.step)
    c.in-Some.is
    ∙ (next ∙ sym (ap (λ (o : Option Handed). after_call
    (stages_left s.journal (bare rows) s.roots o s.step)) c.in-Some.is)) in
    let more : stages_left s.journal (bare rows) s.roots s.group c.in-Ok.step ≡ [] → ⊥ =
    λ e. some_stages s.journal (bare rows) s.roots c.in-Some.group c.in-Ok.step
    (λ is. false≢true (sym c.if-not-is_done.true ∙ c.is_done.ensures.1 is))
    (told_ok c.make_call-called.result (λ x. is_trim x ≡ false) c.in-Ok.step c.in-Ok.is
    c.make_call-called.ensures.of_group)
    (sym (ap (λ (o : Option Handed). stages_left s.journal (bare rows) s.roots o c.in-Ok.step)
    c.in-Some.is) ∙ e) in
    subst (λ (w : Option Work). IsCommitter g.D.Disk.view (record v {
      disk = c.make_call-called.new.disk;
      underway = w;
      left = stages_left s.journal (bare rows) s.roots s.group c.in-Ok.step;
    }) s.rows.sizes s.next s.roots (vec_capacity c.make_call-called.new.buffer))
    (same_work s.group c.in-Some.group s.step c.in-Ok.step c.in-Some.is)
    (is_working g.D.Disk.view v s.rows.sizes s.next s.roots
    (vec_capacity s.buffer) c.self.invariant
    c.in-Some.group
    (group_works s.group c.in-Some.group s.step c.in-Some.is) c.if-self.false g.met.D.Disk.only_now
    c.make_call-called.new.disk
    c.make_call-called.result
    made c.in-Ok.step c.in-Ok.is
    (stages_left s.journal (bare rows) s.roots s.group c.in-Ok.step) left_is more
    (vec_capacity c.make_call-called.new.buffer) c.make_call-called.ensures.room)

pub returns-then-not-is_done-clause-moved : goal.returns-then-not-is_done-clause-moved
returns-then-not-is_done-clause-moved g c =
    let s = c.self.inside in
    let rows = rows_with arc_value s.rows.rows in
    let v = committer_of s.disk s.journal rows s.roots s.group s.step s.is_broken in
    let made = subst (λ (o : Option Handed). CallsOnce g.D.Disk.view
    (stages_left s.journal (bare rows) s.roots o s.step) s.disk c.make_call-called.new.disk
    c.make_call-called.result) (sym c.in-Some.is) c.make_call-called.ensures.called in
    let next = told_ok c.make_call-called.result
    (λ x. plan_left s.journal (bare rows) s.roots c.in-Some.group x
    ≡ after_call (plan_left s.journal (bare rows) s.roots c.in-Some.group s.step)) c.in-Ok.step
    c.in-Ok.is c.make_call-called.ensures.next in
    let left_is : stages_left s.journal (bare rows) s.roots s.group c.in-Ok.step
    ≡ after_call v.left =
    ap (λ (o : Option Handed). stages_left s.journal (bare rows) s.roots o c.in-Ok.step)
    c.in-Some.is
    ∙ (next ∙ sym (ap (λ (o : Option Handed). after_call
    (stages_left s.journal (bare rows) s.roots o s.step)) c.in-Some.is)) in
    let more : stages_left s.journal (bare rows) s.roots s.group c.in-Ok.step ≡ [] → ⊥ =
    λ e. some_stages s.journal (bare rows) s.roots c.in-Some.group c.in-Ok.step
    (λ is. false≢true (sym c.if-not-is_done.true ∙ c.is_done.ensures.1 is))
    (told_ok c.make_call-called.result (λ x. is_trim x ≡ false) c.in-Ok.step c.in-Ok.is
    c.make_call-called.ensures.of_group)
    (sym (ap (λ (o : Option Handed). stages_left s.journal (bare rows) s.roots o c.in-Ok.step)
    c.in-Some.is) ∙ e) in
    let b = busy g.D.Disk.view v s.rows.sizes s.next s.roots
    (vec_capacity s.buffer) c.self.invariant
    c.in-Some.group
    (group_works s.group c.in-Some.group s.step c.in-Some.is) in
    let over : after_call v.left ≡ [] → ⊥ = λ e. more (left_is ∙ e) in
    rw (← c.self.view_is) (record {
      sound = c.if-self.false;
      more = omega (arith, one_call_less v.left b.some, one_call_less (after_call v.left) over);
      new_is = λ k. record v {
        disk = c.make_call-called.new.disk;
        underway = same_work s.group c.in-Some.group c.in-Ok.step s.step c.in-Some.is k;
        left = left_is k;
      };
    })

pub returns-then-not-is_done-clause-any_moment : goal.returns-then-not-is_done-clause-any_moment
returns-then-not-is_done-clause-any_moment g c =
    let s = c.self.inside in
    let rows = rows_with arc_value s.rows.rows in
    let v = committer_of s.disk s.journal rows s.roots s.group s.step s.is_broken in
    let made = subst (λ (o : Option Handed). CallsOnce g.D.Disk.view
    (stages_left s.journal (bare rows) s.roots o s.step) s.disk c.make_call-called.new.disk
    c.make_call-called.result) (sym c.in-Some.is) c.make_call-called.ensures.called in
    rw (← c.self.view_is) (call_moments g.D.Disk.view v s.rows.sizes s.next
    s.roots (vec_capacity s.buffer) c.self.invariant
    c.in-Some.group
    (group_works s.group c.in-Some.group s.step c.in-Some.is) c.if-self.false g.met.D.Disk.only_now
    c.make_call-called.new.disk
    c.make_call-called.result
    made)

pub returns-then-not-is_done-clause-cause : goal.returns-then-not-is_done-clause-cause
returns-then-not-is_done-clause-cause g c =
    let s = c.self.inside in
    let rows = rows_with arc_value s.rows.rows in
    let v = committer_of s.disk s.journal rows s.roots s.group s.step s.is_broken in
    let made = subst (λ (o : Option Handed). CallsOnce g.D.Disk.view
    (stages_left s.journal (bare rows) s.roots o s.step) s.disk c.make_call-called.new.disk
    c.make_call-called.result) (sym c.in-Some.is) c.make_call-called.ensures.called in
    let k = call_cause g.D.Disk.view v.left s.disk c.make_call-called.new.disk
    c.make_call-called.result made in
    rw (← c.self.view_is) (record { later = k.later; device = λ d. absurd d })

pub target_of-target-requires : goal.target_of-target-requires
target_of-target-requires g c =
    let s = c.self.inside in
    let rows = rows_with arc_value s.rows.rows in
    let v = committer_of s.disk s.journal rows s.roots s.group s.step s.is_broken in
    half g.D.Disk.view v s.rows.sizes s.next s.roots
    (vec_capacity s.buffer) c.self.invariant

pub finish-receipt-requires-clause-first : goal.finish-receipt-requires-clause-first
finish-receipt-requires-clause-first g c =
    let s = c.self.inside in
    let rows = rows_with arc_value s.rows.rows in
    let v = committer_of s.disk s.journal rows s.roots s.group s.step s.is_broken in
    let underway = group_works s.group c.unwrap-group.result s.step
    (cc (c.take.ensures.value, c.unwrap-group.ensures)) in
    let to = c.target_of-target.result in
    let stays = target_stays s.journal (bare rows) c.unwrap-group.result.entries in
    let number : to.number ≡ s.journal.number =
    ap (λ (j : JournalEnd). j.number) c.target_of-target.ensures ∙ stays.1 in
    let b = busy g.D.Disk.view v s.rows.sizes s.next s.roots
    (vec_capacity s.buffer) c.self.invariant
    c.unwrap-group.result underway in
    b.next.begins ∙ ap (λ k. k + 1) (sym number)

pub finish-receipt-requires-clause-above : goal.finish-receipt-requires-clause-above
finish-receipt-requires-clause-above g c =
    let s = c.self.inside in
    let rows = rows_with arc_value s.rows.rows in
    let v = committer_of s.disk s.journal rows s.roots s.group s.step s.is_broken in
    let underway = group_works s.group c.unwrap-group.result s.step
    (cc (c.take.ensures.value, c.unwrap-group.ensures)) in
    let to = c.target_of-target.result in
    let stays = target_stays s.journal (bare rows) c.unwrap-group.result.entries in
    let number : to.number ≡ s.journal.number =
    ap (λ (j : JournalEnd). j.number) c.target_of-target.ensures ∙ stays.1 in
    above_own arc_value s.rows.rows (to.number + 1)
    (rw number
    (next_above s.journal.geometry s.journal.number (bare rows) c.self.invariant.is.cache.live))

pub finish-receipt-requires-clause-kept : goal.finish-receipt-requires-clause-kept
finish-receipt-requires-clause-kept g c =
    let s = c.self.inside in
    let rows = rows_with arc_value s.rows.rows in
    let v = committer_of s.disk s.journal rows s.roots s.group s.step s.is_broken in
    let underway = group_works s.group c.unwrap-group.result s.step
    (cc (c.take.ensures.value, c.unwrap-group.ensures)) in
    let to = c.target_of-target.result in
    let stays = target_stays s.journal (bare rows) c.unwrap-group.result.entries in
    let number : to.number ≡ s.journal.number =
    ap (λ (j : JournalEnd). j.number) c.target_of-target.ensures ∙ stays.1 in
    let b = busy g.D.Disk.view v s.rows.sizes s.next s.roots
    (vec_capacity s.buffer) c.self.invariant
    c.unwrap-group.result underway in
    (λ i. keep_rules (c.self.invariant.beside.sizes_are i) (sym (bare-with arc_value s.rows.rows) i)
    (number i + 1) (entries_in c.unwrap-group.result.entries))
    ∙ rules_kept s.journal.geometry rows rows s.journal.number c.unwrap-group.result.entries
    b.next.entries

pub finish-receipt-requires-clause-needed : goal.finish-receipt-requires-clause-needed
finish-receipt-requires-clause-needed g c =
    let s = c.self.inside in
    let rows = rows_with arc_value s.rows.rows in
    let v = committer_of s.disk s.journal rows s.roots s.group s.step s.is_broken in
    let underway = group_works s.group c.unwrap-group.result s.step
    (cc (c.take.ensures.value, c.unwrap-group.ensures)) in
    few_roots g.D.Disk.view v s.rows.sizes s.next s.roots
    (vec_capacity s.buffer) c.self.invariant
    c.unwrap-group.result underway

pub finish-receipt-requires-clause-end : goal.finish-receipt-requires-clause-end
finish-receipt-requires-clause-end g c =
    let s = c.self.inside in
    let rows = rows_with arc_value s.rows.rows in
    let v = committer_of s.disk s.journal rows s.roots s.group s.step s.is_broken in
    let underway = group_works s.group c.unwrap-group.result s.step
    (cc (c.take.ensures.value, c.unwrap-group.ensures)) in
    let f = fits g.D.Disk.view v s.rows.sizes s.next s.roots
    (vec_capacity s.buffer) c.self.invariant
    c.unwrap-group.result underway in
    let there : FitsJournal c.target_of-target.result c.unwrap-group.result =
    subst (λ (j : JournalEnd). FitsJournal j c.unwrap-group.result)
    (sym c.target_of-target.ensures) f in
    omega (arith, there.room, there.lawful.slots_to)

pub invariant_of-self-2 : goal.invariant_of-self-2
invariant_of-self-2 g c =
    let s = c.self.inside in
    let rows = rows_with arc_value s.rows.rows in
    let v = committer_of s.disk s.journal rows s.roots s.group s.step s.is_broken in
    let underway = group_works s.group c.unwrap-group.result s.step
    (cc (c.take.ensures.value, c.unwrap-group.ensures)) in
    let made = subst (λ (o : Option Handed). CallsOnce g.D.Disk.view
    (stages_left s.journal (bare rows) s.roots o s.step) s.disk c.make_call-called.new.disk
    c.make_call-called.result) (sym c.in-Some.is) c.make_call-called.ensures.called in
    let next = told_ok c.make_call-called.result
    (λ x. plan_left s.journal (bare rows) s.roots c.in-Some.group x
    ≡ after_call (plan_left s.journal (bare rows) s.roots c.in-Some.group s.step)) c.in-Ok.step
    c.in-Ok.is c.make_call-called.ensures.next in
    let over : plan_left s.journal (bare rows) s.roots c.in-Some.group c.in-Ok.step ≡ [] =
    no_stages s.journal (bare rows) s.roots c.in-Some.group c.in-Ok.step
    (c.is_done.ensures.0 c.if-not-is_done.false) in
    let last : after_call v.left ≡ [] =
    ap (λ (o : Option Handed). after_call (stages_left s.journal (bare rows) s.roots o s.step))
    c.in-Some.is ∙ (sym next ∙ over) in
    let fin = c.finish-receipt.ensures in
    rw (
      fin.journal,
      fin.rows,
      c.take.ensures.after,
      fin.sizes,
      fin.roots,
      c.is_done.ensures.0 c.if-not-is_done.false,
    )
    (is_finished g.D.Disk.view v s.rows.sizes s.next s.roots
    (vec_capacity s.buffer) c.self.invariant
    c.unwrap-group.result underway c.if-self.false g.met.D.Disk.only_now c.make_call-called.new.disk
    c.make_call-called.result
    made c.target_of-target.result c.target_of-target.ensures c.in-Ok.step c.in-Ok.is last
    (vec_capacity c.make_call-called.new.buffer) c.make_call-called.ensures.room)

pub returns-clause-any_moment : goal.returns-clause-any_moment
returns-clause-any_moment g c =
    let s = c.self.inside in
    let rows = rows_with arc_value s.rows.rows in
    let v = committer_of s.disk s.journal rows s.roots s.group s.step s.is_broken in
    let made = subst (λ (o : Option Handed). CallsOnce g.D.Disk.view
    (stages_left s.journal (bare rows) s.roots o s.step) s.disk c.make_call-called.new.disk
    c.make_call-called.result) (sym c.in-Some.is) c.make_call-called.ensures.called in
    rw (← c.self.view_is) (call_moments g.D.Disk.view v s.rows.sizes s.next
    s.roots (vec_capacity s.buffer) c.self.invariant
    c.in-Some.group
    (group_works s.group c.in-Some.group s.step c.in-Some.is) c.if-self.false g.met.D.Disk.only_now
    c.make_call-called.new.disk
    c.make_call-called.result
    made)

pub returns-clause-cause : goal.returns-clause-cause
returns-clause-cause g c =
    let s = c.self.inside in
    let rows = rows_with arc_value s.rows.rows in
    let v = committer_of s.disk s.journal rows s.roots s.group s.step s.is_broken in
    let made = subst (λ (o : Option Handed). CallsOnce g.D.Disk.view
    (stages_left s.journal (bare rows) s.roots o s.step) s.disk c.make_call-called.new.disk
    c.make_call-called.result) (sym c.in-Some.is) c.make_call-called.ensures.called in
    let k = call_cause g.D.Disk.view v.left s.disk c.make_call-called.new.disk
    c.make_call-called.result made in
    rw (← c.self.view_is) (record { later = k.later; device = λ d. absurd d })

pub returns-clause-moved : goal.returns-clause-moved
returns-clause-moved g c =
    let s = c.self.inside in
    let rows = rows_with arc_value s.rows.rows in
    let v = committer_of s.disk s.journal rows s.roots s.group s.step s.is_broken in
    let underway = group_works s.group c.unwrap-group.result s.step
    (cc (c.take.ensures.value, c.unwrap-group.ensures)) in
    let made = subst (λ (o : Option Handed). CallsOnce g.D.Disk.view
    (stages_left s.journal (bare rows) s.roots o s.step) s.disk c.make_call-called.new.disk
    c.make_call-called.result) (sym c.in-Some.is) c.make_call-called.ensures.called in
    let next = told_ok c.make_call-called.result
    (λ x. plan_left s.journal (bare rows) s.roots c.in-Some.group x
    ≡ after_call (plan_left s.journal (bare rows) s.roots c.in-Some.group s.step)) c.in-Ok.step
    c.in-Ok.is c.make_call-called.ensures.next in
    let over : plan_left s.journal (bare rows) s.roots c.in-Some.group c.in-Ok.step ≡ [] =
    no_stages s.journal (bare rows) s.roots c.in-Some.group c.in-Ok.step
    (c.is_done.ensures.0 c.if-not-is_done.false) in
    let last : after_call v.left ≡ [] =
    ap (λ (o : Option Handed). after_call (stages_left s.journal (bare rows) s.roots o s.step))
    c.in-Some.is ∙ (sym next ∙ over) in
    let fin = c.finish-receipt.ensures in
    let b = busy g.D.Disk.view v s.rows.sizes s.next s.roots
    (vec_capacity s.buffer) c.self.invariant
    c.in-Some.group
    (group_works s.group c.in-Some.group s.step c.in-Some.is) in
    let to = c.target_of-target.result in
    let stays = target_stays s.journal (bare rows) c.unwrap-group.result.entries in
    let number : to.number ≡ s.journal.number =
    ap (λ (j : JournalEnd). j.number) c.target_of-target.ensures ∙ stays.1 in
    rw (← c.self.view_is) (record {
      sound = c.if-self.false;
      last = one_call_less v.left b.some ∙ ap (λ l. 1 + calls_left l) last;
      group = c.unwrap-group.result;
      underway = underway;
      told = fin.told ∙ ap (λ k. k + length c.unwrap-group.result.entries) number;
      new_is = rw (
        fin.journal,
        fin.rows,
        c.take.ensures.after,
        c.is_done.ensures.0 c.if-not-is_done.false,
      )
          (as_committed v to (target_of s.journal (bare rows) c.unwrap-group.result.entries)
          c.unwrap-group.result c.make_call-called.new.disk c.target_of-target.ensures stays.0
          stays.1);
    })
