use Rattle.std.proofs.Common.{Option, refl, sym, ap, subst, ◌∙◌, arith}
use Rattle.std.specs.Prelude.{IsErr, IsOk}
use Rattle.std.specs.Arc.{arc_value}
use Rattle.cm_layout.specs.Rows.{bare, rows_with}
use Rattle.cm_guards.specs.Stages.{calls_left}
use Rattle.cm_guards.proofs.{call_cause, one_call_less}
use Rattle.cm_commit.specs.declared.step.CheckpointStep.{CheckpointStep}
use Rattle.cm_commit.specs.Steps.{checkpoint_left, checkpoint_rest}
use Rattle.cm_commit.proofs.Renewals.{first_stands, half, some_left, frames_on, stands_on, takes}
use Rattle.cm_commit.proofs.Renewals.{held_then, nothing_left, no_ok}
use Rattle.cm_commit.proofs.renewal.make_calls.Goals as goal

pub loop-next-init : goal.loop-next-init
loop-next-init g c =
    let view = g.D.Disk.view in
    let now = view.contents c.args.disk.now in
    let loose = view.unsynced c.args.disk.now in
    let j = c.args.journal.now in
    let rows = rows_with arc_value c.args.rows.now.rows in
    record {
      room = c.requires.room;
      stands = λ may. first_stands now loose j rows may;
      images = nothing_left view g.met.D.Disk.only_now c.args.disk.now j rows c.requires.held;
      works = refl;
    }

pub make_checkpoint_call-requires-clause-half : goal.make_checkpoint_call-requires-clause-half
make_checkpoint_call-requires-clause-half g c = half _ _ _ _ c.requires.held

pub make_checkpoint_call-requires-clause-fits : goal.make_checkpoint_call-requires-clause-fits
make_checkpoint_call-requires-clause-fits g c =
    let view = g.D.Disk.view in
    let l = c.loop-next in
    takes _ _ _ _ c.requires.held l.next c.in-Some.at c.in-Some.is (view.contents l.disk)
    (view.unsynced l.disk) (g.met.D.Disk.sound l.disk) (l.invariant.stands c.requires.held)

pub returns-in_err-next-clause-images : goal.returns-in_err-next-clause-images
returns-in_err-next-clause-images g c =
    let l = c.loop-next in
    let call = c.make_checkpoint_call in
    frames_on _ _ _ _ c.requires.held g.D.Disk.view g.met.D.Disk.only_now l.disk call.new.disk
    l.next c.in-Some.at c.in-Some.is call.result (l.invariant.stands c.requires.held)
    call.ensures.called c.args.disk.now l.invariant.images

pub returns-in_err-next-clause-cause : goal.returns-in_err-next-clause-cause
returns-in_err-next-clause-cause g c =
    let view = g.D.Disk.view in
    let rows = rows_with arc_value c.args.rows.now.rows in
    let l = c.loop-next in
    let call = c.make_checkpoint_call in
    let cause = call_cause view (checkpoint_left c.args.journal.now (bare rows) c.in-Some.at) l.disk
    call.new.disk call.result call.ensures.called in
    let works = l.invariant.works in
    let rose = cause.fault (subst IsErr (sym (c.in_err-next.was {u = tt})) refl) in
    record {
      later = omega (arith, cause.later, works);
      fault = λ failed. omega (arith, rose, works);
      no_fault = λ ok. absurd (no_ok c.from_residual.result _ c.from_residual.ensures.1 ok);
    }

pub loop-next-smaller : goal.loop-next-smaller
loop-next-smaller g c =
    let j = c.args.journal.now in
    let rows = rows_with arc_value c.args.rows.now.rows in
    let less = one_call_less (checkpoint_left j (bare rows) c.in-Some.at)
    (some_left _ _ _ _ c.requires.held c.in-Some.at) in
    let next = ap calls_left c.in_ok-next.ensures.next in
    let here = ap (λ (o : Option CheckpointStep). calls_left (checkpoint_rest j (bare rows) o))
    c.in-Some.is in
    omega (arith, less, next, here)

pub loop-next-preserved : goal.loop-next-preserved
loop-next-preserved g c =
    let view = g.D.Disk.view in
    let rows = rows_with arc_value c.args.rows.now.rows in
    let l = c.loop-next in
    let call = c.make_checkpoint_call in
    let room = call.ensures.room in
    record {
      room = omega (arith, l.invariant.room, room);
      stands = λ may.
          stands_on _ _ _ _ may view g.met.D.Disk.only_now l.disk call.new.disk l.next c.in-Some.at
          c.in-Some.is call.result (l.invariant.stands may) call.ensures.called c.in_ok-next.next
          c.in_ok-next.was c.in_ok-next.ensures.next;
      images = frames_on _ _ _ _ c.requires.held view g.met.D.Disk.only_now l.disk call.new.disk
          l.next c.in-Some.at c.in-Some.is call.result (l.invariant.stands c.requires.held)
          call.ensures.called c.args.disk.now l.invariant.images;
      works =
          (call_cause view (checkpoint_left c.args.journal.now (bare rows) c.in-Some.at) l.disk
          call.new.disk call.result call.ensures.called).no_fault
          (subst IsOk (sym c.in_ok-next.was) refl)
          ∙ l.invariant.works;
    }

pub returns-clause-held : goal.returns-clause-held
returns-clause-held g c =
    let view = g.D.Disk.view in
    let l = c.loop-next in
    held_then _ _ _ _ c.requires.held l.next c.in_default.not-Some (view.contents l.disk)
    (view.unsynced l.disk) (l.invariant.stands c.requires.held)
