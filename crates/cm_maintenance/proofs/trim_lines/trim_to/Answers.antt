use Rattle.std.proofs.Common.{◌≡◌, ◌<◌, ◌∙◌, Result, Err, inr, sym, ap, subst, arith}
use Rattle.std.specs.Prelude.{is_err}
use Rattle.cm_disk.specs.Disk.{IsDurable}
use Rattle.cm_guards.specs.Calls.{LeavesOnly}
use Rattle.cm_guards.specs.Guards.{EachImage}
use Rattle.cm_guards.proofs.{leaves_more, leaves_on}
use Rattle.cm_commit.specs.States.{ShowsCommitted}
use Rattle.cm_commit.specs.Trims.{roots_of_rows}
use Rattle.cm_verdict.specs.declared.fault.OpenFault.TheVariants as open_fault
use Rattle.cm_lines.specs.declared.fault.LineFault.{LineFault}
use Rattle.cm_maintenance.specs.declared.status.Status.{Status}
use Rattle.cm_maintenance.specs.Reporting.{Writes, told, status_of, fault_status}
use Rattle.cm_maintenance.specs.Texts.{roots_line, fault_line}
use Rattle.cm_maintenance.specs.Trimming.{IsTrimmed, HasNoMore}
use Rattle.cm_recover.specs.Opened.{LeavesSame}
use Rattle.cm_maintenance.proofs.Cuts.{roots_told, trimmed_so, same_cache, shows_as, of_ok}
use Rattle.cm_maintenance.proofs.Cuts.{done_roots}
use Rattle.cm_maintenance.proofs.Statuses.{never_done}
use Rattle.cm_maintenance.proofs.trim_lines.trim_to.Goals as goal

pub returns-in-Ok-clause-told : goal.returns-in-Ok-clause-told
returns-in-Ok-clause-told g c =
    let held = g.W.Write.contents c.args.writer.now in
    let holds = g.W.Write.contents c.tell_roots-status.new.writer in
    let failures = g.D.Disk.view.failures in
    let roots = c.trim_file-roots in
    let committer = c.in-Ok.committer in
    let contents = g.D.Disk.view.contents c.args.disk in
    let opened = c.in-Ok.ensures.opened in
    let left_is = c.with_disk.ensures.disk ∙ c.into_disk.ensures in
    record {
      answer = roots.result;
      answers = roots_told contents c.in-Ok._front committer opened roots.result roots.ensures.told
          (λ is. (roots.ensures.cause is).0);
      device = λ e.
          let later = c.in-Ok.ensures.run.later in
          let rose = (roots.ensures.cause (ap is_err e)).1 in
          subst (λ d. failures c.args.disk < failures d) (sym left_is) (omega (arith, later, rose));
      written = subst (λ (r : Result Status LineFault).
          Writes held holds (told roots_line roots.result) (status_of roots.result) r)
          (sym c.with_disk.ensures.status) c.tell_roots-status.ensures;
    }

pub returns-in-Ok-clause-trimmed : goal.returns-in-Ok-clause-trimmed
returns-in-Ok-clause-trimmed g c =
    let roots = c.trim_file-roots in
    let committer = c.in-Ok.committer in
    let contents = g.D.Disk.view.contents c.args.disk in
    let opened = c.in-Ok.ensures.opened in
    let left_is = c.with_disk.ensures.disk ∙ c.into_disk.ensures in
    let left = g.D.Disk.view.contents roots.new.committer.disk in
    λ done.
    let n = done_roots (g.W.Write.contents c.args.writer.now)
    (g.W.Write.contents c.tell_roots-status.new.writer) roots.result c.tell_roots-status.result
    c.tell_roots-status.ensures (sym c.with_disk.ensures.status ∙ done) in
    subst (λ d. IsTrimmed contents (g.D.Disk.view.contents d)) (sym left_is)
    (trimmed_so contents c.in-Ok._front committer opened n.0 left
    (of_ok roots.result (λ k. k ≡ roots_of_rows committer.rows) n.0 n.1 roots.ensures.told)
    (of_ok roots.result (λ k. HasNoMore committer.sizes k left) n.0 n.1 roots.ensures.no_more))

pub returns-in-Ok-clause-stored : goal.returns-in-Ok-clause-stored
returns-in-Ok-clause-stored g c =
    let view = g.D.Disk.view in
    let roots = c.trim_file-roots in
    let left_is = c.with_disk.ensures.disk ∙ c.into_disk.ensures in
    let left = roots.new.committer.disk in
    λ done.
    let n = done_roots (g.W.Write.contents c.args.writer.now)
    (g.W.Write.contents c.tell_roots-status.new.writer) roots.result c.tell_roots-status.result
    c.tell_roots-status.ensures (sym c.with_disk.ensures.status ∙ done) in
    subst (λ d. IsDurable (view.contents d) (view.unsynced d)) (sym left_is)
    (of_ok roots.result (λ _. IsDurable (view.contents left) (view.unsynced left)) n.0 n.1
    (roots.ensures.stored c.in-Ok.ensures.stored))

pub returns-in-Err-clause-stored : goal.returns-in-Err-clause-stored
returns-in-Err-clause-stored g c =
    λ done. absurd
    (never_done _ _ _ c.in-Err.field-0.fault c.tell_fault-status.result c.tell_fault-status.ensures
    (sym c.with_disk-in-Err.ensures.status ∙ done))

pub returns-in-Ok-clause-moments : goal.returns-in-Ok-clause-moments
returns-in-Ok-clause-moments g c =
    let disk = g.D.Disk in
    let roots = c.trim_file-roots in
    let committer = c.in-Ok.committer in
    let contents = g.D.Disk.view.contents c.args.disk in
    let opened = c.in-Ok.ensures.opened in
    let left_is = c.with_disk.ensures.disk ∙ c.into_disk.ensures in
    let before = c.args.disk in
    let mid = committer.disk in
    let new = roots.new.committer.disk in
    let unsynced = disk.view.unsynced before in
    subst (λ d. LeavesOnly disk.view before d (LeavesSame contents unsynced))
    (sym left_is)
    (leaves_on disk.view before mid new (LeavesSame contents unsynced)
    c.in-Ok.ensures.run.images
    (leaves_more disk.view mid new (ShowsCommitted committer)
    (LeavesSame contents unsynced)
    (λ image shows. inr (same_cache contents c.in-Ok._front committer opened image shows))
    roots.ensures.moments))

pub returns-in-Ok-clause-images : goal.returns-in-Ok-clause-images
returns-in-Ok-clause-images g c =
    let roots = c.trim_file-roots in
    let committer = c.in-Ok.committer in
    let contents = g.D.Disk.view.contents c.args.disk in
    let opened = c.in-Ok.ensures.opened in
    let left_is = c.with_disk.ensures.disk ∙ c.into_disk.ensures in
    let unsynced = g.D.Disk.view.unsynced c.args.disk in
    subst (λ d. EachImage (g.D.Disk.view.contents d) (g.D.Disk.view.unsynced d)
    (LeavesSame contents unsynced)) (sym left_is)
    (record {
      each = λ image i.
          inr (same_cache contents c.in-Ok._front committer opened image
          (shows_as committer roots.new.committer roots.ensures.kept image
          (c.images.ensures.each image i)));
    })

pub returns-in-Err-clause-told : goal.returns-in-Err-clause-told
returns-in-Err-clause-told g c =
    let held = g.W.Write.contents c.args.writer.now in
    let holds = g.W.Write.contents c.tell_fault-status.new.writer in
    let failures = g.D.Disk.view.failures in
    let fault = c.in-Err.field-0.fault in
    record {
      answer = Err fault;
      answers = c.in-Err.ensures.fault;
      device = λ e.
          let device : fault ≡ open_fault.Device = cc in
          subst (λ d. failures c.args.disk < failures d) (sym c.with_disk-in-Err.ensures.disk)
          (c.in-Err.ensures.run.cause device);
      written = subst (λ (r : Result Status LineFault).
          Writes held holds (fault_line fault) (fault_status fault) r)
          (sym c.with_disk-in-Err.ensures.status) c.tell_fault-status.ensures;
    }

-- what a crash leaves now it may have left when opening ended
pub returns-in-Err-clause-images : goal.returns-in-Err-clause-images
returns-in-Err-clause-images g c =
    let disk = g.D.Disk in
    let left = c.in-Err.field-0.disk in
    let run = c.in-Err.ensures.run in
    let contents = disk.view.contents c.args.disk in
    let unsynced = disk.view.unsynced c.args.disk in
    subst (λ d. EachImage (disk.view.contents d) (disk.view.unsynced d)
    (LeavesSame contents unsynced)) (sym c.with_disk-in-Err.ensures.disk)
    (record {
      each = λ image i.
          run.images.each image
          (g.met.D.Disk.counts_now left (disk.view.moment c.args.disk) image run.images.later i);
    })
