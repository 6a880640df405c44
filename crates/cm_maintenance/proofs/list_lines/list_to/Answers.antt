use Rattle.std.proofs.Common.{◌≡◌, ◌<◌, ◌∙◌, ℕ, List, Result, Ok, Err, refl, sym, ap, subst}
use Rattle.cm_record.specs.Layout.{lay}
use Rattle.cm_layout.specs.declared.row.Row.{Row}
use Rattle.cm_layout.specs.Rows.{rows_with}
use Rattle.cm_front.specs.Front.{FrontState}
use Rattle.cm_verdict.specs.declared.fault.OpenFault.TheVariants as open_fault
use Rattle.cm_maintenance.specs.Listing.{listing}
use Rattle.cm_lines.specs.declared.fault.LineFault.{LineFault}
use Rattle.cm_maintenance.specs.declared.status.Status.{Status}
use Rattle.cm_maintenance.specs.declared.status.Status.TheVariants.{Done}
use Rattle.cm_maintenance.specs.Texts.{list_lines, fault_line}
use Rattle.cm_maintenance.specs.Reporting.{Writes, fault_status}
use Rattle.cm_recover.specs.Opened.{OpensThrough}
use Rattle.cm_maintenance.proofs.Rose.{opens_rose}
use Rattle.cm_maintenance.proofs.Statuses.{never_done}
use Rattle.cm_maintenance.proofs.list_lines.list_to.Goals as goal

pub returns-in-Ok-clause-told : goal.returns-in-Ok-clause-told
returns-in-Ok-clause-told g c =
    let held = g.W.Write.contents c.args.writer.now in
    let holds = g.W.Write.contents c.tell_list-status.new.writer in
    let opens = c.in-Ok.ensures.opened in
    let rows = rows_with lay opens.standing.rows in
    let same : c.in-Ok.front.rows ≡ rows =
    ap (λ (f : FrontState). f.rows) opens.front_is.front_is in
    record {
      answer = Ok (listing rows);
      answers = record {
        told = opens.standing;
        verdict_is = opens.verdict_is;
        alike = record { stands = opens.stands; listed = refl };
      };
      device = λ e. absurd (cc);
      written = subst (λ (r : Result Status LineFault). Writes held holds
          (list_lines (listing rows)) Done r)
          (sym c.with_disk.ensures.status)
          (subst (λ (l : List (Row (List ℕ))).
          Writes held holds (list_lines (listing l)) Done c.tell_list-status.result) same
          c.tell_list-status.ensures);
    }

pub returns-in-Err-clause-told : goal.returns-in-Err-clause-told
returns-in-Err-clause-told g c =
    let held = g.W.Write.contents c.args.writer.now in
    let holds = g.W.Write.contents c.tell_fault-status.new.writer in
    let failures = g.D.Disk.view.failures in
    let fault = c.in-Err.field-0.fault in
    record {
      answer = Err fault;
      answers = c.in-Err.ensures.fault;
      device = λ e.
          let device : fault ≡ open_fault.Device = cc in
          subst (λ d. failures c.args.disk < failures d) (sym c.with_disk-in-Err.ensures.disk)
          (c.in-Err.ensures.run.cause device);
      written = subst (λ (r : Result Status LineFault).
          Writes held holds (fault_line fault) (fault_status fault) r)
          (sym c.with_disk-in-Err.ensures.status) c.tell_fault-status.ensures;
    }

pub returns-in-Err-clause-stored : goal.returns-in-Err-clause-stored
returns-in-Err-clause-stored g c =
    λ done. absurd
    (never_done _ _ _ c.in-Err.field-0.fault c.tell_fault-status.result c.tell_fault-status.ensures
    (sym c.with_disk-in-Err.ensures.status ∙ done))

pub returns-in-Ok-clause-run : goal.returns-in-Ok-clause-run
returns-in-Ok-clause-run g c =
    let disk = g.D.Disk in
    let failures = disk.view.failures in
    subst (λ d. OpensThrough disk.view c.args.disk d (failures c.args.disk < failures d))
    (sym (c.with_disk.ensures.disk ∙ c.into_disk.ensures))
    (opens_rose disk.view c.args.disk c.in-Ok.committer.disk ⊥ c.in-Ok.ensures.run)

pub returns-in-Err-clause-run : goal.returns-in-Err-clause-run
returns-in-Err-clause-run g c =
    let disk = g.D.Disk in
    let failures = disk.view.failures in
    let fault = c.in-Err.field-0.fault in
    subst (λ d. OpensThrough disk.view c.args.disk d (failures c.args.disk < failures d))
    (sym c.with_disk-in-Err.ensures.disk)
    (opens_rose disk.view c.args.disk c.in-Err.field-0.disk (fault ≡ open_fault.Device)
    c.in-Err.ensures.run)
