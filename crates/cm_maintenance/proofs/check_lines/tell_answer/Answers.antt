use Rattle.std.proofs.Common.{◌∙◌, ℕ, List, Result, sym, subst}
use Rattle.cm_verdict.specs.declared.fault.OpenFault.{OpenFault}
use Rattle.cm_maintenance.specs.declared.report.Report.{Report}
use Rattle.cm_maintenance.specs.declared.status.Status.TheVariants.{Done}
use Rattle.cm_maintenance.specs.Texts.{report_line}
use Rattle.cm_maintenance.specs.Reporting.{Writes, told, status_of}
use Rattle.cm_maintenance.proofs.check_lines.tell_answer.Goals as goal

pub returns-in-Ok-line_of_report : goal.returns-in-Ok-line_of_report
returns-in-Ok-line_of_report g c =
    let held = g.W.Write.contents c.args.writer.now in
    let holds = g.W.Write.contents c.tell.new.writer in
    subst (λ (a : Result Report OpenFault).
    Writes held holds (told report_line a) (status_of a) c.tell.result) (sym c.in-Ok.is)
    (subst (λ (lines : List ℕ). Writes held holds lines Done c.tell.result)
    (c.deref.ensures.value ∙ c.in-Ok-line_of_report.ensures) c.tell.ensures)
