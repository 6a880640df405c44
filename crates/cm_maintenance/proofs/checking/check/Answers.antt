use Rattle.cm_verdict.specs.Verdict.{verdict}
use Rattle.cm_verdict.proofs.{fault_told}
use Rattle.cm_maintenance.specs.Report.{Reports}
use Rattle.cm_maintenance.proofs.Checked.{reports, counted}
use Rattle.cm_maintenance.proofs.checking.check.Goals as goal

pub returns-clause-verdict : goal.returns-clause-verdict
returns-clause-verdict g c =
    let contents = g.D.Disk.view.contents c.args.disk.now in
    let t = c.in_ok-file.ensures.standing in
    record {
      told = t.told;
      verdict_is = t.verdict_is;
      alike = reports c.found_is_live.ensures c.found_is_framed.ensures.framed
          c.verdict_is_exact.ensures.stands c.rows_tell_state.ensures.sizes.0
          c.loaders_are_own.ensures contents t.told t.verdict_is c.count.result
          (counted contents c.in_ok-file.file t.told c.count.result t.alike c.count.ensures);
    }

pub returns-in_err-file-clause-verdict : goal.returns-in_err-file-clause-verdict
returns-in_err-file-clause-verdict g c =
    let contents = g.D.Disk.view.contents c.args.disk.now in
    fault_told (Reports contents) c.from_residual.result c.in_err-file.field-0.0
    (verdict contents) c.from_residual.ensures.1 c.in_err-file.ensures.standing
