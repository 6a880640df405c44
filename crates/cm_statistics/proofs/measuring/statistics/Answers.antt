use Rattle.std.proofs.Common.{arith}
use Rattle.cm_guards.proofs.{reading}
use Rattle.cm_verdict.specs.Verdict.{verdict}
use Rattle.cm_verdict.proofs.{fault_told}
use Rattle.cm_statistics.specs.Statistics.{Measures}
use Rattle.cm_statistics.proofs.Measured.{small}
use Rattle.cm_statistics.proofs.measuring.statistics.Goals as goal

pub measure-requires-clause-small : goal.measure-requires-clause-small
measure-requires-clause-small g c =
    let contents = g.D.Disk.view.contents c.args.disk.now in
    let t = c.in_ok-file.ensures.standing in
    small c.found_is_live.ensures c.verdict_is_exact.ensures.stands contents t.told t.verdict_is
    c.in_ok-file.file t.alike

pub returns-in_err-file-clause-verdict : goal.returns-in_err-file-clause-verdict
returns-in_err-file-clause-verdict g c =
    let contents = g.D.Disk.view.contents c.args.disk.now in
    fault_told (Measures contents) c.from_residual.result c.in_err-file.field-0.0
    (verdict contents) c.from_residual.ensures.1 c.in_err-file.ensures.standing

pub returns-in_err-bytes-clause-reads : goal.returns-in_err-bytes-clause-reads
returns-in_err-bytes-clause-reads g c =
    grind (
      arith,
      reading,
      c.in_ok-file.ensures.reads,
      c.len.ensures.looks,
      c.from_residual-in_err-bytes.ensures,
    )
