use Rattle.std.proofs.Common.{refl}
use Rattle.cm_verdict.specs.declared.fault.OpenFault.TheVariants as open_fault
use Rattle.cm_verdict.specs.Verdict.{verdict}
use Rattle.cm_verdict.proofs.{fault_told, ok_no_fault, passed_on, no_more}
use Rattle.cm_recover.specs.Standing.{IsStanding}
use Rattle.cm_recover.proofs.standing.read_standing_by.Goals as goal

pub returns-in_err-file : goal.returns-in_err-file
returns-in_err-file g c =
    let view = g.D.Disk.view in
    let contents = view.contents c.args.disk.now in
    let e = c.in_err-file.field-0.0 in
    record {
      standing = fault_told (IsStanding contents) c.from_residual.result e (verdict contents)
          c.from_residual.ensures.1 c.in_err-file.ensures.judged;
      reads = passed_on view c.args.disk.now c.read_verdict.new.disk c.read_verdict.result
          c.from_residual.result e open_fault.Device c.in_err-file.was c.from_residual.ensures.1
          c.read_verdict.ensures.reads;
    }

pub of-requires : goal.of-requires
of-requires g c =
    let contents = g.D.Disk.view.contents c.args.disk.now in
    let j = c.in_ok-file.ensures.judged in
    (contents, j.told, j.alike)

pub returns : goal.returns
returns g c =
    let view = g.D.Disk.view in
    let contents = view.contents c.args.disk.now in
    let j = c.in_ok-file.ensures.judged in
    record {
      standing = record {
        told = j.told;
        verdict_is = j.verdict_is;
        alike = c.of.ensures contents j.told j.alike;
      };
      reads = no_more view c.args.disk.now c.read_verdict.new.disk _ _
          (ok_no_fault _ _ open_fault.Device refl) (ok_no_fault _ _ open_fault.Device refl)
          c.in_ok-file.ensures.reads;
    }
