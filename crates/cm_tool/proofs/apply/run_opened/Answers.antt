use Rattle.std.proofs.Common.{subst}
use Rattle.cm_guards.specs.Calls.{LeavesOnly}
use Rattle.cm_session.specs.Opening.{OpensSession}
use Rattle.cm_lines.specs.Streams.{io}
use Rattle.cm_tool.specs.Applied.{RunsFromOpened}
use Rattle.cm_tool.specs.Runs.{IsRun}
use Rattle.cm_tool.specs.Serving.{medium}
use Rattle.cm_tool.proofs.Opened.{opened_run}
use Rattle.cm_tool.proofs.apply.run_opened.Goals as goal

pub returns-in-Ok-result-clause-ok : goal.returns-in-Ok-result-clause-ok
returns-in-Ok-result-clause-ok g c = λ disk file.
    let view = g.D.Disk.view in
    let left = c.into_disk.result in
    let run = c.run_script-result in
    let streams = io (g.R.Read.remaining c.args.reader.now)
    (g.W.Write.contents c.args.writer.now) (g.W.Write.contents run.new.writer) in
    subst (λ r. RunsFromOpened (LeavesOnly view) disk left (medium view disk) (medium view left)
    (λ sizes old now. IsRun (LeavesOnly view) sizes streams r old now)) c.in-Ok-result.is
    (opened_run view disk streams c.in-Ok.session run.new.session left run.result
    (subst (OpensSession view disk) c.in-Ok.is file) run.ensures.machine run.ensures.sizes
    c.images.ensures c.into_disk.ensures)

pub returns-in-Err-result-clause-err : goal.returns-in-Err-result-clause-err
returns-in-Err-result-clause-err g c = λ disk file.
    let view = g.D.Disk.view in
    let left = c.into_disk-in-Err-result.result in
    let run = c.run_script-result in
    let streams = io (g.R.Read.remaining c.args.reader.now)
    (g.W.Write.contents c.args.writer.now) (g.W.Write.contents run.new.writer) in
    subst (λ r. RunsFromOpened (LeavesOnly view) disk left (medium view disk) (medium view left)
    (λ sizes old now. IsRun (LeavesOnly view) sizes streams r old now)) c.in-Err-result.is
    (opened_run view disk streams c.in-Ok.session run.new.session left run.result
    (subst (OpensSession view disk) c.in-Ok.is file) run.ensures.machine run.ensures.sizes
    c.images.ensures c.into_disk-in-Err-result.ensures)
