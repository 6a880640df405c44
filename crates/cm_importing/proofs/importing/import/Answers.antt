use Rattle.std.proofs.Common.{refl}
use Rattle.cm_commands.specs.Machine.{machine_from}
use Rattle.cm_importing.proofs.Takings.{begins_ready}
use Rattle.cm_importing.proofs.Logged.{imports_from}
use Rattle.cm_importing.proofs.importing.import.Goals as goal

pub returns-in-Ok : goal.returns-in-Ok
returns-in-Ok g c =
    let s = c.in-Ok.session in
    let begins = c.in-Ok.ensures.begins in
    let run = c.import_opened.ensures (machine_from begins.base) begins.matches
    (begins_ready begins.base) in
    imports_from g.D.Disk.view c.args.loader.now (g.F.Feed.log c.args.feed.now)
    (g.F.Feed.log c.import_opened.new.feed) c.args.disk c.import_opened.result.1
    c.import_opened.result.0
    (record {
      sizes = s.committer.sizes;
      base = begins.base;
      arenas = begins.arenas;
      stands = begins.stands;
      opened = s.committer.disk;
      opening = c.in-Ok.ensures.run;
      machine = run.0;
      came = run.1;
      images = run.2;
    })

pub returns-in-Err : goal.returns-in-Err
returns-in-Err g c = record {
  fault_is = c.in-Err.ensures.fault;
  opening = c.in-Err.ensures.run;
  unasked = refl;
}
