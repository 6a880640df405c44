use Rattle.cm_commands.specs.Machine.{machine_from}
use Rattle.cm_importing.proofs.Takings.{begins_ready}
use Rattle.cm_importing.proofs.Unloaded.{unloads_from}
use Rattle.cm_importing.proofs.unloading.unload.Goals as goal

pub returns-in-Ok : goal.returns-in-Ok
returns-in-Ok g c =
    let s = c.in-Ok.session in
    let begins = c.in-Ok.ensures.begins in
    let run = c.unload_opened.ensures (machine_from begins.base) begins.matches
    (begins_ready begins.base) in
    unloads_from g.D.Disk.view c.args.loaders.items c.args.disk c.unload_opened.result.1
    c.unload_opened.result.0
    (record {
      sizes = s.committer.sizes;
      base = begins.base;
      arenas = begins.arenas;
      stands = begins.stands;
      opened = s.committer.disk;
      opening = c.in-Ok.ensures.run;
      machine = run.0;
      came = run.1;
      images = run.2;
    })

pub returns-in-Err : goal.returns-in-Err
returns-in-Err g c = record { fault_is = c.in-Err.ensures.fault; opening = c.in-Err.ensures.run }
