use Rattle.std.proofs.Common.{None}
use Rattle.cm_disk.specs.Sim.{sim_contents}
use Rattle.cm_commands.specs.Machine.{empty_machine}
use Rattle.cm_world.proofs.Reopened.{nothing_stands, begun}
use Rattle.cm_world.proofs.world.World.new.Goals as goal

pub returns-in-Ok-clause-begun : goal.returns-in-Ok-clause-begun
returns-in-Ok-clause-begun c =
    let sizes = c.args.geometry in
    let disk = c.in_ok-disk.disk in
    begun sizes c.in-Ok._reply disk c.in-Ok.world c.in_ok-disk.ensures.made
    (c.in-Ok.ensures.opened sizes (record { disk = disk; machine = empty_machine; underway = None })
    (nothing_stands sizes (sim_contents disk) c.in_ok-disk.ensures.empty)
    c.in_ok-disk.ensures.newest)

pub returns-in-Err-clause-fault : goal.returns-in-Err-clause-fault
returns-in-Err-clause-fault c =
    c.in-Err.ensures.fault c.args.geometry empty_machine
    (nothing_stands c.args.geometry (sim_contents c.in_ok-disk.disk) c.in_ok-disk.ensures.empty)
