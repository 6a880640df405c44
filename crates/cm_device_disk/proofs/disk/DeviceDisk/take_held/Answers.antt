use Rattle.std.proofs.Common.{rules}
use Rattle.std.specs.List.{All}
use Rattle.cm_device_disk.specs.Runs.{IsOf}
use Rattle.cm_device_disk.specs.DeviceDisk.{disk_contents}
use Rattle.cm_device_disk.proofs.disk.DeviceDisk.take_held.Goals as goal

pub returns-in_ok-take_range-in-Read-clause-words :
    goal.returns-in_ok-take_range-in-Read-clause-words
returns-in_ok-take_range-in-Read-clause-words g c =
    let contents = disk_contents c.args.self.now in
    let are : All (IsOf contents) c.in-Read.runs.items = search rules in
    c.in_ok-take_range-in-Read.ensures.taken contents are
