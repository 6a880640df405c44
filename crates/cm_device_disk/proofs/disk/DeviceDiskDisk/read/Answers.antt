use Rattle.std.proofs.Common.{rules, length}
use Rattle.cm_disk.specs.Calls.DiskCall.{Read}
use Rattle.cm_device_disk.proofs.disk.DeviceDiskDisk.read.Goals as goal

pub returns-in_default-clause-called : goal.returns-in_default-clause-called
returns-in_default-clause-called g c = record {
  counted = search rules;
  fails = search rules;
  cause = search rules;
  call = Read c.args.at (length c.args.out.now);
  made = record { on_disk = search rules; on_state = search rules; on_device = search rules };
}
