use Rattle.std.proofs.Common.{rules}
use Rattle.cm_disk.specs.Calls.DiskCall.{Take}
use Rattle.cm_device_disk.proofs.disk.DeviceDiskDisk.take_words.Goals as goal

pub returns-in-Some-clause-called : goal.returns-in-Some-clause-called
returns-in-Some-clause-called g c = record {
  counted = search rules;
  fails = search rules;
  cause = search rules;
  call = Take c.args.range.at c.args.range.count;
  made = record { on_disk = search rules; on_state = search rules; on_device = search rules };
}

pub returns-in-None-clause-called : goal.returns-in-None-clause-called
returns-in-None-clause-called g c = record {
  counted = search rules;
  fails = search rules;
  cause = search rules;
  call = Take c.args.range.at c.args.range.count;
  made = record { on_disk = search rules; on_state = search rules; on_device = search rules };
}
