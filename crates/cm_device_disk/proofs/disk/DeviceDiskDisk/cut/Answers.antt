use Rattle.std.proofs.Common.{rules}
use Rattle.cm_disk.specs.Calls.DiskCall.{Cut}
use Rattle.cm_device_disk.proofs.Noted.{was_cut, not_cut}
use Rattle.cm_device_disk.proofs.disk.DeviceDiskDisk.cut.Goals as goal

pub returns-in-Ok-clause-cuts : goal.returns-in-Ok-clause-cuts
returns-in-Ok-clause-cuts g c = record {
  cut = search rules;
  between = search rules;
  shortens = search rules;
  time = was_cut c.args.len c.args.self.now.history.state c.note.new.self.state c.requires
      c.note.ensures;
  cause = search rules;
}

pub returns-in-Err-clause-cuts : goal.returns-in-Err-clause-cuts
returns-in-Err-clause-cuts g c = record {
  cut = search rules;
  between = search rules;
  shortens = search rules;
  time = not_cut c.args.len c.args.self.now.history.state c.note-in-Err.new.self.state c.requires
      c.note-in-Err.ensures;
  cause = search rules;
}

pub returns-in-Ok-clause-called : goal.returns-in-Ok-clause-called
returns-in-Ok-clause-called g c = record {
  counted = search rules;
  fails = search rules;
  cause = search rules;
  call = Cut c.args.len;
  made = record { on_disk = search rules; on_state = search rules; on_device = search rules };
}

pub returns-in-Err-clause-called : goal.returns-in-Err-clause-called
returns-in-Err-clause-called g c = record {
  counted = search rules;
  fails = search rules;
  cause = search rules;
  call = Cut c.args.len;
  made = record { on_disk = search rules; on_state = search rules; on_device = search rules };
}
