use Rattle.std.proofs.Common.{rules}
use Rattle.cm_disk.specs.Calls.DiskCall.{Write}
use Rattle.cm_device_disk.proofs.Noted.{wrote, not_written, wrote_within, not_written_within}
use Rattle.cm_device_disk.proofs.disk.DeviceDiskDisk.write_at.Goals as goal

pub returns-in-Ok-clause-writes : goal.returns-in-Ok-clause-writes
returns-in-Ok-clause-writes g c = record {
  written = search rules;
  torn = search rules;
  opens = wrote_within c.args.at c.args.bytes.now c.args.self.now.history.state
      c.note.new.self.state
      c.note.ensures;
  time = wrote c.args.at c.args.bytes.now c.args.self.now.history.state c.note.new.self.state
      c.requires.starts_within c.note.ensures;
  cause = search rules;
}

pub returns-in-Err-clause-writes : goal.returns-in-Err-clause-writes
returns-in-Err-clause-writes g c = record {
  written = search rules;
  torn = search rules;
  opens = not_written_within c.args.at c.args.bytes.now c.args.self.now.history.state
      c.note-in-Err.new.self.state c.note-in-Err.ensures;
  time = not_written c.args.at c.args.bytes.now c.args.self.now.history.state
      c.note-in-Err.new.self.state c.note-in-Err.ensures;
  cause = search rules;
}

pub returns-in-Ok-clause-called : goal.returns-in-Ok-clause-called
returns-in-Ok-clause-called g c = record {
  counted = search rules;
  fails = search rules;
  cause = search rules;
  call = Write c.args.at c.args.bytes.now;
  made = record { on_disk = search rules; on_state = search rules; on_device = search rules };
}

pub returns-in-Err-clause-called : goal.returns-in-Err-clause-called
returns-in-Err-clause-called g c = record {
  counted = search rules;
  fails = search rules;
  cause = search rules;
  call = Write c.args.at c.args.bytes.now;
  made = record { on_disk = search rules; on_state = search rules; on_device = search rules };
}
