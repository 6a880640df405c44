use Rattle.std.proofs.Common.{length, rules}
use Rattle.cm_device_disk.proofs.Followed.{begun}
use Rattle.cm_device_disk.proofs.RunBytes.{ranges_in_order}
use Rattle.cm_device_disk.proofs.disk.DeviceDisk.of_opened.Goals as goal

pub invariant_of-result : goal.invariant_of-result
invariant_of-result g c = record {
  sound = search rules;
  bytes_known = begun c.args.opened.beginning.items c.of_opened-history.result.state.now.bytes
      (search rules);
  words_known = search rules;
  in_order = ranges_in_order (length c.args.opened.beginning.items) c.args.opened.len
      c.args.opened.runs.items (search rules);
  length_known = search rules;
}
