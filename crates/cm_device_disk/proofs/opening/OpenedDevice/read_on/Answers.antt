use Rattle.std.proofs.Common.{length, arith, map}
use Rattle.cm_device_disk.proofs.RunBytes.{ranges_end, none_read}
use Rattle.cm_device_disk.specs.Runs.{range_of}
use Rattle.cm_device_disk.proofs.opening.OpenedDevice.read_on.Goals as goal

pub invariant_of-result : goal.invariant_of-result
invariant_of-result g c =
    let f = c.args.self in
    let n = none_read (length c.read_up_to.new.bytes.items) f.len c.new-2.result.items
    c.new-2.ensures.items
    (omega (
      arith,
      c.in_ok-read_up_to.ensures.reached,
      c.min-wanted.ensures,
      ranges_end (length f.beginning.items) f.len (map range_of f.runs.items) f.in_order,
    )) in
    record { is_within_limit = f.is_within_limit; in_order = n.0; full = n.1 }
