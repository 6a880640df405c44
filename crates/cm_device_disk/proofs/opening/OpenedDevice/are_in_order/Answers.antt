use Rattle.std.proofs.Common.{◌≡◌, ◌∙◌, length, ap, sym, arith, map, inl, inr}
use Rattle.cm_device_disk.specs.Runs.{are_ranges, range_of}
use Rattle.cm_device_disk.proofs.RunBytes.{ranges_end, ends_here}
use Rattle.cm_device_disk.proofs.opening.OpenedDevice.are_in_order.Goals as goal
use Rattle.cm_device_disk.proofs.opening.OpenedDevice.are_in_order.Goals.{
  then-range-from-via-then-range-from,
  then-range-from-via-else-range-from+then-range-self,
  then-range-from-via-else-range-from+else-range-self+then-within-range,
}

pub loop-range-init : goal.loop-range-init
loop-range-init g c =
    let device = c.args.self.now in
    let from : c.len-from.result ≡ length device.beginning.items =
    omega (arith, c.len-from.ensures, device.beginning.ok.0) in
    let few = ranges_end (length device.beginning.items) device.len (map range_of device.runs.items)
    device.in_order in
    record {
      same = ap (λ n. are_ranges n device.len c.args.ranges.now) from;
      within = omega (arith, from, few);
    }

pub returns-then-range-from : goal.returns-then-range-from
returns-then-range-from g c =
    let l = c.loop-range in
    let device = c.args.self.now in
    let ranges = c.args.ranges.now in
    sym (sym l.invariant.same
    ∙ ends_here ranges l.range-index l.from device.len _ c.loop-range-test.true
    (elim c.then-range-from.branch [
      | then-range-from-via-then-range-from w ↦ inl w.if-range-from.true
      | then-range-from-via-else-range-from+then-range-self w ↦
          inr (omega (arith, w.if-range-self.true))
      | then-range-from-via-else-range-from+else-range-self+then-within-range w ↦
          inr (omega (
            arith,
            w.if-range-self.false,
            w.if-within-range.true,
            c.saturating_sub-within.ensures,
          ))
    ]))
