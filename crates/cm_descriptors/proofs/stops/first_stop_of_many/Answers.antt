use Rattle.std.proofs.Common.{◌≡◌, ◌*◌, ◌-◌, length, take, drop, ap, arith}
use Rattle.std.specs.List.{prefix_len}
use Rattle.cm_descriptors.specs.Marks.{is_no_stop}
use Rattle.cm_descriptors.proofs.MarksOf.{last_bytes}
use Rattle.cm_descriptors.proofs.FirstStop.{skipped, within, beyond, run_bound}
use Rattle.cm_descriptors.proofs.stops.first_stop_of_many.Goals as goal

pub returns-then-run-lt-LANES : goal.returns-then-run-lt-LANES
returns-then-run-lt-LANES c =
    let xs = c.args.bytes.now in
    let at = 16 * c.loop-place.place in
    let run = c.run_of_sixteen-run.ensures in
    omega (
      arith,
      run,
      skipped is_no_stop at xs c.loop-place.invariant,
      within is_no_stop 16 (drop at xs) (omega (arith, run, c.if-run-lt-LANES.true)),
    )

pub loop-place-preserved : goal.loop-place-preserved
loop-place-preserved c =
    let xs = c.args.bytes.now in
    let at = 16 * c.loop-place.place in
    let run = c.run_of_sixteen-run.ensures in
    omega (
      arith,
      skipped is_no_stop at xs c.loop-place.invariant,
      beyond is_no_stop 16 (drop at xs) (omega (arith, run, c.if-run-lt-LANES.false)),
    )

pub overflow_add-result-2 : goal.overflow_add-result-2
overflow_add-result-2 c =
    let bound = run_bound is_no_stop 16 (drop (length c.args.bytes.now - 16) c.args.bytes.now) in
    omega (arith, c.run_of_sixteen.ensures, bound, c.requires)

pub returns : goal.returns
returns c =
    let xs = c.args.bytes.now in
    let at = length xs - 16 in
    let last : prefix_len is_no_stop (take 16 (drop at xs)) ≡ prefix_len is_no_stop (drop at xs) =
    ap (prefix_len is_no_stop) (last_bytes xs 16 c.requires) in
    omega (
      arith,
      c.run_of_sixteen.ensures,
      last,
      skipped is_no_stop at xs
          (omega (arith, c.loop-place.invariant, c.loop-place-test.false, c.requires)),
    )
