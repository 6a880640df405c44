use Rattle.std.proofs.Common.{◌<◌, ◌≤◌, length, vec_capacity, vec_len, ap, sym, arith}
use Rattle.cm_index.specs.Living.{living}
use Rattle.cm_rows.proofs.KeptPlaces.{swept-more, room-there}
use Rattle.cm_rows.proofs.live_loader.copy_loaders.Goals as goal

pub push_living-requires : goal.push_living-requires
push_living-requires c =
    let h = c.loop-slot.invariant in
    let others = c.args.others.now in
    let i = c.loop-slot.slot-index in
    let within : i < length others = omega (arith, c.loop-slot-test.true) in
    let room : length (living others) ≤ vec_capacity c.loop-slot.loaders =
    omega (arith, h.capacity, c.requires, c.clear.ensures.capacity) in
    room-there others i (vec_len c.loop-slot.loaders) (vec_capacity c.loop-slot.loaders) _ within
    (omega (arith, ap length h.items_are, c.loop-slot.loaders.ok.0)) room

pub loop-slot-preserved : goal.loop-slot-preserved
loop-slot-preserved c =
    let h = c.loop-slot.invariant in
    let others = c.args.others.now in
    let i = c.loop-slot.slot-index in
    let within : i < length others = omega (arith, c.loop-slot-test.true) in
    record {
      items_are =
          rw (c.push_living.ensures.loaders, h.items_are) (sym (swept-more others i _ within));
      capacity = omega (arith, h.capacity, c.push_living.ensures.capacity);
    }
