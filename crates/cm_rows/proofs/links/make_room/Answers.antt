use Rattle.std.proofs.Common.{length, sym, ap, ◌∙◌, arith, subst}
use Rattle.cm_index.specs.Index.{AreUnique}
use Rattle.cm_index.specs.Living.{living}
use Rattle.cm_index.proofs.{living-swept, swept-live, length-swept}
use Rattle.cm_rows.proofs.KeptPlaces.{items-swept, rises-living, each-lives}
use Rattle.cm_rows.proofs.links.make_room.Goals as goal

pub relink-requires-clause-live : goal.relink-requires-clause-live
relink-requires-clause-live g c = rw (
  c.deref-then-len-row_limit.ensures.value,
  c.sweep.ensures.slots,
) (swept-live c.args.rows.now.indexed.slots.items)

pub relink-requires-clause-rises : goal.relink-requires-clause-rises
relink-requires-clause-rises g c =
    let ls = c.args.loaders.now.slots.items in
    rw (
      c.deref.ensures.value,
      c.sweep_slots.ensures.slots,
      items-swept ls,
    ) (rises-living ls c.requires.loaders.rises)

pub relink-requires-clause-owned : goal.relink-requires-clause-owned
relink-requires-clause-owned g c =
    rw (
      c.deref.ensures.value,
      c.sweep_slots.ensures.slots,
      living-swept c.args.loaders.now.slots.items,
      c.deref-then-len-row_limit.ensures.value,
      c.sweep.ensures.slots,
      living-swept c.args.rows.now.indexed.slots.items,
    ) c.requires.owned

pub relink-requires-clause-fits : goal.relink-requires-clause-fits
relink-requires-clause-fits g c =
    rw (c.deref-then-len-row_limit.ensures.value, c.sweep.ensures.slots)
    (omega (
      arith,
      length-swept c.args.rows.now.indexed.slots.items,
      c.requires.few,
      c.requires.lawful.slots_to,
    ))

pub relink-requires-clause-room : goal.relink-requires-clause-room
relink-requires-clause-room g c =
    rw (c.deref-then-len-row_limit.ensures.value, c.sweep.ensures.slots)
    (omega (
      arith,
      length-swept c.args.rows.now.indexed.slots.items,
      c.requires.few,
      c.requires.links.before_room,
    ))

pub relink-requires-clause-newest_room : goal.relink-requires-clause-newest_room
relink-requires-clause-newest_room g c =
    rw (c.deref.ensures.value, c.sweep_slots.ensures.slots)
    (omega (
      arith,
      length-swept c.args.loaders.now.slots.items,
      c.requires.loaders_few,
      c.requires.few,
      c.requires.links.newest_room,
    ))

pub returns-then-len-row_limit-clause-rows : goal.returns-then-len-row_limit-clause-rows
returns-then-len-row_limit-clause-rows g c = ap living c.sweep.ensures.slots
    ∙ living-swept c.args.rows.now.indexed.slots.items

pub returns-then-len-row_limit-clause-living_loaders :
    goal.returns-then-len-row_limit-clause-living_loaders
returns-then-len-row_limit-clause-living_loaders g c =
    ap living c.sweep_slots.ensures.slots ∙ living-swept c.args.loaders.now.slots.items

pub returns-then-len-row_limit-clause-index : goal.returns-then-len-row_limit-clause-index
returns-then-len-row_limit-clause-index g c =
    let h = c.requires.index in
    record {
      index = c.sweep.ensures.index;
      unique = rw (c.sweep.ensures.slots)
          (subst AreUnique (sym (living-swept c.args.rows.now.indexed.slots.items)) h.unique);
      room = omega (arith, h.room, c.sweep.ensures.index_room);
      places_room = omega (arith, h.places_room, c.sweep.ensures.places);
    }

pub returns-then-len-row_limit-clause-loaders : goal.returns-then-len-row_limit-clause-loaders
returns-then-len-row_limit-clause-loaders g c =
    let h = c.requires.loaders in
    let ls = c.args.loaders.now.slots.items in
    record {
      rises = rw (c.sweep_slots.ensures.slots, items-swept ls)
          (rises-living ls h.rises);
      last = rw (c.sweep_slots.ensures.slots)
          (λ k e. each-lives k (swept-live ls) (omega (arith, e)));
      few = omega (
        arith,
        ap length c.sweep_slots.ensures.slots,
        length-swept ls,
        c.requires.loaders_few,
        length-swept c.args.rows.now.indexed.slots.items,
        ap length c.sweep.ensures.slots,
      );
      room = omega (arith, h.room, c.sweep_slots.ensures.capacity);
    }

pub returns-then-len-row_limit-clause-room : goal.returns-then-len-row_limit-clause-room
returns-then-len-row_limit-clause-room g c =
    omega (
      arith,
      ap length c.sweep.ensures.slots,
      length-swept c.args.rows.now.indexed.slots.items,
      c.requires.few,
    )

pub returns-then-len-row_limit-clause-links : goal.returns-then-len-row_limit-clause-links
returns-then-len-row_limit-clause-links g c =
    let h = c.requires.links in
    let slots = c.args.rows.now.indexed.slots.items in
    let linked = rw (c.deref-then-len-row_limit.ensures.value) at c.relink.ensures.linked in
    let lasts = rw (
      c.deref-then-len-row_limit.ensures.value,
      c.deref.ensures.value,
    ) at c.relink.ensures.newest in
    record {
      linked = linked;
      lasts = lasts;
      few = omega (arith, ap length c.sweep.ensures.slots, length-swept slots, c.requires.few);
      room = omega (arith, h.room, c.sweep.ensures.capacity);
      before_room = omega (arith, h.before_room, c.relink.ensures.capacity);
      newest_room = omega (arith, h.newest_room, c.relink.ensures.newest_capacity);
    }
