use Rattle.std.proofs.Common.{length, refl, rules, ap, arith}
use Rattle.cm_index.proofs.{index-none}
use Rattle.cm_rows.proofs.Linking.{linked-none}
use Rattle.cm_rows.proofs.live_rows.LiveRows.new.Goals as goal

pub invariant_of-result : goal.invariant_of-result
invariant_of-result g c =
    let none = c.in_ok-rows.ensures.none in
    let room = c.in_ok-rows.ensures.room in
    let no_loaders = c.in_ok-loaders.ensures.none in
    let loader_room = c.in_ok-loaders.ensures.room in
    let limit = c.row_limit-room.ensures in (
      rw (none.indexed.slots, no_loaders.slots) (search rules),
      record {
        index = rw (none.indexed.index, none.indexed.slots)
            (index-none g.P.Kept.mark g.P.Kept.name);
        unique = rw (none.indexed.slots) (record { names = λ r s m n e. absurd m });
        room = omega (arith, room.indexed.index, limit);
        places_room = omega (arith, room.indexed.places, limit);
      },
      record {
        linked = rw (none.indexed.slots, none.before) linked-none;
        lasts = rw (no_loaders.newest, no_loaders.slots) refl;
        few = omega (arith, ap length none.indexed.slots);
        room = omega (arith, room.indexed.slots, limit);
        before_room = omega (arith, room.before, limit);
        newest_room = omega (arith, loader_room.newest, limit);
      },
      record {
        rises = rw (no_loaders.slots) (record { each = tt });
        last = λ k e. absurd (omega (arith, e, ap length no_loaders.slots));
        few = omega (arith, ap length no_loaders.slots);
        room = omega (arith, loader_room.slots, limit);
      },
      rw (none.indexed.slots) refl,
      rw (none.indexed.slots) refl,
    )
