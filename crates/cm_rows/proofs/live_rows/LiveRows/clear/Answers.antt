use Rattle.std.proofs.Common.{◌*◌, [], length, refl, ap, subst, arith}
use Rattle.cm_pool.specs.Geometry.{Sizes}
use Rattle.cm_layout.specs.Rules.{row_limit}
use Rattle.cm_index.proofs.{index-none}
use Rattle.cm_rows.specs.Held.{PoolHolds}
use Rattle.cm_rows.proofs.Linking.{linked-none}
use Rattle.cm_rows.proofs.live_rows.LiveRows.clear.Goals as goal

pub invariant_of-self : goal.invariant_of-self
invariant_of-self g c =
    let a = c.self.inside in
    let h = c.self.invariant.0 in
    let index = c.self.invariant.1 in
    let links = c.self.invariant.2 in
    let none = c.clear.ensures.none in
    let no_loaders = c.clear-2.ensures.none in
    let room = c.clear.ensures.room (2 * row_limit a.geometry) (record {
      indexed = record {
        slots = links.room;
        index = index.room;
        places = index.places_room;
      };
      before = links.before_room;
    }) in
    let loader_room = c.clear-2.ensures.room (2 * row_limit a.geometry) (record {
      slots = c.self.invariant.3.room;
      newest = links.newest_room;
    }) in
    let holds : PoolHolds a.geometry c.give_all.new.pool [] =
    subst (λ (s : Sizes). PoolHolds s c.give_all.new.pool []) h.live.holds.geometry
    c.give_all.ensures in (
      rw (none.indexed.slots, no_loaders.slots) (record {
        lawful = h.lawful;
        few = omega arith;
        loaders = record {
          numbers = refl;
          rises = record { each = tt };
          last = λ u. refl;
        };
        live = record {
          holds = holds;
          founded = record {
            words = λ r m. absurd m;
            first = λ r m. absurd m;
            owner = λ r s m n e. absurd m;
          };
          owned = λ r m. absurd m;
        };
      }),
      record {
        index = rw (none.indexed.index, none.indexed.slots)
            (index-none g.P.Kept.mark g.P.Kept.name);
        unique = rw (none.indexed.slots) (record { names = λ r s m n e. absurd m });
        room = room.indexed.index;
        places_room = room.indexed.places;
      },
      record {
        linked = rw (none.indexed.slots, none.before) linked-none;
        lasts = rw (no_loaders.newest, no_loaders.slots) refl;
        few = omega (arith, ap length none.indexed.slots);
        room = room.indexed.slots;
        before_room = room.before;
        newest_room = loader_room.newest;
      },
      record {
        rises = rw (no_loaders.slots) (record { each = tt });
        last = λ k e. absurd (omega (arith, e, ap length no_loaders.slots));
        few = omega (arith, ap length no_loaders.slots);
        room = loader_room.slots;
      },
      rw (none.indexed.slots) refl,
      rw (none.indexed.slots) refl,
    )
