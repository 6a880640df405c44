use Rattle.std.proofs.Common.{◌≡◌, ◌≤◌, length, vec_capacity, ap, sym, ◌∙◌, subst, arith}
use Rattle.std.proofs.lemmas.List.{length-map}
use Rattle.cm_pool.specs.Geometry.{Sizes}
use Rattle.cm_layout.specs.Rows.{row_with, bare, slots_of_rows}
use Rattle.cm_layout.specs.Rules.{row_limit}
use Rattle.cm_layout.proofs.{rows-within, slots-bare}
use Rattle.cm_index.specs.Index.{AreUnique}
use Rattle.cm_index.specs.Living.{living}
use Rattle.cm_index.proofs.{living-swept, swept-live, length-swept, unique-bare}
use Rattle.cm_rows.specs.declared.loader_places.LoaderPlaces.{LoaderPlaces}
use Rattle.cm_rows.specs.Rows.{LiveRows}
use Rattle.cm_rows.specs.Held.{PoolHolds, chunks_of_rows}
use Rattle.cm_rows.specs.LiveRows.{AreRowsInPlace}
use Rattle.cm_rows.specs.Loaders.{Rises, items}
use Rattle.cm_rows.proofs.Books.{bared, loaders-at_most}
use Rattle.cm_rows.proofs.KeptPlaces.{items-swept, rises-living, each-lives}
use Rattle.cm_rows.proofs.Placed.{owned-rows, loaders-fewer}
use Rattle.cm_rows.proofs.live_rows.LiveRows+unit.copy_from.Given.{Over}
use Rattle.cm_rows.proofs.live_rows.LiveRows+unit.copy_from.Goals as goal
use Rattle.cm_rows.proofs.live_rows.LiveRows+unit.copy_from.Goals.{
  After-copy_rows,
  After-copy_loaders,
}

same : (g : Over) (c : After-copy_rows g) → c.self.inside.geometry ≡ c.other.inside.geometry
same g c = ap (λ (v : LiveRows (Unit {0})). v.sizes) c.self.view_is ∙ c.requires
    ∙ sym (ap (λ v. v.sizes) c.other.view_is)

rows : (g : Over) (c : After-copy_rows g) → living c.copy_rows.new.slots.items
    ≡ bare (living c.other.inside.rows.indexed.slots.items)
rows g c = c.copy_rows.ensures.rows ∙ ap (λ l. bare (living l)) c.deref-3.ensures.value

few : (g : Over) (c : After-copy_rows g)
    → length c.copy_rows.new.slots.items ≤ row_limit c.self.inside.geometry
few g c = omega (
  arith,
  c.copy_rows.ensures.count,
  ap (λ l. length (living l))
      c.deref-3.ensures.value,
  c.other.invariant.0.few,
  rows-within (living c.other.inside.rows.indexed.slots.items),
  ap row_limit (same g c),
)

pub copy_rows-requires : goal.copy_rows-requires
copy_rows-requires g c =
    let o = c.other.inside in
    let sizes : c.self.inside.geometry ≡ o.geometry = ap (λ (v : LiveRows (Unit {0})). v.sizes)
    c.self.view_is ∙ c.requires ∙ sym (ap (λ v. v.sizes) c.other.view_is) in
    rw c.deref-3.ensures.value (omega (
      arith,
      c.other.invariant.0.few,
      rows-within (living o.rows.indexed.slots.items),
      c.self.invariant.2.room,
      ap row_limit sizes,
    ))

pub copy_loaders-requires : goal.copy_loaders-requires
copy_loaders-requires g c =
    let o = c.other.inside in
    let at = goal.at.copy_loaders-requires g c in
    let fewer = loaders-at_most o.geometry (living o.rows.indexed.slots.items)
    (living o.loaders.slots.items) o.pool c.other.invariant.0 in
    rw c.deref-4.ensures.value (omega (
      arith,
      fewer,
      c.self.invariant.3.room,
      ap row_limit (same g at.After-copy_rows),
    ))

pub index_anew-requires-clause-live : goal.index_anew-requires-clause-live
index_anew-requires-clause-live g c = c.copy_rows.ensures.live

pub index_anew-requires-clause-fits : goal.index_anew-requires-clause-fits
index_anew-requires-clause-fits g c =
    omega (
      arith,
      few g (goal.at.index_anew-requires-clause-fits g c).After-copy_rows,
      c.self.invariant.0.lawful.slots_to,
    )

pub index_anew-requires-clause-room : goal.index_anew-requires-clause-room
index_anew-requires-clause-room g c =
    omega (
      arith,
      few g (goal.at.index_anew-requires-clause-room g c).After-copy_rows,
      c.self.invariant.1.room,
    )

-- the copied rows keep the invariant
book : (g : Over) (c : After-copy_loaders g) → c.self.inside.geometry ≡ c.other.inside.geometry
    → AreRowsInPlace c.self.inside.geometry (bare (living c.other.inside.rows.indexed.slots.items))
    (living c.other.inside.loaders.slots.items) c.take_all.new.pool
book g c same =
    let o = c.other.inside in
    let sizes = c.self.inside.geometry in
    let rs = living o.rows.indexed.slots.items in
    let ls = living o.loaders.slots.items in
    let h : AreRowsInPlace sizes rs ls o.pool =
    subst (λ (s : Sizes). AreRowsInPlace s rs ls o.pool) (sym same)
    c.other.invariant.0 in
    let taken = rw c.deref-2.ensures.value at c.take_all.ensures in
    let holds : PoolHolds sizes c.take_all.new.pool (chunks_of_rows rs) =
    subst (λ (s : Sizes). PoolHolds s c.take_all.new.pool (chunks_of_rows rs))
    (c.give_all.ensures.geometry
    ∙ c.self.invariant.0.live.holds.geometry) taken in
    bared sizes rs ls o.pool c.take_all.new.pool h holds

pub relink-requires-clause-rises : goal.relink-requires-clause-rises
relink-requires-clause-rises g c =
    let ls = c.other.inside.loaders.slots.items in
    rw (
      c.deref-5.ensures.value,
      c.copy_loaders.ensures.loaders,
      c.deref-4.ensures.value,
      items-swept ls,
    ) (rises-living ls c.other.invariant.3.rises)

pub relink-requires-clause-owned : goal.relink-requires-clause-owned
relink-requires-clause-owned g c =
    let at = goal.at.relink-requires-clause-owned g c in
    let o = c.other.inside in
    let ls = o.loaders.slots.items in
    rw (
      c.deref-5.ensures.value,
      c.deref-6.ensures.value,
      c.index_anew.ensures.slots,
      c.copy_loaders.ensures.loaders,
      c.deref-4.ensures.value,
      living-swept ls,
      rows g at.After-copy_rows,
    )
    (owned-rows c.self.inside.geometry (bare (living o.rows.indexed.slots.items)) (living ls)
    c.take_all.new.pool (book g at.After-copy_loaders (same g at.After-copy_rows)))

pub relink-requires-clause-fits : goal.relink-requires-clause-fits
relink-requires-clause-fits g c =
    rw (c.deref-6.ensures.value, c.index_anew.ensures.slots) (omega (
      arith,
      few g (goal.at.relink-requires-clause-fits g c).After-copy_rows,
      c.self.invariant.0.lawful.slots_to,
    ))

pub relink-requires-clause-room : goal.relink-requires-clause-room
relink-requires-clause-room g c =
    rw (c.deref-6.ensures.value, c.index_anew.ensures.slots) (omega (
      arith,
      few g (goal.at.relink-requires-clause-room g c).After-copy_rows,
      c.self.invariant.2.before_room,
    ))

pub relink-requires-clause-newest_room : goal.relink-requires-clause-newest_room
relink-requires-clause-newest_room g c =
    let at = goal.at.relink-requires-clause-newest_room g c in
    let o = c.other.inside in
    let ls = o.loaders.slots.items in
    let fewer = loaders-at_most o.geometry (living o.rows.indexed.slots.items) (living ls) o.pool
    c.other.invariant.0 in
    rw (c.deref-5.ensures.value, c.copy_loaders.ensures.loaders, c.deref-4.ensures.value)
    (omega (
      arith,
      fewer,
      length-swept ls,
      c.self.invariant.2.newest_room,
      ap row_limit (same g at.After-copy_rows),
    ))

pub invariant_of-self : goal.invariant_of-self
invariant_of-self g c =
    let at = goal.at.invariant_of-self g c in
    let o = c.other.inside in
    let rs = living o.rows.indexed.slots.items in
    let ls = o.loaders.slots.items in
    let sizes = c.self.inside.geometry in
    let slots_are = ap (λ slots. slots.items) c.index_anew.ensures.slots in
    let is = ap living slots_are ∙ rows g at.After-copy_rows in
    let less = few g at.After-copy_rows in
    let index = c.index_anew.ensures.index in
    let linked = rw c.deref-6.ensures.value at c.relink.ensures.linked in
    let lasts = rw (c.deref-6.ensures.value, c.deref-5.ensures.value) at c.relink.ensures.newest in
    let copied = rw c.deref-4.ensures.value at c.copy_loaders.ensures.loaders in
    let new_loaders : LoaderPlaces = record {
      slots = c.copy_loaders.new.loaders;
      newest = c.relink.new.newest;
    } in
    let fewer = loaders-fewer o.geometry rs (living ls) o.pool c.other.invariant.0 in
    let whole = book g at.After-copy_loaders (same g at.After-copy_rows) in
    let rises : Rises (items new_loaders.slots.items) =
    rw (copied, items-swept ls) (rises-living ls c.other.invariant.3.rises) in (
      rw (is, copied, living-swept ls) whole,
      record {
        index = index;
        unique = subst AreUnique (sym is) (unique-bare rs c.other.invariant.1.unique);
        room = omega (arith, c.self.invariant.1.room, c.index_anew.ensures.room);
        places_room = omega (
          arith,
          c.self.invariant.1.places_room,
          ap vec_capacity c.index_anew.ensures.places,
        );
      },
      record {
        linked = linked;
        lasts = lasts;
        few = omega (arith, less, ap length slots_are);
        room = omega (
          arith,
          c.self.invariant.2.room,
          c.copy_rows.ensures.capacity,
          ap vec_capacity c.index_anew.ensures.slots,
        );
        before_room = omega (arith, c.self.invariant.2.before_room, c.relink.ensures.capacity);
        newest_room = omega (
          arith,
          c.self.invariant.2.newest_room,
          c.relink.ensures.newest_capacity,
        );
      },
      record {
        rises = rises;
        last = rw (copied) (λ k e. each-lives k (swept-live ls) (omega (arith, e)));
        few = omega (
          arith,
          ap length copied,
          length-swept ls,
          fewer,
          ap length slots_are,
          c.copy_rows.ensures.count,
          ap (λ l. length (living l)) c.deref-3.ensures.value,
        );
        room = omega (arith, c.self.invariant.3.room, c.copy_loaders.ensures.capacity);
      },
      c.other.invariant.4 ∙ sym (ap length is ∙ length-map rs (row_with {P = g.row.Q.Denot} {Q =
          Unit {0}} (λ p. tt))),
      c.other.invariant.5 ∙ sym (ap (λ l. slots_of_rows l) is ∙ slots-bare rs),
    )
