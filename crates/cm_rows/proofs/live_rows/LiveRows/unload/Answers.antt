use Rattle.std.proofs.Common.{◌≡◌, ◌≤◌, None, List, length, set, vec_capacity, subst, sym, ap}
use Rattle.std.proofs.Common.{◌∙◌, arith}
use Rattle.std.specs.List.{remove}
use Rattle.std.proofs.lemmas.List.{length-map}
use Rattle.cm_pool.specs.Geometry.{Sizes}
use Rattle.cm_layout.specs.declared.row.Row.{Row}
use Rattle.cm_layout.specs.Rows.{without_loader}
use Rattle.cm_layout.specs.Rules.{is_live}
use Rattle.cm_index.specs.declared.slot.BookSlot.{BookSlot}
use Rattle.cm_index.specs.Index.{AreUnique}
use Rattle.cm_index.specs.Living.{living, unloaded}
use Rattle.cm_index.proofs.{living-unloaded, unique-without, index-unloaded}
use Rattle.cm_rows.specs.declared.live_loader.LiveLoader.{LiveLoader}
use Rattle.cm_rows.specs.declared.loader_places.LoaderPlaces.{LoaderPlaces}
use Rattle.cm_rows.specs.declared.row_places.RowPlaces.{RowPlaces}
use Rattle.cm_rows.specs.Held.{PoolHolds, chunks_of_rows}
use Rattle.cm_rows.specs.Loaders.{ended_loader}
use Rattle.cm_rows.proofs.Books.{unload}
use Rattle.cm_rows.proofs.KeptPlaces.{stands, at-living, living-end}
use Rattle.cm_rows.proofs.Placed.{last-at-place, links-unloaded, loaders-ended, as-many}
use Rattle.cm_rows.proofs.Verdicts.{live-at, not_live, on_rows-unless, none-where}
use Rattle.cm_rows.proofs.live_rows.LiveRows.unload.Goals as goal

pub returns-in_default-clause-broken : goal.returns-in_default-clause-broken
returns-in_default-clause-broken g c =
    let rows = living c.self.inside.rows.indexed.slots.items in
    let absent = rw c.deref.ensures.value at c.in_default.ensures.absent in
    rw (← c.self.view_is) (on_rows-unless (is_live c.args.number rows)
    (not_live rows (living c.self.inside.loaders.slots.items) c.args.number
    c.self.invariant.0.loaders absent))

pub returns-clause-broken : goal.returns-clause-broken
returns-clause-broken g c =
    let rows = living c.self.inside.rows.indexed.slots.items in
    let found = rw c.deref.ensures.value at c.in-Some.ensures.found in
    let ls = c.self.inside.loaders.slots.items in
    let at = stands ls c.args.number c.in-Some.at found in
    rw (← c.self.view_is) (none-where (is_live c.args.number rows)
    (live-at rows (living ls) c.args.number at.place c.self.invariant.0.loaders
    (at-living ls c.args.number c.in-Some.at found at)))

pub unload_rows-gone-requires-clause-newest : goal.unload_rows-gone-requires-clause-newest
unload_rows-gone-requires-clause-newest g c =
    let a = c.self.inside in
    let found = rw c.deref.ensures.value at c.in-Some.ensures.found in
    c.index-last.ensures ∙ last-at-place a.geometry a.rows a.loaders c.args.number c.in-Some.at
    c.index-last.result.now c.self.invariant.2 found.at

pub returns-clause-left : goal.returns-clause-left
returns-clause-left g c =
    let a = c.self.inside in
    rw (← c.self.view_is)
    (ap (λ (l : List (Row g.row.P.Denot)). record { sizes = a.geometry; rows = l })
    (ap living c.unload_rows-gone.ensures.slots
    ∙ living-unloaded c.args.number a.rows.indexed.slots.items))

pub end-requires-clause-within : goal.end-requires-clause-within
end-requires-clause-within g c =
    let ls = c.self.inside.loaders.slots in
    let found = rw c.deref.ensures.value at c.in-Some.ensures.found in
    omega (
      arith,
      found.at.within,
      length-map ls.items (λ (s : BookSlot LiveLoader). s.item),
      ls.ok.0,
    )

pub end-requires-clause-beside : goal.end-requires-clause-beside
end-requires-clause-beside g c =
    let a = c.self.inside in
    let many = as-many a.geometry a.rows a.loaders c.self.invariant.2 in
    omega (arith, many, a.loaders.slots.ok.0, a.loaders.newest.ok.0)

pub invariant_of-self : goal.invariant_of-self
invariant_of-self g c =
    let a = c.self.inside in
    let sizes = a.geometry in
    let slots = a.rows.indexed.slots.items in
    let rows = living slots in
    let loaders = a.loaders.slots.items in
    let ls = living loaders in
    let u = c.args.number in
    let i = c.in-Some.at in
    let h = c.self.invariant.0 in
    let unloads = c.unload_rows-gone.ensures in
    let p = c.unload_rows-gone.new.pool in
    let new_rows : RowPlaces g.row.P.Denot = record {
      indexed = record a.rows.indexed { slots = c.unload_rows-gone.new.slots };
      before = a.rows.before;
    } in
    let new_loaders : LoaderPlaces = c.end.new.self in
    let kept = rw c.deref.ensures.value at c.in-Some.ensures.found in
    let at = stands loaders u i kept in
    let found = at-living loaders u i kept at in
    let is : living new_rows.indexed.slots.items ≡ without_loader u rows = ap living unloads.slots
    ∙ living-unloaded u slots in
    let linked = rw (c.deref-2.ensures.value) at unloads.linked in
    let given = rw (is) at unloads.holds in
    let holds : PoolHolds sizes p (chunks_of_rows (without_loader u rows)) =
    subst (λ (s : Sizes). PoolHolds s p (chunks_of_rows (without_loader u rows)))
    h.live.holds.geometry given in
    let roomier : vec_capacity a.loaders.slots ≤ vec_capacity new_loaders.slots =
    omega (arith, c.end.ensures.capacity) in
    let e = c.end.ensures.ended in
    let x : LiveLoader = record { number = u; last = None } in
    let with = set loaders i (ended_loader u) in
    let loaders_are : living new_loaders.slots.items ≡ remove ls at.place =
    ap (λ (k : List (BookSlot LiveLoader)). living k) e.slots_are
    ∙ living-end with e.count e.is_end.behind ∙ at.ended x in
    let as_long : length slots ≤ length new_rows.indexed.slots.items =
    omega (arith, ap length unloads.slots, length-map slots (unloaded {P = g.row.P.Denot} u)) in (
      rw (is, loaders_are) (unload sizes rows ls a.pool p u at.place h found holds),
      record {
        index = rw (unloads.slots) (index-unloaded g.P.Kept.mark g.P.Kept.name u slots
            a.rows.indexed.index.items c.self.invariant.1.unique c.self.invariant.1.index);
        unique = subst AreUnique (sym is) (unique-without u rows c.self.invariant.1.unique);
        room = c.self.invariant.1.room;
        places_room = c.self.invariant.1.places_room;
      },
      links-unloaded sizes a.rows new_rows a.loaders new_loaders u i c.self.invariant.2
          c.self.invariant.3.rises kept.at unloads.slots linked e
          (record {
            slots = omega (arith, unloads.capacity);
            before = omega arith;
            newest = omega (arith, c.end.ensures.newest_capacity);
          }),
      loaders-ended sizes a.loaders new_loaders (length slots) (length new_rows.indexed.slots.items)
          u i
          c.self.invariant.3 kept.at e roomier as_long,
      omega (arith, unloads.rows, c.self.invariant.4),
      omega (arith, unloads.taken, c.self.invariant.5),
    )
