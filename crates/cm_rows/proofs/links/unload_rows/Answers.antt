use Rattle.std.proofs.Common.{◌≡◌, ◌<◌, ◌+◌, Some, set, length, map, sym, ap, ◌∙◌, arith, refl}
use Rattle.std.proofs.Common.{subst}
use Rattle.std.proofs.lemmas.Option.{slice_get_within, get_or_from_slice_get}
use Rattle.cm_index.specs.Living.{living, unloaded}
use Rattle.cm_index.proofs.{length-living}
use Rattle.cm_rows.specs.Links.{ended, last_place, places_left, AreLinked}
use Rattle.cm_pool.specs.Geometry.{Sizes}
use Rattle.cm_layout.specs.Rows.{classes_in, slots_of_row, slots_of_rows}
use Rattle.cm_layout.proofs.{slots-within}
use Rattle.cm_rows.specs.Held.{PoolHolds, first_chunks}
use Rattle.cm_rows.proofs.Ending.{fewer-ended, less-ended}
use Rattle.cm_rows.proofs.Linking.{StandsLast, stands-last, place-ended, linked-ended, none-place}
use Rattle.cm_rows.proofs.Linking.{unloaded-ended, last-before, place-less}
use Rattle.cm_rows.proofs.links.unload_rows.Goals as goal
use Rattle.cm_rows.proofs.links.unload_rows.Given.{Over}
use Rattle.cm_rows.proofs.links.unload_rows.Goals.{In-Some, After-end_row-taken}

last : (g : Over) (c : In-Some g) → last_place c.args.loader c.loop-next.slots.items
    ≡ Some c.in-Some.place
last g c = sym c.loop-next.invariant.next ∙ c.in-Some.is

stands : (g : Over) (c : In-Some g)
    → StandsLast c.args.loader c.loop-next.slots.items c.in-Some.place
stands g c = stands-last c.args.loader c.loop-next.slots.items c.in-Some.place (last g c)

within : (g : Over) (c : In-Some g) → c.in-Some.place < length c.loop-next.slots.items
within g c =
    slice_get_within c.loop-next.slots.items c.in-Some.place (stands g c).slot (stands g c).there

pub end_row-taken-requires-clause-within : goal.end_row-taken-requires-clause-within
end_row-taken-requires-clause-within g c =
    omega (
      arith,
      within g (goal.at.end_row-taken-requires-clause-within g c).In-Some,
      c.loop-next.slots.ok.0,
    )

pub end_row-taken-requires-clause-lives : goal.end_row-taken-requires-clause-lives
end_row-taken-requires-clause-lives g c =
    let at = stands g (goal.at.end_row-taken-requires-clause-lives g c).In-Some in
    record {
      is =
          λ d. ap (λ s. s.live) (get_or_from_slice_get c.loop-next.slots.items
          c.in-Some.place at.slot d
          at.there) ∙ at.lives;
    }

pub bounds-before-place : goal.bounds-before-place
bounds-before-place g c =
    omega (
      arith,
      within g (goal.at.bounds-before-place g c).In-Some,
      c.loop-next.invariant.linked.same,
    )

-- the row at the place has ended
record Ends (g : Over) (c : After-end_row-taken g) : Type 0 where
  at : StandsLast c.args.loader c.loop-next.slots.items c.in-Some.place
  items : c.end_row-taken.new.slots.items
      ≡ set c.loop-next.slots.items c.in-Some.place (ended at.slot)
  fewer : length (living c.end_row-taken.new.slots.items) + 1
      ≡ length (living c.loop-next.slots.items)
  less : slots_of_rows (living c.end_row-taken.new.slots.items) + c.end_row-taken.result
      ≡ slots_of_rows (living c.loop-next.slots.items)

ends : (g : Over) (c : After-end_row-taken g) → last_place c.args.loader c.loop-next.slots.items
    ≡ Some c.in-Some.place → Ends g c
ends g c is =
    let slots = c.loop-next.slots.items in
    let i = c.in-Some.place in
    let at = stands-last c.args.loader slots i is in
    let items = c.end_row-taken.ensures.slots at.slot
    ∙ ap (λ s. set slots i (ended s)) (get_or_from_slice_get slots i at.slot at.slot at.there) in
    record {
      at = at;
      items = items;
      fewer = ap (λ l. length (living l) + 1) items
          ∙ fewer-ended slots i at.slot (ended at.slot) at.there at.lives refl;
      less = omega (
        arith,
        ap (λ l. slots_of_rows (living l)) items,
        less-ended slots i at.slot (ended at.slot) at.there at.lives refl,
        c.end_row-taken.ensures.taken at.slot,
        ap (λ s. slots_of_row s.item)
            (get_or_from_slice_get slots i at.slot at.slot at.there),
      );
    }

pub overflow_add-count : goal.overflow_add-count
overflow_add-count g c =
    let h = c.loop-next.invariant in
    let e =
    ends g (goal.at.overflow_add-count g c).After-end_row-taken (sym h.next ∙ c.in-Some.is) in
    omega (
      arith,
      e.fewer,
      h.rows,
      length-living c.args.slots.now.items,
      c.args.slots.now.ok.0,
      c.args.slots.now.small,
    )

pub overflow_add-taken : goal.overflow_add-taken
overflow_add-taken g c =
    let h = c.loop-next.invariant in
    let e =
    ends g (goal.at.overflow_add-taken g c).After-end_row-taken (sym h.next ∙ c.in-Some.is) in
    omega (
      arith,
      e.less,
      h.taken,
      slots-within (living c.args.slots.now.items),
      length-living c.args.slots.now.items,
      c.args.slots.now.ok.0,
      c.args.slots.now.small,
    )

pub loop-next-smaller : goal.loop-next-smaller
loop-next-smaller g c =
    let h = c.loop-next.invariant in
    let slots = c.loop-next.slots.items in
    let is = sym h.next ∙ c.in-Some.is in
    omega (
      arith,
      ap places_left
          (last-before c.args.loader slots c.args.before.now c.in-Some.place h.linked is),
      place-less c.args.loader slots c.in-Some.place,
      ap places_left c.in-Some.is,
    )

pub loop-next-preserved : goal.loop-next-preserved
loop-next-preserved g c =
    let h = c.loop-next.invariant in
    let u = c.args.loader in
    let slots = c.loop-next.slots.items in
    let i = c.in-Some.place in
    let is = sym h.next ∙ c.in-Some.is in
    let e = ends g (goal.at.loop-next-preserved g c).After-end_row-taken is in
    record {
      same = ap (map (unloaded u)) e.items
          ∙ unloaded-ended u slots i e.at.slot e.at.there e.at.own ∙ h.same;
      linked = subst (λ l. AreLinked l c.args.before.now) (sym e.items)
          (linked-ended u slots c.args.before.now i (ended e.at.slot) h.linked is refl);
      next = last-before u slots c.args.before.now i h.linked is
          ∙ sym (ap (last_place u) e.items ∙ place-ended u slots i (ended e.at.slot) is refl);
      holds = subst (λ (sizes : Sizes). PoolHolds sizes c.end_row-taken.new.pool
          (first_chunks (classes_in (living c.end_row-taken.new.slots.items)))) h.holds.geometry
          c.end_row-taken.ensures.holds;
      rows = omega (arith, e.fewer, h.rows);
      taken = omega (arith, e.less, h.taken);
      capacity = c.end_row-taken.ensures.capacity ∙ h.capacity;
    }

pub returns-clause-slots : goal.returns-clause-slots
returns-clause-slots g c =
    let h = c.loop-next.invariant in
    sym (none-place c.args.loader c.loop-next.slots.items (sym h.next ∙ c.in_default.is)) ∙ h.same
