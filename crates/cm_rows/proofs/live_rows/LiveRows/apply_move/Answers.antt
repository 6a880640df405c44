use Rattle.std.proofs.Common.{◌≡◌, ◌≤◌, List, Option, Some, false, length, set, vec_capacity}
use Rattle.std.proofs.Common.{refl, sym, ap, subst, ◌∙◌, arith}
use Rattle.std.proofs.lemmas.List.{length-map}
use Rattle.cm_pool.specs.declared.chunk.Chunk.{Chunk}
use Rattle.cm_layout.specs.declared.row.Row.{Row}
use Rattle.cm_layout.specs.Rows.{slots_of_rows}
use Rattle.cm_layout.proofs.{slots-moved}
use Rattle.cm_layout.specs.Rows.{classes_in, moved}
use Rattle.cm_layout.specs.Rules.{move_fits}
use Rattle.cm_layout.proofs.{last_chunk-among}
use Rattle.cm_index.specs.declared.slot.BookSlot.{BookSlot}
use Rattle.cm_index.specs.Index.{AreUnique}
use Rattle.cm_index.specs.Living.{living, moved_slot}
use Rattle.cm_index.proofs.{index-moved, living-moved, unique-moved}
use Rattle.cm_rows.specs.declared.live_loader.LastChunk.{LastChunk}
use Rattle.cm_rows.specs.declared.live_loader.LiveLoader.{LiveLoader}
use Rattle.cm_rows.specs.declared.loader_places.LoaderPlaces.{LoaderPlaces}
use Rattle.cm_rows.specs.declared.row_places.RowPlaces.{RowPlaces}
use Rattle.cm_rows.specs.Links.{LinksBack}
use Rattle.cm_rows.proofs.Backward.{newest-goes}
use Rattle.cm_rows.proofs.Books.{relocated}
use Rattle.cm_rows.proofs.Changes.{last_of-is, use-chunk}
use Rattle.cm_rows.proofs.KeptPlaces.{stands, at-living, same-kept}
use Rattle.cm_rows.proofs.Moving.{others-stay}
use Rattle.cm_rows.proofs.Placed.{last-at-place, links-moved, loaders-set}
use Rattle.cm_rows.proofs.RowFacts.{length-moved}
use Rattle.cm_rows.proofs.Verdicts.{last-at, last-absent, move-none, move-no_room, move-used}
use Rattle.cm_rows.proofs.Verdicts.{move-fits, on_chunks-unless, none-if, room-from}
use Rattle.cm_rows.proofs.live_rows.LiveRows.apply_move.Goals as goal
use Rattle.cm_rows.proofs.live_rows.LiveRows.apply_move.Goals.{then-not-has_room-via-then-not-has_room}
use Rattle.cm_rows.proofs.live_rows.LiveRows.apply_move.Goals.{}
use Rattle.cm_rows.proofs.live_rows.LiveRows.apply_move.Goals.{then-not-has_room-via-else-not-has_room+then-not-take}

pub returns-in_default-clause-broken : goal.returns-in_default-clause-broken
returns-in_default-clause-broken g c =
    let sizes = c.self.inside.geometry in
    let rows = (living c.self.inside.rows.indexed.slots.items) in
    let e = c.args.entry.now in
    let absent = rw c.deref.ensures.value at c.in_default.ensures.absent in
    rw (← c.self.view_is) (on_chunks-unless (move_fits sizes rows e)
    (move-none sizes rows e (last-absent rows (living c.self.inside.loaders.slots.items)
    e.loader c.self.invariant.0.loaders absent)))

pub returns-in_default-last-clause-broken : goal.returns-in_default-last-clause-broken
returns-in_default-last-clause-broken g c =
    let sizes = c.self.inside.geometry in
    let rows = (living c.self.inside.rows.indexed.slots.items) in
    let e = c.args.entry.now in
    let found = rw c.deref.ensures.value at c.in-Some.ensures.found in
    let loaders = c.self.inside.loaders.slots.items in
    let at = stands loaders c.args.entry.now.loader c.in-Some.at found in
    let none = last-at rows (living loaders) e.loader at.place c.index.result.now.item
    c.self.invariant.0.loaders (at-living loaders e.loader c.in-Some.at found at)
    (same-kept loaders c.in-Some.at at c.index.result.now c.index.ensures)
    ∙ c.in_default-last.is in
    rw (← c.self.view_is) (on_chunks-unless (move_fits sizes rows e) (move-none sizes rows e none))

pub returns-then-not-has_room-clause-broken : goal.returns-then-not-has_room-clause-broken
returns-then-not-has_room-clause-broken g c =
    let sizes = c.self.inside.geometry in
    let rows = (living c.self.inside.rows.indexed.slots.items) in
    let e = c.args.entry.now in
    let l = c.in-Some-last.last in
    let found = rw c.deref.ensures.value at c.in-Some.ensures.found in
    let loaders = c.self.inside.loaders.slots.items in
    let at = stands loaders c.args.entry.now.loader c.in-Some.at found in
    let last = last-at rows (living loaders) e.loader at.place c.index.result.now.item
    c.self.invariant.0.loaders (at-living loaders e.loader c.in-Some.at found at)
    (same-kept loaders c.in-Some.at at c.index.result.now c.index.ensures)
    ∙ c.in-Some-last.is in
    let broken : move_fits sizes rows e ≡ false =
    elim c.then-not-has_room.branch [
      | then-not-has_room-via-then-not-has_room w ↦ move-no_room sizes rows e l last
          (sym c.has_room.ensures ∙ w.if-not-has_room.true)
      | then-not-has_room-via-else-not-has_room+then-not-take w ↦
          move-used sizes rows c.self.inside.pool e l c.self.invariant.0.live last
          (sym c.has_room.ensures ∙ w.if-not-has_room.false)
          (λ free. let yes = w.take.ensures.free.1 free in let refused = w.if-not-take.true in
          absurd (cc))
    ] in
    rw (← c.self.view_is) (on_chunks-unless (move_fits sizes rows e) broken)

pub give-requires : goal.give-requires
give-requires g c =
    let found = rw c.deref.ensures.value at c.in-Some.ensures.found in
    let loaders = c.self.inside.loaders.slots.items in
    let at = stands loaders c.args.entry.now.loader c.in-Some.at found in
    let free = c.take.ensures.free.0 c.if-not-take.false in
    rw c.if-not-take.ensures.left
    ((relocated c.self.inside.geometry (living c.self.inside.rows.indexed.slots.items)
    (living loaders)
    c.self.inside.pool c.args.entry.now at.place c.index.result.now.item c.in-Some-last.last
    c.self.invariant.0 (at-living loaders c.args.entry.now.loader c.in-Some.at found at)
    (same-kept loaders c.in-Some.at at c.index.result.now c.index.ensures) c.in-Some-last.is
    (sym c.has_room.ensures ∙ c.if-not-has_room.false) free).0)

pub move_rows-requires-clause-newest : goal.move_rows-requires-clause-newest
move_rows-requires-clause-newest g c =
    let a = c.self.inside in
    let found = rw c.deref.ensures.value at c.in-Some.ensures.found in
    c.index-newest.ensures ∙ last-at-place a.geometry a.rows a.loaders c.args.entry.now.loader
    c.in-Some.at c.index-newest.result.now c.self.invariant.2 found.at

pub move_rows-requires-clause-goes : goal.move_rows-requires-clause-goes
move_rows-requires-clause-goes g c =
    let a = c.self.inside in
    let e = c.args.entry.now in
    let l = c.in-Some-last.last in
    let slots = a.rows.indexed.slots.items in
    let rows = living slots in
    let found = rw c.deref.ensures.value at c.in-Some.ensures.found in
    let loaders = a.loaders.slots.items in
    let at = stands loaders e.loader c.in-Some.at found in
    let last = last-at rows (living loaders) e.loader at.place c.index.result.now.item
    c.self.invariant.0.loaders (at-living loaders e.loader c.in-Some.at found at)
    (same-kept loaders c.in-Some.at at c.index.result.now c.index.ensures)
    ∙ c.in-Some-last.is in
    let newest = c.index-newest.ensures ∙ last-at-place a.geometry a.rows a.loaders e.loader
    c.in-Some.at c.index-newest.result.now c.self.invariant.2 found.at in
    rw c.deref-2.ensures.value
    (subst (λ (k : Chunk). LinksBack slots a.rows.before.items k c.index-newest.result.now l.used)
    (room-from a.geometry l e (sym c.has_room.ensures ∙ c.if-not-has_room.false))
    (newest-goes slots a.rows.before.items e.loader l c.index-newest.result.now
    c.self.invariant.2.linked c.self.invariant.0.live.founded newest last).0)

pub move_rows-requires-clause-others : goal.move_rows-requires-clause-others
move_rows-requires-clause-others g c =
    let a = c.self.inside in
    let e = c.args.entry.now in
    let l = c.in-Some-last.last in
    let rows = living a.rows.indexed.slots.items in
    let found = rw c.deref.ensures.value at c.in-Some.ensures.found in
    let loaders = a.loaders.slots.items in
    let at = stands loaders e.loader c.in-Some.at found in
    let last = last-at rows (living loaders) e.loader at.place c.index.result.now.item
    c.self.invariant.0.loaders (at-living loaders e.loader c.in-Some.at found at)
    (same-kept loaders c.in-Some.at at c.index.result.now c.index.ensures)
    ∙ c.in-Some-last.is in
    let last_used = use-chunk e.loader (classes_in rows) l (sym (last_of-is e.loader rows)
    ∙ last) in
    let t = last_chunk-among e.loader (classes_in rows) l.chunk last_used.0 in
    others-stay e.loader e.from e.to a.rows.indexed.slots.items t.0 c.self.invariant.0.live.founded
    t.1 t.2
    (t.3 ∙ room-from a.geometry l e (sym c.has_room.ensures ∙ c.if-not-has_room.false))

pub returns-clause-left : goal.returns-clause-left
returns-clause-left g c =
    let a = c.self.inside in
    let e = c.args.entry.now in
    rw (← c.self.view_is)
    (ap (λ (l : List (Row g.row.P.Denot)). record { sizes = a.geometry; rows = l })
    (ap living c.move_rows.ensures.slots ∙ living-moved e.from e.to a.rows.indexed.slots.items))

pub invariant_of-self-2 : goal.invariant_of-self-2
invariant_of-self-2 g c =
    let a = c.self.inside in
    let sizes = a.geometry in
    let slots = a.rows.indexed.slots.items in
    let rows = living slots in
    let p = a.pool in
    let e = c.args.entry.now in
    let l = c.in-Some-last.last in
    let i = c.in-Some.at in
    let found = rw c.deref.ensures.value at c.in-Some.ensures.found in
    let loaders = a.loaders.slots.items in
    let ls = living loaders in
    let at = stands loaders e.loader i found in
    let free = c.take.ensures.free.0 c.if-not-take.false in
    let o : Option LastChunk = Some (record { chunk = e.to; used = l.used }) in
    let x : LiveLoader = record { number = e.loader; last = o } in
    let new_rows : RowPlaces g.row.P.Denot = record {
      indexed = record a.rows.indexed { slots = c.move_rows.new.slots };
      before = a.rows.before;
    } in
    let new_loaders : LoaderPlaces = record {
      slots = c.set_last.new.loaders;
      newest = a.loaders.newest;
    } in
    let is : living new_rows.indexed.slots.items ≡ moved e.from e.to rows =
    ap living c.move_rows.ensures.slots ∙ living-moved e.from e.to slots in
    let loaders_are : living new_loaders.slots.items ≡ set ls at.place x =
    ap (λ (k : List (BookSlot LiveLoader)). living k) c.set_last.ensures.loaders ∙ at.changed x in
    let roomier : vec_capacity a.loaders.slots ≤ vec_capacity new_loaders.slots =
    omega (arith, c.set_last.ensures.capacity) in
    let as_long : length slots ≤ length new_rows.indexed.slots.items =
    omega (
      arith,
      ap length c.move_rows.ensures.slots,
      length-map slots
          (moved_slot {P = g.row.P.Denot} e.from e.to),
    ) in (
      rw (is, loaders_are, c.give.ensures, c.if-not-take.ensures.left)
          (relocated sizes rows ls p e at.place c.index.result.now.item l c.self.invariant.0
          (at-living loaders e.loader i found at) (same-kept loaders i at c.index.result.now
          c.index.ensures)
          c.in-Some-last.is (sym c.has_room.ensures ∙ c.if-not-has_room.false) free).1,
      record {
        index = rw (c.move_rows.ensures.slots) (index-moved g.P.Kept.mark g.P.Kept.name e.from e.to
            slots a.rows.indexed.index.items c.self.invariant.1.index);
        unique = subst AreUnique (sym is) (unique-moved e.from e.to rows c.self.invariant.1.unique);
        room = c.self.invariant.1.room;
        places_room = c.self.invariant.1.places_room;
      },
      links-moved sizes e.from e.to a.rows new_rows a.loaders new_loaders e.loader i o
          c.self.invariant.2 found.at
          (record {
            slots = c.move_rows.ensures.slots;
            before = refl;
            loaders = c.set_last.ensures.loaders;
            newest = refl;
          })
          (record {
            slots = omega (arith, c.move_rows.ensures.capacity);
            before = omega arith;
            newest = omega arith;
          }),
      loaders-set sizes a.loaders new_loaders (length slots) (length new_rows.indexed.slots.items)
          e.loader i o c.self.invariant.3 found.at c.set_last.ensures.loaders roomier as_long,
      c.self.invariant.4 ∙ sym (ap length is ∙ length-moved e.from e.to rows),
      c.self.invariant.5 ∙ sym (ap (λ l. slots_of_rows l) is ∙ slots-moved e.from e.to rows),
    )

pub returns-clause-broken : goal.returns-clause-broken
returns-clause-broken g c =
    let sizes = c.self.inside.geometry in
    let rows = (living c.self.inside.rows.indexed.slots.items) in
    let e = c.args.entry.now in
    let found = rw c.deref.ensures.value at c.in-Some.ensures.found in
    let loaders = c.self.inside.loaders.slots.items in
    let at = stands loaders c.args.entry.now.loader c.in-Some.at found in
    let last = last-at rows (living loaders) e.loader at.place c.index.result.now.item
    c.self.invariant.0.loaders (at-living loaders e.loader c.in-Some.at found at)
    (same-kept loaders c.in-Some.at at c.index.result.now c.index.ensures)
    ∙ c.in-Some-last.is in
    let free = c.take.ensures.free.0 c.if-not-take.false in
    rw (← c.self.view_is) (none-if (move_fits sizes rows e)
    (move-fits sizes rows c.self.inside.pool e c.in-Some-last.last c.self.invariant.0.live last
    (sym c.has_room.ensures ∙ c.if-not-has_room.false) free))
