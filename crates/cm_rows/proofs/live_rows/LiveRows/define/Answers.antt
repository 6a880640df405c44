use Rattle.std.proofs.Common.{◌≡◌, ◌<◌, ◌≤◌, ◌++◌, ◌∷◌, [], ℕ, List, Option, IfSome}
use Rattle.std.proofs.Common.{length, length-append, vec_capacity, get_or, set}
use Rattle.std.proofs.Common.{Some, true, refl, sym, ap, subst, ◌∙◌, arith}
use Rattle.cm_layout.specs.declared.row.Row.{Row}
use Rattle.cm_layout.specs.declared.row.Row.TheVariants.{Class}
use Rattle.cm_layout.specs.Rows.{slots_of_rows}
use Rattle.cm_layout.specs.Rules.{row_limit}
use Rattle.cm_layout.proofs.{rows-within, slots-push}
use Rattle.cm_index.specs.declared.slot.BookSlot.{BookSlot}
use Rattle.cm_index.specs.Index.{AreUnique}
use Rattle.cm_index.specs.Living.{living}
use Rattle.cm_index.proofs.{living-push, unique-class}
use Rattle.cm_rows.specs.declared.live_loader.LastChunk.{LastChunk}
use Rattle.cm_rows.specs.declared.live_loader.LiveLoader.{LiveLoader}
use Rattle.cm_rows.specs.declared.loader_places.LoaderPlaces.{LoaderPlaces}
use Rattle.cm_rows.specs.declared.row_places.RowPlaces.{RowPlaces}
use Rattle.cm_rows.specs.Held.{TakesPlace}
use Rattle.cm_rows.specs.Loaders.{LoaderIsAt, LoaderLivesAt}
use Rattle.cm_rows.proofs.Books.{defined, used_to_end}
use Rattle.cm_rows.proofs.ClassPlaces.{broken, keeps_all}
use Rattle.cm_rows.proofs.KeptPlaces.{nobody, stands, at-living, same-kept, found-again}
use Rattle.cm_rows.proofs.KeptPlaces.{same-default}
use Rattle.cm_rows.proofs.Placed.{owned-rows, loaders-fewer, links-class, loaders-set}
use Rattle.cm_rows.proofs.Verdicts.{inside-chunk, inside-few, last-at}
use Rattle.cm_rows.proofs.live_rows.LiveRows.define.Given.{Over}
use Rattle.cm_rows.proofs.live_rows.LiveRows.define.Goals as goal
use Rattle.cm_rows.proofs.live_rows.LiveRows.define.Goals.{After-push_row}

pub returns-in-Some-clause-broken : goal.returns-in-Some-clause-broken
returns-in-Some-clause-broken g c =
    let a = c.self.inside in
    rw (← c.self.view_is)
    (broken a.geometry (living a.rows.indexed.slots.items) a.loaders.slots.items a.pool
    c.place_class.new.pool c.args.row c.args.kept a.taken
    c.self.invariant.5 c.self.invariant.0 c.in-Some.rule
    (rw c.deref.ensures.value at c.in-Some.ensures.broken))

pub returns-clause-broken : goal.returns-clause-broken
returns-clause-broken g c =
    let a = c.self.inside in
    rw (← c.self.view_is)
    (keeps_all a.geometry (living a.rows.indexed.slots.items) a.loaders.slots.items a.pool
    c.place_class.new.pool c.args.row c.args.kept a.taken
    c.self.invariant.5 c.self.invariant.0
    (rw c.deref.ensures.value at c.in_default.ensures.placed))

pub make_room-requires-clause-few : goal.make_room-requires-clause-few
make_room-requires-clause-few g c =
    omega (
      arith,
      (c.in_default.ensures.placed).may.few,
      c.self.invariant.5,
      rows-within (living c.self.inside.rows.indexed.slots.items),
    )

pub overflow_add-self : goal.overflow_add-self
overflow_add-self g c =
    omega (
      arith,
      (c.in_default.ensures.placed).may.few,
      c.self.invariant.4,
      c.self.invariant.5,
      rows-within (living c.self.inside.rows.indexed.slots.items),
      c.self.invariant.0.lawful.slots_to,
    )

pub make_room-requires-clause-loaders_few : goal.make_room-requires-clause-loaders_few
make_room-requires-clause-loaders_few g c =
    let a = c.self.inside in
    loaders-fewer a.geometry (living a.rows.indexed.slots.items) (living a.loaders.slots.items)
    a.pool
    c.self.invariant.0

pub make_room-requires-clause-owned : goal.make_room-requires-clause-owned
make_room-requires-clause-owned g c =
    let a = c.self.inside in
    owned-rows a.geometry (living a.rows.indexed.slots.items) (living a.loaders.slots.items) a.pool
    c.self.invariant.0

pub unwrap-here-requires : goal.unwrap-here-requires
unwrap-here-requires g c =
    let p = rw c.deref.ensures.value at c.in_default.ensures.placed in
    let absent = rw c.deref-2.ensures.value at c.find.ensures.absent in
    found-again c.self.inside.loaders.slots.items c.make_room.new.loaders.slots.items
    c.args.row.loader p.at
    c.find.result p.may.kept c.make_room.ensures.living_loaders absent

next : (g : Over) (c : After-push_row g) → living c.push_row.new.self.slots.items
    ≡ living c.self.inside.rows.indexed.slots.items ++ Class c.args.row c.args.kept ∷ []
next g c =
    ap living c.push_row.ensures.slots ∙ living-push c.make_room.new.rows.indexed.slots.items
    (record { item = Class c.args.row c.args.kept; live = true }) refl
    ∙ ap (λ l. l ++ Class c.args.row c.args.kept ∷ []) c.make_room.ensures.rows

pub returns-clause-left : goal.returns-clause-left
returns-clause-left g c =
    let a = c.self.inside in
    rw (← c.self.view_is)
    (ap (λ (l : List (Row g.row.P.Denot)). record { sizes = a.geometry; rows = l })
    (next g (goal.at.returns-clause-left g c).After-push_row))

again : (g : Over) (c : After-push_row g) → LoaderLivesAt c.make_room.new.loaders.slots.items
    c.args.row.loader c.unwrap-here.result
again g c =
    let ls = c.make_room.new.loaders.slots.items in
    let found = rw c.deref-2.ensures.value at c.find.ensures.found in
    subst (λ (o : Option ℕ). IfSome o (LoaderLivesAt ls c.args.row.loader)) c.unwrap-here.ensures
    found

pub invariant_of-self-2 : goal.invariant_of-self-2
invariant_of-self-2 g c =
    let a = c.self.inside in
    let sizes = a.geometry in
    let rows = living a.rows.indexed.slots.items in
    let loaders = a.loaders.slots.items in
    let ls = living loaders in
    let r = c.args.row in
    let k = c.args.kept in
    let m = c.make_room.ensures in
    let there : RowPlaces g.row.P.Denot = c.make_room.new.rows in
    let left : LoaderPlaces = c.make_room.new.loaders in
    let new_rows : RowPlaces g.row.P.Denot = record {
      indexed = c.push_row.new.self;
      before = c.link.new.before;
    } in
    let new_loaders : LoaderPlaces = record {
      slots = c.set_last.new.loaders;
      newest = c.link.new.newest;
    } in
    let here = c.unwrap-here.result in
    let after = (goal.at.invariant_of-self-2 g c).After-push_row in
    let is = next g after in
    let p = rw c.deref.ensures.value at c.in_default.ensures.placed in
    let few : slots_of_rows rows < row_limit sizes =
    omega (arith, p.may.few, c.self.invariant.5) in
    let at = stands loaders r.loader p.at p.may.kept in
    let found = at-living loaders r.loader p.at p.may.kept at in
    let has = same-kept loaders p.at at p.slot p.may.slot_is in
    let kept_now = again g after in
    let at_now = stands left.slots.items r.loader here kept_now in
    let found_now : LoaderIsAt ls r.loader at_now.place =
    subst (λ (k : List LiveLoader). LoaderIsAt k r.loader at_now.place) m.living_loaders
    (at-living left.slots.items r.loader here kept_now at_now) in
    let l : LiveLoader = get_or ls at_now.place nobody in
    let is_now : l ≡ get_or ls at_now.place l = same-default ls at_now.place nobody l
    found_now.within in
    let last =
    sym (last-at rows ls r.loader at.place p.slot.item c.self.invariant.0.loaders found has)
    ∙ last-at rows ls r.loader at_now.place l c.self.invariant.0.loaders found_now is_now in
    let inside = inside-chunk sizes r p.inside in
    let o : Option LastChunk = Some (used_to_end r) in
    let x : LiveLoader = record { number = r.loader; last = o } in
    let loaders_are : living new_loaders.slots.items ≡ set ls at_now.place x =
    ap (λ (k : List (BookSlot LiveLoader)). living k) c.set_last.ensures.loaders ∙ at_now.changed x
    ∙ ap (λ k. set k at_now.place x) m.living_loaders in
    let takes =
    subst (λ (k : Option LastChunk). TakesPlace k r.place a.pool c.place_class.new.pool) last
    p.takes in
    let roomier : vec_capacity left.slots ≤ vec_capacity new_loaders.slots =
    omega (arith, c.set_last.ensures.capacity) in
    let newest_room : vec_capacity left.newest ≤ vec_capacity new_loaders.newest =
    omega (arith, c.link.ensures.newest_capacity) in
    let at_end : c.len-next.result ≡ length there.indexed.slots.items =
    omega (arith, c.len-next.ensures, there.indexed.slots.ok.0) in
    let more : length there.indexed.slots.items ≤ length new_rows.indexed.slots.items =
    omega (
      arith,
      ap length c.push_row.ensures.slots,
      length-append there.indexed.slots.items
          (record { item = Class r k; live = true } ∷ []),
    ) in (
      rw (is, loaders_are)
          (defined sizes rows ls a.pool c.place_class.new.pool r k at_now.place l c.self.invariant.0
          few found_now is_now inside.1 takes),
      record {
        index = c.push_row.ensures.index;
        unique = subst AreUnique (sym is) (unique-class rows r k c.self.invariant.1.unique);
        room = omega (arith, m.index.room, c.push_row.ensures.index_room);
        places_room = omega (arith, m.index.places_room, ap vec_capacity c.push_row.ensures.places);
      },
      links-class sizes there new_rows left new_loaders r k here o m.links m.room m.loaders.rises
          kept_now.at
          (record {
            slots = c.push_row.ensures.slots;
            before = c.link.ensures.before;
            loaders = c.set_last.ensures.loaders;
            newest = c.link.ensures.newest ∙ ap (λ (n : ℕ). set left.newest.items here (Some n))
                at_end;
          })
          (record {
            slots = c.push_row.ensures.capacity;
            before = c.link.ensures.capacity;
            newest = newest_room;
          }),
      loaders-set sizes left new_loaders (length there.indexed.slots.items)
          (length new_rows.indexed.slots.items)
          r.loader here o m.loaders kept_now.at c.set_last.ensures.loaders roomier more,
      omega (arith, c.self.invariant.4, ap length is, length-append rows (Class r k ∷ [])),
      omega (
        arith,
        c.self.invariant.5,
        ap (λ l. slots_of_rows l) is,
        slots-push rows (Class r k),
      ),
    )

pub overflow_add-used : goal.overflow_add-used
overflow_add-used g c =
    let inside = inside-few c.self.inside.geometry c.args.row (c.in_default.ensures.placed).inside
    c.self.invariant.0.lawful.top_to in
    omega (arith, inside)
