use Rattle.std.proofs.Common.{◌≡◌, ◌<◌, ◌≤◌, ◌+◌, ◌++◌, ◌∷◌, [], ℕ, Bool, true, false, cond, Some}
use Rattle.std.proofs.Common.{None, List, length, length-append, vec_capacity, refl, sym, ap, subst}
use Rattle.std.proofs.Common.{◌∙◌, arith}
use Rattle.std.specs.List.{AllByRecursion}
use Rattle.cm_layout.specs.declared.entry_rule.EntryRule.TheVariants.{OnRows}
use Rattle.cm_layout.specs.declared.row.Row.{Row}
use Rattle.cm_layout.specs.declared.row.Row.TheVariants.{Loader}
use Rattle.cm_layout.specs.Names.{slots_of_name}
use Rattle.cm_layout.specs.Rows.{slots_of_rows}
use Rattle.cm_layout.specs.Rules.{is_new_loader, row_limit}
use Rattle.cm_layout.proofs.{slots-push}
use Rattle.cm_index.specs.declared.slot.BookSlot.{BookSlot}
use Rattle.cm_index.specs.Index.{AreUnique}
use Rattle.cm_index.specs.Living.{living}
use Rattle.cm_index.proofs.{living-push, unique-loader}
use Rattle.cm_rows.specs.declared.live_loader.LiveLoader.{LiveLoader}
use Rattle.cm_rows.specs.declared.loader_places.LoaderPlaces.{LoaderPlaces}
use Rattle.cm_rows.specs.declared.row_places.RowPlaces.{RowPlaces}
use Rattle.cm_rows.specs.Loaders.{living_loader}
use Rattle.cm_rows.proofs.Books.{add-loader}
use Rattle.cm_rows.proofs.KeptPlaces.{all-below}
use Rattle.cm_rows.proofs.Placed.{as-many, links-loader, loaders-below, loaders-fewer, loaders-push}
use Rattle.cm_rows.proofs.Placed.{owned-rows}
use Rattle.cm_rows.proofs.Verdicts.{new-few, new-name, fewer-rows}
use Rattle.cm_rows.proofs.live_rows.LiveRows.add_loader.Given.{Over}
use Rattle.cm_rows.proofs.live_rows.LiveRows.add_loader.Goals as goal
use Rattle.cm_rows.proofs.live_rows.LiveRows.add_loader.Goals.{After-is_new_loader, After-push_row}

refused : (t : Bool) → t ≡ false → Some OnRows ≡ cond t None (Some OnRows)
refused true e = absurd (cc)
refused false e = refl

added : (t : Bool) → t ≡ true → None ≡ cond t None (Some OnRows)
added true e = refl
added false e = absurd (cc)

pub returns-then-not-is_new_loader-clause-broken : goal.returns-then-not-is_new_loader-clause-broken
returns-then-not-is_new_loader-clause-broken g c =
    refused (is_new_loader c.args.self.now.sizes c.args.self.now.rows c.args.row)
    (sym c.is_new_loader.ensures ∙ c.if-not-is_new_loader.true)

pub returns-clause-broken : goal.returns-clause-broken
returns-clause-broken g c =
    added (is_new_loader c.args.self.now.sizes c.args.self.now.rows c.args.row)
    (sym c.is_new_loader.ensures ∙ c.if-not-is_new_loader.false)

new : (g : Over) (c : After-is_new_loader g) → c.is_new_loader.result ≡ true
    → is_new_loader c.self.inside.geometry (living c.self.inside.rows.indexed.slots.items)
    c.args.row ≡ true
new g c is = sym (rw (← c.self.view_is) at c.is_new_loader.ensures) ∙ is

few : (g : Over) (c : After-is_new_loader g) → c.is_new_loader.result ≡ true
    → slots_of_rows (living c.self.inside.rows.indexed.slots.items) + slots_of_name c.args.row.name
    ≤ row_limit c.self.inside.geometry
few g c is = new-few c.self.inside.geometry (living c.self.inside.rows.indexed.slots.items)
    c.args.row
    (new g c is)

pub make_room-requires-clause-few : goal.make_room-requires-clause-few
make_room-requires-clause-few g c =
    fewer-rows c.self.inside.geometry (living c.self.inside.rows.indexed.slots.items)
    c.args.row.name
    (few g (goal.at.make_room-requires-clause-few g c).After-is_new_loader
    c.if-not-is_new_loader.false)

pub overflow_add-self : goal.overflow_add-self
overflow_add-self g c =
    let a = c.self.inside in
    let room = few g (goal.at.overflow_add-self g c).After-is_new_loader
    c.if-not-is_new_loader.false in
    let fewer = fewer-rows a.geometry (living a.rows.indexed.slots.items) c.args.row.name room in
    omega (arith, fewer, c.self.invariant.4, c.self.invariant.0.lawful.slots_to)

pub make_room-requires-clause-loaders_few : goal.make_room-requires-clause-loaders_few
make_room-requires-clause-loaders_few g c =
    let a = c.self.inside in
    loaders-fewer a.geometry (living a.rows.indexed.slots.items) (living a.loaders.slots.items)
    a.pool
    c.self.invariant.0

pub make_room-requires-clause-owned : goal.make_room-requires-clause-owned
make_room-requires-clause-owned g c =
    let a = c.self.inside in
    owned-rows a.geometry (living a.rows.indexed.slots.items) (living a.loaders.slots.items) a.pool
    c.self.invariant.0

pub push-requires-clause-room : goal.push-requires-clause-room
push-requires-clause-room g c =
    let m = c.make_room.ensures in
    omega (arith, m.loaders.few, m.room, m.loaders.room, c.make_room.new.loaders.slots.ok.0)

pub push-requires-clause-newest_room : goal.push-requires-clause-newest_room
push-requires-clause-newest_room g c =
    let m = c.make_room.ensures in
    let left = c.make_room.new.loaders in
    let many = as-many c.self.inside.geometry c.make_room.new.rows left m.links in
    omega (arith, many, m.loaders.few, m.room, m.links.newest_room, left.newest.ok.0)

next : (g : Over) (c : After-push_row g) → living c.push_row.new.self.slots.items
    ≡ living c.self.inside.rows.indexed.slots.items ++ Loader c.args.row ∷ []
next g c =
    ap living c.push_row.ensures.slots ∙ living-push c.make_room.new.rows.indexed.slots.items
    (record { item = Loader c.args.row; live = true }) refl
    ∙ ap (λ l. l ++ Loader c.args.row ∷ []) c.make_room.ensures.rows

pub returns-clause-left : goal.returns-clause-left
returns-clause-left g c =
    let a = c.self.inside in
    rw (← c.self.view_is)
    (ap (λ (l : List (Row g.row.P.Denot)). record { sizes = a.geometry; rows = l })
    (next g (goal.at.returns-clause-left g c).After-push_row))

pub invariant_of-self : goal.invariant_of-self
invariant_of-self g c =
    let at = goal.at.invariant_of-self g c in
    let a = c.self.inside in
    let sizes = a.geometry in
    let rows = living a.rows.indexed.slots.items in
    let known = living a.loaders.slots.items in
    let r = c.args.row in
    let m = c.make_room.ensures in
    let there : RowPlaces g.row.P.Denot = c.make_room.new.rows in
    let left : LoaderPlaces = c.make_room.new.loaders in
    let ls = left.slots.items in
    let new_rows : RowPlaces g.row.P.Denot = record {
      indexed = c.push_row.new.self;
      before = c.push_place.new.places;
    } in
    let new_loaders : LoaderPlaces = c.push.new.self in
    let is = next g at.After-push_row in
    let fresh = new g at.After-is_new_loader c.if-not-is_new_loader.false in
    let room = few g at.After-is_new_loader c.if-not-is_new_loader.false in
    let above = rw (← c.self.view_is) at c.requires in
    let none = new-name sizes rows r fresh in
    let l : LiveLoader = record { number = r.number; last = None } in
    let s : BookSlot LiveLoader = living_loader r.number None in
    let loaders_are : living new_loaders.slots.items ≡ known ++ l ∷ [] =
    ap (λ (k : List (BookSlot LiveLoader)). living k) c.push.ensures.slots ∙ living-push ls s refl
    ∙ ap (λ k. k ++ l ∷ []) m.living_loaders in
    let below = loaders-below sizes rows known a.pool r.number c.self.invariant.0 above in
    let under = all-below ls r.number m.loaders.rises m.loaders.last
    (subst (AllByRecursion (λ k. k.number < r.number)) (sym m.living_loaders) below) in
    let at_end : c.len-next.result ≡ length there.indexed.slots.items =
    omega (arith, c.len-next.ensures, there.indexed.slots.ok.0) in
    let more : length there.indexed.slots.items + 1 ≤ length new_rows.indexed.slots.items =
    omega (
      arith,
      ap length c.push_row.ensures.slots,
      length-append there.indexed.slots.items
          (record { item = Loader r; live = true } ∷ []),
    ) in (
      rw (is, loaders_are) (add-loader sizes rows known a.pool r c.self.invariant.0 room above),
      record {
        index = c.push_row.ensures.index;
        unique = subst AreUnique (sym is) (unique-loader rows r c.self.invariant.1.unique none);
        room = omega (arith, m.index.room, c.push_row.ensures.index_room);
        places_room = omega (arith, m.index.places_room, ap vec_capacity c.push_row.ensures.places);
      },
      links-loader sizes rows known a.pool there new_rows left new_loaders r c.self.invariant.0
          above m.rows under m.links m.room
          (record {
            slots = c.push_row.ensures.slots;
            before = c.push_place.ensures.places;
            loaders = c.push.ensures.slots;
            newest = c.push.ensures.newest ∙ ap (λ (n : ℕ). left.newest.items ++ Some n ∷ [])
                at_end;
          })
          (record {
            slots = c.push_row.ensures.capacity;
            before = c.push_place.ensures.capacity;
            newest = c.push.ensures.newest_capacity;
          }),
      loaders-push sizes left new_loaders (length there.indexed.slots.items)
          (length new_rows.indexed.slots.items)
          r.number m.loaders under c.push.ensures.slots c.push.ensures.capacity more,
      omega (arith, c.self.invariant.4, ap length is, length-append rows (Loader r ∷ [])),
      omega (
        arith,
        c.self.invariant.5,
        c.slots.ensures,
        ap (λ l. slots_of_rows l) is,
        slots-push rows (Loader r),
      ),
    )
