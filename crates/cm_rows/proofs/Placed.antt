-- The places of live rows, with one more class, with one more loader, without a loader, and with a
-- chunk moved.
-- For `LiveRows+unit::copy_from`, `LiveRows::add_loader`, `LiveRows::define` and others.
use Rattle.std.proofs.Common.{◌≡◌, ℕ, ◌+◌, ◌*◌, ◌<◌, ◌≤◌, true, false, List, [], ◌∷◌, ◌++◌, map}
use Rattle.std.proofs.Common.{length, take, get_or, set, Option, Some, None, refl, sym, ◌∙◌, ap}
use Rattle.std.proofs.Common.{subst, arith, length-append, length-set, length-take, vec_capacity}
use Rattle.std.specs.List.{AllByRecursion}
use Rattle.std.proofs.lemmas.List.{length-map}
use Rattle.cm_pool.specs.declared.chunk.Chunk.{Chunk}
use Rattle.cm_pool.specs.Geometry.{Sizes}
use Rattle.cm_pool.specs.FreeSpace.{FreeSpace}
use Rattle.cm_pool.specs.Lists.{Among}
use Rattle.cm_layout.specs.declared.class_row.ClassRow.{ClassRow}
use Rattle.cm_layout.specs.declared.loader_row.LoaderRow.{LoaderRow}
use Rattle.cm_layout.specs.declared.row.Row.{Row}
use Rattle.cm_layout.specs.declared.row.Row.TheVariants.{Loader, Class}
use Rattle.cm_layout.specs.Rows.{numbers_in, is_of}
use Rattle.cm_layout.specs.Rules.{row_limit}
use Rattle.cm_index.specs.declared.slot.BookSlot.{BookSlot}
use Rattle.cm_index.specs.Index.{LivesAt}
use Rattle.cm_index.specs.Living.{living, unloaded, moved_slot}
use Rattle.cm_rows.specs.declared.live_loader.LiveLoader.{LiveLoader}
use Rattle.cm_rows.specs.declared.live_loader.LastChunk.{LastChunk}
use Rattle.cm_rows.specs.declared.loader_places.LoaderPlaces.{LoaderPlaces}
use Rattle.cm_rows.specs.declared.row_places.RowPlaces.{RowPlaces}
use Rattle.cm_rows.specs.Rows.{is_above}
use Rattle.cm_rows.specs.LiveRows.{AreRowsInPlace}
use Rattle.cm_rows.specs.Loaders.{numbers_of_loaders, LoaderIsAt, Rises, items, living_loader}
use Rattle.cm_rows.specs.Loaders.{ended_loader}
use Rattle.cm_rows.specs.Loaders.{HasEnded, HasLoaders}
use Rattle.cm_rows.specs.Links.{loader_in, last_place, last_places, AreLinked, AreOwned, HasLinks}
use Rattle.cm_rows.proofs.KeptPlaces.{nobody, items-set, items-push, items-take, lives-set}
use Rattle.cm_rows.proofs.KeptPlaces.{lives-push, lives-take, rises-take}
use Rattle.cm_rows.proofs.Loaders.{numbers-set, numbers-push, all-numbers, rises-set, rises-push}
use Rattle.cm_rows.proofs.RowFacts.{numbers-few}
use Rattle.cm_rows.proofs.Verdicts.{above-all}
use Rattle.cm_rows.proofs.Linking.{linked-push, linked-moved, places-push, places-at, places-take}
use Rattle.cm_rows.proofs.Linking.{places-unloaded, place-none, place-moved, places-same}
use Rattle.cm_rows.proofs.Linking.{places-new, all-owned, all-fresh}

numbers-below : (ls : List LiveLoader) (n : ℕ) → AllByRecursion (λ l. l.number < n) ls
    → AllByRecursion (λ m. m < n) (numbers_of_loaders ls)
numbers-below [] n h = tt
numbers-below (l ∷ ls) n h = (h.0, numbers-below ls n h.1)

-- ---- the loaders' places

-- another last chunk of one loader
pub loaders-set : (sizes : Sizes) (old new : LoaderPlaces) (rows more u i : ℕ)
    (o : Option LastChunk)
    → HasLoaders sizes old rows → LoaderIsAt (items old.slots.items) u i
    → new.slots.items ≡ set old.slots.items i (living_loader u o)
    → vec_capacity old.slots ≤ vec_capacity new.slots → rows ≤ more → HasLoaders sizes new more
loaders-set sizes old new rows more u i o h at is roomier le =
    let ls = old.slots.items in
    let s : BookSlot LiveLoader = living_loader u o in
    let same : items new.slots.items ≡ set (items ls) i s.item = ap
    (λ (l : List (BookSlot LiveLoader)). items l) is ∙ items-set ls i s in
    let long : length new.slots.items ≡ length ls = ap length is ∙ length-set ls i s in
    record {
      rises = subst Rises (sym same) (record {
        each = rises-set u o (items ls) i nobody (at.number_is nobody) h.rises.each;
      });
      last = λ k e. subst (λ (l : List (BookSlot LiveLoader)). LivesAt l k) (sym is)
          (lives-set ls i s k refl (omega (arith, e, long)) (h.last k (omega (arith, e, long))));
      few = omega (arith, h.few, long);
      room = omega (arith, h.room);
    }

-- one more loader
pub loaders-push : (sizes : Sizes) (old new : LoaderPlaces) (rows more n : ℕ)
    → HasLoaders sizes old rows → AllByRecursion (λ l. l.number < n) (items old.slots.items)
    → new.slots.items ≡ old.slots.items ++ living_loader n None ∷ []
    → vec_capacity old.slots ≤ vec_capacity new.slots → rows + 1 ≤ more → HasLoaders sizes new more
loaders-push sizes old new rows more n h below is roomier le =
    let ls = old.slots.items in
    let s : BookSlot LiveLoader = living_loader n None in
    let same : items new.slots.items ≡ items ls ++ s.item ∷ [] = ap
    (λ (l : List (BookSlot LiveLoader)). items l) is ∙ items-push ls s in
    let long : length new.slots.items ≡ length ls + 1 = ap length is ∙ length-append ls (s ∷ []) in
    record {
      rises = subst Rises (sym same) (record {
        each = rises-push (items ls) s.item h.rises.each below;
      });
      last = λ k e. subst (λ (l : List (BookSlot LiveLoader)). LivesAt l k) (sym is)
          (lives-push ls s k refl (sym (ap length is) ∙ e));
      few = omega (arith, h.few, long);
      room = omega (arith, h.room);
    }

-- one loader that is dead
pub loaders-ended : (sizes : Sizes) (old new : LoaderPlaces) (rows more u i : ℕ)
    → HasLoaders sizes old rows → LoaderIsAt (items old.slots.items) u i → HasEnded old i u new
    → vec_capacity old.slots ≤ vec_capacity new.slots → rows ≤ more → HasLoaders sizes new more
loaders-ended sizes old new rows more u i h at e roomier le =
    let ls = old.slots.items in
    let s : BookSlot LiveLoader = ended_loader u in
    let with : List (BookSlot LiveLoader) = set ls i s in
    let n : ℕ = e.count in
    let same : items new.slots.items ≡ take n (set (items ls) i s.item) = ap
    (λ (l : List (BookSlot LiveLoader)). items l) e.slots_are
    ∙ items-take n with ∙ ap (take n) (items-set ls i s) in
    let long : length new.slots.items ≡ n = ap length e.slots_are
    ∙ omega (arith, length-take n with, e.is_end.within) in
    record {
      rises = subst Rises (sym same) (record {
        each = rises-take n (set (items ls) i s.item)
            (rises-set u None (items ls) i nobody (at.number_is nobody) h.rises.each);
      });
      last = λ k is. subst (λ (l : List (BookSlot LiveLoader)). LivesAt l k) (sym e.slots_are)
          (lives-take with n k (omega (arith, is, long)) e.is_end.within
          (e.is_end.last k (omega (arith, is, long))));
      few = omega (arith, long, e.is_end.within, length-set ls i s, h.few);
      room = omega (arith, h.room);
    }

module _ {P : Type 0} where
  -- ---- rows and loaders

  -- each row's loader lives
  pub owned-rows : (sizes : Sizes) (rows : List (Row P)) (ls : List LiveLoader) (p : FreeSpace)
      → AreRowsInPlace sizes rows ls p → AreOwned rows ls
  owned-rows sizes rows ls p h =
      subst (λ (ns : List ℕ). AllByRecursion (λ row. Among (loader_in row) ns) rows)
      (sym h.loaders.numbers) (all-owned rows (numbers_in rows) h.live.owned (λ n m. m))

  -- there are no more loaders than rows
  pub loaders-fewer : (sizes : Sizes) (rows : List (Row P)) (ls : List LiveLoader) (p : FreeSpace)
      → AreRowsInPlace sizes rows ls p → length ls ≤ length rows
  loaders-fewer sizes rows ls p h =
      omega (
        arith,
        length-map ls (λ (l : LiveLoader). l.number),
        ap length h.loaders.numbers,
        numbers-few rows,
      )

  -- all loaders' numbers are below a number that is above those of live ones
  pub loaders-below : (sizes : Sizes) (rows : List (Row P)) (ls : List LiveLoader) (p : FreeSpace)
      (n : ℕ) → AreRowsInPlace sizes rows ls p → is_above n rows ≡ true
      → AllByRecursion (λ l. l.number < n) ls
  loaders-below sizes rows ls p n h above =
      all-numbers (λ m. m < n) ls
      (subst (AllByRecursion (λ m. m < n)) (sym h.loaders.numbers) (above-all rows n above))

  -- ---- the links

  pub last-at-place : (sizes : Sizes) (rows : RowPlaces P) (loaders : LoaderPlaces) (u i : ℕ)
      (o : Option ℕ) → HasLinks sizes rows loaders → LoaderIsAt (items loaders.slots.items) u i
      → get_or loaders.newest.items i o ≡ last_place u rows.indexed.slots.items
  last-at-place sizes rows loaders u i o h at =
      ap (λ l. get_or l i o) h.lasts
      ∙ places-at rows.indexed.slots.items (items loaders.slots.items) i nobody o at.within
      ∙ ap (λ (v : ℕ). last_place v rows.indexed.slots.items) (at.number_is nobody)

  pub as-many : (sizes : Sizes) (rows : RowPlaces P) (loaders : LoaderPlaces)
      → HasLinks sizes rows loaders → length loaders.newest.items ≡ length loaders.slots.items
  as-many sizes rows loaders h =
      let ls = items loaders.slots.items in
      ap length h.lasts ∙ length-map (numbers_of_loaders ls)
      (λ u. last_place u rows.indexed.slots.items)
      ∙ length-map ls (λ (l : LiveLoader). l.number)
      ∙ length-map loaders.slots.items (λ (s : BookSlot LiveLoader). s.item)

  -- there is no less room than before
  pub record IsRoomier (old : RowPlaces P) (known : LoaderPlaces) (new : RowPlaces P)
      (left : LoaderPlaces) : Type 0 where
    pub slots : vec_capacity old.indexed.slots ≤ vec_capacity new.indexed.slots
    pub before : vec_capacity old.before ≤ vec_capacity new.before
    pub newest : vec_capacity known.newest ≤ vec_capacity left.newest

  -- one more class, of the loader at this place
  pub record HasClass (old : RowPlaces P) (known : LoaderPlaces) (r : ClassRow) (k : P) (i : ℕ)
      (last : Option LastChunk) (new : RowPlaces P) (left : LoaderPlaces) : Type 0 where
    pub slots : new.indexed.slots.items ≡ old.indexed.slots.items
        ++ record { item = Class r k; live = true } ∷ []
    pub before : new.before.items ≡ old.before.items ++ get_or known.newest.items i None ∷ []
    pub loaders : left.slots.items ≡ set known.slots.items i (living_loader r.loader last)
    pub newest : left.newest.items
        ≡ set known.newest.items i (Some (length old.indexed.slots.items))

  pub links-class : (sizes : Sizes) (old new : RowPlaces P) (known left : LoaderPlaces)
      (r : ClassRow) (k : P) (i : ℕ) (o : Option LastChunk) → HasLinks sizes old known
      → length old.indexed.slots.items < 2 * row_limit sizes → Rises (items known.slots.items)
      → LoaderIsAt (items known.slots.items) r.loader i → HasClass old known r k i o new left
      → IsRoomier old known new left → HasLinks sizes new left
  links-class sizes old new known left r k i o h few rises at has more =
      let slots = old.indexed.slots.items in
      let ls = items known.slots.items in
      let s : BookSlot (Row P) = record { item = Class r k; live = true } in
      let l : BookSlot LiveLoader = living_loader r.loader o in
      let last = last-at-place sizes old known r.loader i None h at in
      let linked = linked-push slots old.before.items s (get_or known.newest.items i None)
      h.linked last in
      let lasts = ap (λ os. set os i (Some (length slots))) h.lasts
      ∙ places-push slots s ls i nobody refl rises.each at.within (at.number_is nobody)
      ∙ ap (last_places (slots ++ s ∷ []))
      (sym (numbers-set r.loader o ls i nobody at.within (at.number_is nobody))) in
      record {
        linked = rw (has.slots, has.before) linked;
        lasts = rw (has.newest, has.slots, has.loaders, items-set known.slots.items i l) lasts;
        few = omega (arith, few, ap length has.slots, length-append slots (s ∷ []));
        room = omega (arith, h.room, more.slots);
        before_room = omega (arith, h.before_room, more.before);
        newest_room = omega (arith, h.newest_room, more.newest);
      }

  -- one more loader
  pub record HasLoader (old : RowPlaces P) (known : LoaderPlaces) (r : LoaderRow)
      (new : RowPlaces P) (left : LoaderPlaces) : Type 0 where
    pub slots : new.indexed.slots.items ≡ old.indexed.slots.items
        ++ record { item = Loader r; live = true } ∷ []
    pub before : new.before.items ≡ old.before.items ++ None ∷ []
    pub loaders : left.slots.items ≡ known.slots.items ++ living_loader r.number None ∷ []
    pub newest : left.newest.items ≡ known.newest.items
        ++ Some (length old.indexed.slots.items) ∷ []

  -- no row belongs to the new loader
  none-there : (sizes : Sizes) (rows : List (Row P)) (ls : List LiveLoader) (p : FreeSpace)
      (n : ℕ) → AreRowsInPlace sizes rows ls p → is_above n rows ≡ true
      → AllByRecursion (λ row. is_of n row ≡ false) rows
  none-there sizes rows ls p n b above =
      all-fresh rows (numbers_of_loaders ls) n (owned-rows sizes rows ls p b)
      (subst (AllByRecursion (λ m. m < n)) (sym b.loaders.numbers) (above-all rows n above))

  pub links-loader : (sizes : Sizes) (rows : List (Row P)) (ls : List LiveLoader) (p : FreeSpace)
      (old new : RowPlaces P) (known left : LoaderPlaces) (r : LoaderRow)
      → AreRowsInPlace sizes rows ls p
      → is_above r.number rows ≡ true → living old.indexed.slots.items ≡ rows
      → AllByRecursion (λ l. l.number < r.number) (items known.slots.items)
      → HasLinks sizes old known → length old.indexed.slots.items < 2 * row_limit sizes
      → HasLoader old known r new left → IsRoomier old known new left → HasLinks sizes new left
  links-loader sizes rows ls p old new known left r b above same under h few has more =
      let slots = old.indexed.slots.items in
      let s : BookSlot (Row P) = record { item = Loader r; live = true } in
      let l : BookSlot LiveLoader = living_loader r.number None in
      let fresh = subst (AllByRecursion (λ row. is_of r.number row ≡ false)) (sym same)
      (none-there sizes rows ls p r.number b above) in
      let linked = linked-push slots old.before.items s None h.linked
      (sym (place-none r.number slots fresh)) in
      let numbers = numbers_of_loaders (items known.slots.items) in
      let lasts = ap (λ os. os ++ Some (length slots) ∷ []) h.lasts
      ∙ places-new slots s numbers r.number refl refl
      (numbers-below (items known.slots.items) r.number under)
      ∙ ap (last_places (slots ++ s ∷ [])) (sym (numbers-push (items known.slots.items) l.item)) in
      record {
        linked = rw (has.slots, has.before) linked;
        lasts = rw (has.newest, has.slots, has.loaders, items-push known.slots.items l) lasts;
        few = omega (arith, few, ap length has.slots, length-append slots (s ∷ []));
        room = omega (arith, h.room, more.slots);
        before_room = omega (arith, h.before_room, more.before);
        newest_room = omega (arith, h.newest_room, more.newest);
      }

  -- without the rows of a loader, whose place is the same or removed
  pub links-unloaded : (sizes : Sizes) (old new : RowPlaces P) (known left : LoaderPlaces)
      (u i : ℕ) → HasLinks sizes old known → Rises (items known.slots.items)
      → LoaderIsAt (items known.slots.items) u i → new.indexed.slots.items
      ≡ map (unloaded u) old.indexed.slots.items
      → AreLinked new.indexed.slots.items new.before.items → HasEnded known i u left
      → IsRoomier old known new left → HasLinks sizes new left
  links-unloaded sizes old new known left u i h rises at slots_are linked e more =
      let slots = old.indexed.slots.items in
      let ls = items known.slots.items in
      let n : ℕ = e.count in
      let after = map (unloaded u) slots in
      let s : BookSlot LiveLoader = ended_loader u in
      let lasts = ap (λ os. take n (set os i None)) h.lasts
      ∙ ap (take n)
      (places-unloaded u slots ls i nobody rises.each at.within (at.number_is nobody)
      ∙ ap (last_places after)
      (sym (numbers-set u None ls i nobody at.within (at.number_is nobody))))
      ∙ places-take after n (set ls i s.item) in
      record {
        linked = linked;
        lasts = rw (
          e.newest_are,
          slots_are,
          e.slots_are,
          items-take n (set known.slots.items i s),
          items-set known.slots.items i s,
        ) lasts;
        few = omega (arith, h.few, ap length slots_are, length-map slots (unloaded {P = P} u));
        room = omega (arith, h.room, more.slots);
        before_room = omega (arith, h.before_room, more.before);
        newest_room = omega (arith, h.newest_room, more.newest);
      }

  -- a moved chunk, the last one of the loader at this place
  pub record HasMoved (old : RowPlaces P) (known : LoaderPlaces) (from to : Chunk) (u i : ℕ)
      (last : Option LastChunk) (new : RowPlaces P) (left : LoaderPlaces) : Type 0 where
    pub slots : new.indexed.slots.items ≡ map (moved_slot from to) old.indexed.slots.items
    pub before : new.before.items ≡ old.before.items
    pub loaders : left.slots.items ≡ set known.slots.items i (living_loader u last)
    pub newest : left.newest.items ≡ known.newest.items

  pub links-moved : (sizes : Sizes) (from to : Chunk) (old new : RowPlaces P)
      (known left : LoaderPlaces) (u i : ℕ) (o : Option LastChunk) → HasLinks sizes old known
      → LoaderIsAt (items known.slots.items) u i → HasMoved old known from to u i o new left
      → IsRoomier old known new left → HasLinks sizes new left
  links-moved sizes from to old new known left u i o h at has more =
      let slots = old.indexed.slots.items in
      let ls = items known.slots.items in
      let after = map (moved_slot from to) slots in
      let l : BookSlot LiveLoader = living_loader u o in
      let lasts = h.lasts
      ∙ sym (places-same slots after (numbers_of_loaders ls) (λ v. place-moved from to v slots))
      ∙ ap (last_places after)
      (sym (numbers-set u o ls i nobody at.within (at.number_is nobody))) in
      record {
        linked = rw (has.slots, has.before) (linked-moved from to slots old.before.items h.linked);
        lasts = rw (has.newest, has.slots, has.loaders, items-set known.slots.items i l) lasts;
        few = omega (
          arith,
          h.few,
          ap length has.slots,
          length-map slots (moved_slot {P = P} from to),
        );
        room = omega (arith, h.room, more.slots);
        before_room = omega (arith, h.before_room, more.before);
        newest_room = omega (arith, h.newest_room, more.newest);
      }
