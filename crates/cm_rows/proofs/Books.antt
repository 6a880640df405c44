-- Live rows keep their invariant: with one more loader, with one more class, without a loader, and
-- with a chunk moved.
-- For `LiveRows+unit::copy_from`, `LiveRows::add_loader`, `LiveRows::define` and others.
use Rattle.std.proofs.Common.{◌≡◌, ◌≢◌, ℕ, ◌+◌, ◌<◌, ◌≤◌, ◌⊎◌, Bool, true, false, cond, eqb, List}
use Rattle.std.proofs.Common.{[], ◌∷◌, ◌++◌, length, get_or, set, Option, Some, None, inl, inr, sym}
use Rattle.std.proofs.Common.{◌∙◌, ap, subst, arith, append-nil}
use Rattle.std.specs.Prelude.{not, filter}
use Rattle.std.specs.List.{AllByRecursion, remove}
use Rattle.std.proofs.lemmas.Bool.{eq-eqb}
use Rattle.std.proofs.lemmas.List.{length-map}
use Rattle.cm_pool.specs.declared.chunk.Chunk.{Chunk}
use Rattle.cm_pool.specs.Geometry.{Sizes}
use Rattle.cm_pool.specs.Chunks.{Meets}
use Rattle.cm_pool.specs.FreeSpace.{FreeSpace, IsFreeChunk, IsUsedChunk, without, with_chunk}
use Rattle.cm_pool.specs.Lists.{Among}
use Rattle.cm_pool.proofs.{meets-itself, among-left, among-push, among-map_from, among-filter}
use Rattle.cm_pool.proofs.{among-filter_from}
use Rattle.cm_layout.specs.declared.class_row.ClassRow.{ClassRow}
use Rattle.cm_layout.specs.declared.loader_row.LoaderRow.{LoaderRow}
use Rattle.cm_layout.specs.declared.move_entry.Move.{Move}
use Rattle.cm_layout.specs.declared.row.Row.{Row}
use Rattle.cm_layout.specs.declared.row.Row.TheVariants.{Loader, Class}
use Rattle.cm_layout.specs.Names.{slots_of_name}
use Rattle.cm_layout.specs.Rows.{classes_in, numbers_in, without_loader, moved, bare, slots_of_rows}
use Rattle.cm_layout.specs.Rules.{row_limit, is_chunk, has_place}
use Rattle.cm_layout.proofs.{last_chunk-among, numbers-moved, rows-within, slots-push}
use Rattle.cm_layout.proofs.{slots-without, slots-moved, slots-bare}
use Rattle.cm_rows.specs.declared.live_loader.LastChunk.{LastChunk}
use Rattle.cm_rows.specs.declared.live_loader.LiveLoader.{LiveLoader}
use Rattle.cm_rows.specs.Rows.{last_of, is_above}
use Rattle.cm_rows.specs.Loaders.{LoaderIsAt}
use Rattle.cm_rows.specs.Held.{PoolHolds, first_chunks, AreFounded, TakesPlace, HasNoPlace}
use Rattle.cm_rows.specs.LiveRows.{AreLoadersOf, AreLiveRows, AreRowsInPlace}
use Rattle.cm_rows.proofs.Classes.{used, used-some, moved_class, is_moved, first-push, first-moved}
use Rattle.cm_rows.proofs.Loaders.{last_in-set, last_in-remove, last_in-push, numbers-set}
use Rattle.cm_rows.proofs.Loaders.{rises-set, numbers-remove, rises-remove, numbers-push}
use Rattle.cm_rows.proofs.Loaders.{rises-push, all-numbers, at-among}
use Rattle.cm_rows.proofs.Holding.{free-is, take-push, swap}
use Rattle.cm_rows.proofs.RowFacts.{numbers-few, classes-push_class, numbers-push_class}
use Rattle.cm_rows.proofs.RowFacts.{classes-push_loader, numbers-push_loader, classes-without}
use Rattle.cm_rows.proofs.RowFacts.{numbers-without, classes-moved, classes-bare, numbers-bare}
use Rattle.cm_rows.proofs.Verdicts.{above-all, last-at, has_room_for, room-from, place-top}
use Rattle.cm_rows.proofs.Verdicts.{place-front, place-none}
use Rattle.cm_rows.proofs.Changes.{ne-eqb, last_use, last_of-is, use-chunk, Joins, founded-push}
use Rattle.cm_rows.proofs.Changes.{last_use-push, joins-top, joins-new, last_use-without}
use Rattle.cm_rows.proofs.Changes.{founded-without, last_use-moved, founded-moved}

-- a class's chunk, used up to the end of the class's record
abbrev pub used_to_end : ClassRow → LastChunk
used_to_end r = record { chunk = r.place.chunk; used = r.place.offset + r.place.words }

-- the loaders, if the one at this place has another last chunk
abbrev pub with_last : List LiveLoader → ℕ → ℕ → LastChunk → List LiveLoader
with_last ls i u l = set ls i (record { number = u; last = Some l })

-- ---- the loaders

module _ {P : Type 0} where
  loaders-set : (rows more : List (Row P)) (ls : List LiveLoader) (u i : ℕ) (o : Option LastChunk)
      → AreLoadersOf rows ls → LoaderIsAt ls u i → numbers_in more ≡ numbers_in rows
      → ((v : ℕ) → last_of v more ≡ cond (eqb u v) o (last_of v rows))
      → AreLoadersOf more (set ls i (record { number = u; last = o }))
  loaders-set rows more ls u i o h at numbers last =
      let d : LiveLoader = record { number = 0; last = None } in
      let is = at.number_is d in
      record {
        numbers = numbers-set u o ls i d at.within is ∙ h.numbers ∙ sym numbers;
        rises = record { each = rises-set u o ls i d is h.rises.each };
        last = λ v. last_in-set u v o ls i d h.rises.each at.within is
            ∙ ap (cond (eqb u v) o) (h.last v) ∙ sym (last v);
      }

  -- no record is on a free chunk
  nowhere : (sizes : Sizes) (rows : List (Row P)) (p : FreeSpace) (c : Chunk)
      → AreLiveRows sizes rows p → IsFreeChunk p c → (s : ClassRow) → Among s (classes_in rows)
      → s.place.chunk ≢ c
  nowhere sizes rows p c live free s m e =
      let apart = ((free-is sizes p (first_chunks (classes_in rows)) c live.holds).0 free).1 in
      apart s.place.chunk (live.founded.first s m) (subst
      (λ (d : Chunk). Meets c d) (sym e) (meets-itself c))

-- ---- one more class

module _ {P : Type 0} where
  -- what every additional class does
  pushed : (sizes : Sizes) (rows : List (Row P)) (ls : List LiveLoader) (p q : FreeSpace)
      (r : ClassRow) (k : P) (i : ℕ)
      → AreRowsInPlace sizes rows ls p → slots_of_rows rows < row_limit sizes
      → LoaderIsAt ls r.loader i
      → Joins (classes_in rows) r → PoolHolds sizes q (first_chunks (classes_in rows ++ r ∷ []))
      → AreRowsInPlace sizes (rows ++ Class r k ∷ []) (with_last ls i r.loader (used_to_end r)) q
  pushed sizes rows ls p q r k i h few at joins holds =
      let classes = classes-push_class rows r k in
      let numbers = numbers-push_class rows r k in
      let o : Option LastChunk = Some (used_to_end r) in
      record {
        lawful = h.lawful;
        few = omega (arith, slots-push rows (Class r k));
        loaders = loaders-set rows (rows ++ Class r k ∷ []) ls r.loader i o h.loaders at numbers
            (λ v. last_of-is v (rows ++ Class r k ∷ []) ∙ ap (last_use v) classes
            ∙ last_use-push (classes_in rows) r v joins
            ∙ ap (cond (eqb r.loader v) o) (sym (last_of-is v rows)));
        live = record {
          holds = subst (λ (rs : List ClassRow). PoolHolds sizes q (first_chunks rs))
              (sym classes)
              holds;
          founded = subst AreFounded (sym classes) (founded-push (classes_in rows) r h.live.founded
              joins);
          owned = λ s m. subst
              (λ (ns : List ℕ). Among s.loader ns) (sym numbers)
              (owned s (among-push s r (classes_in rows)
              (subst (λ (rs : List ClassRow). Among s rs) classes m)));
        };
      }
    where
      owned : (s : ClassRow) → Among s (classes_in rows) ⊎ (s ≡ r)
          → Among s.loader (numbers_in rows)
      owned s (inl a) = h.live.owned s a
      owned s (inr e) =
          let there = at-among r.loader ls i (record { number = 0; last = None }) at.within
          (at.number_is (record { number = 0; last = None })) in
          subst (λ (n : ℕ). Among n (numbers_in rows)) (ap
          (λ (x : ClassRow). x.loader) (sym e)) (subst
          (λ (ns : List ℕ). Among r.loader ns) h.loaders.numbers there)

  -- a class after the last record in its loader's last chunk
  pub define-top : (sizes : Sizes) (rows : List (Row P)) (ls : List LiveLoader) (p : FreeSpace)
      (r : ClassRow) (k : P) (i : ℕ)
      → AreRowsInPlace sizes rows ls p → slots_of_rows rows < row_limit sizes
      → LoaderIsAt ls r.loader i
      → 1 ≤ r.place.words
      → last_of r.loader rows ≡ Some (record { chunk = r.place.chunk; used = r.place.offset })
      → AreRowsInPlace sizes (rows ++ Class r k ∷ []) (with_last ls i r.loader (used_to_end r)) p
  define-top sizes rows ls p r k i h few at some last =
      let on_top = sym (last_of-is r.loader rows) ∙ last in
      let joins = joins-top (classes_in rows) r h.live.founded some on_top in
      let is = use-chunk r.loader (classes_in rows)
      (record { chunk = r.place.chunk; used = r.place.offset }) on_top in
      let t = last_chunk-among r.loader (classes_in rows) r.place.chunk is.0 in
      let behind : 1 ≤ used r.place.chunk (classes_in rows) =
      used-some r.place.chunk (classes_in rows) t.0 t.1 t.3 (h.live.founded.words t.0 t.1) in
      let same : first_chunks (classes_in rows ++ r ∷ []) ≡ first_chunks (classes_in rows) =
      first-push (classes_in rows) r
      ∙ ap (λ (t : Bool). first_chunks (classes_in rows) ++ cond t (r.place.chunk ∷ []) [])
      (ne-eqb r.place.offset 0 (λ e. omega (arith, joins.offset, behind)))
      ∙ append-nil (first_chunks (classes_in rows)) in
      pushed sizes rows ls p p r k i h few at joins (subst
      (λ (cs : List Chunk). PoolHolds sizes p cs) (sym same) h.live.holds)

  -- a class that is first in a chunk that was free
  pub define-new : (sizes : Sizes) (rows : List (Row P)) (ls : List LiveLoader) (p : FreeSpace)
      (r : ClassRow) (k : P) (i : ℕ)
      → AreRowsInPlace sizes rows ls p → slots_of_rows rows < row_limit sizes
      → LoaderIsAt ls r.loader i
      → 1 ≤ r.place.words → r.place.offset ≡ 0 → IsFreeChunk p r.place.chunk
      → AreRowsInPlace sizes (rows ++ Class r k ∷ []) (with_last ls i r.loader (used_to_end r))
      (without p r.place.chunk)
  define-new sizes rows ls p r k i h few at some zero free =
      let joins = joins-new (classes_in rows) r some zero
      (nowhere sizes rows p r.place.chunk h.live free) in
      let same : first_chunks (classes_in rows ++ r ∷ [])
      ≡ first_chunks (classes_in rows) ++ r.place.chunk ∷ [] =
      first-push (classes_in rows) r ∙ ap
      (λ (t : Bool). first_chunks (classes_in rows) ++ cond t (r.place.chunk ∷ []) [])
      (eq-eqb r.place.offset 0 zero) in
      pushed sizes rows ls p (without p r.place.chunk) r k i h few at joins
      (subst (λ (cs : List Chunk). PoolHolds sizes (without p r.place.chunk) cs) (sym same)
      (take-push sizes p (first_chunks (classes_in rows)) r.place.chunk h.live.holds free))

-- ---- one more loader

module _ {P : Type 0} where
  pub add-loader : (sizes : Sizes) (rows : List (Row P)) (ls : List LiveLoader) (p : FreeSpace)
      (r : LoaderRow)
      → AreRowsInPlace sizes rows ls p → slots_of_rows rows + slots_of_name r.name ≤ row_limit sizes
      → is_above r.number rows ≡ true
      → AreRowsInPlace sizes (rows ++ Loader r ∷ [])
      (ls ++ record { number = r.number; last = None } ∷ []) p
  add-loader sizes rows ls p r h few above =
      let classes = classes-push_loader rows r in
      let numbers = numbers-push_loader rows r in
      let l : LiveLoader = record { number = r.number; last = None } in
      let below = all-numbers (λ n. n < r.number) ls (subst (AllByRecursion
      (λ n. n < r.number)) (sym h.loaders.numbers) (above-all rows r.number above)) in
      record {
        lawful = h.lawful;
        few = omega (arith, few, slots-push rows (Loader r));
        loaders = record {
          numbers = numbers-push ls l ∙ ap
              (λ ns. ns ++ r.number ∷ []) h.loaders.numbers ∙ sym numbers;
          rises = record { each = rises-push ls l h.loaders.rises.each below };
          last = λ v. last_in-push r.number v ls below ∙ h.loaders.last v ∙ last_of-is v rows
              ∙ ap (last_use v) (sym classes) ∙ sym (last_of-is v (rows ++ Loader r ∷ []));
        };
        live = record {
          holds = subst
              (λ (rs : List ClassRow). PoolHolds sizes p (first_chunks rs)) (sym classes)
              h.live.holds;
          founded = subst AreFounded (sym classes) h.live.founded;
          owned = λ s m.
              subst (λ (ns : List ℕ). Among s.loader ns) (sym numbers)
              (among-left s.loader (numbers_in rows) (r.number ∷ []) (h.live.owned s (subst
              (λ (rs : List ClassRow). Among s rs) classes m)));
        };
      }

-- ---- without a loader

module _ {P : Type 0} where
  pub unload : (sizes : Sizes) (rows : List (Row P)) (ls : List LiveLoader) (p q : FreeSpace)
      (u i : ℕ)
      → AreRowsInPlace sizes rows ls p → LoaderIsAt ls u i
      → PoolHolds sizes q (first_chunks (classes_in (without_loader u rows)))
      → AreRowsInPlace sizes (without_loader u rows) (remove ls i) q
  unload sizes rows ls p q u i h at holds =
      let d : LiveLoader = record { number = 0; last = None } in
      let is = at.number_is d in
      let classes = classes-without u rows in
      let numbers = numbers-without u rows in
      let none : Option LastChunk = None in
      record {
        lawful = h.lawful;
        few = omega (arith, slots-without u rows, h.few);
        loaders = record {
          numbers = numbers-remove u ls i d h.loaders.rises.each at.within is ∙ ap (filter
              (λ n. not (eqb n u))) h.loaders.numbers ∙ sym numbers;
          rises = record { each = rises-remove ls i h.loaders.rises.each };
          last = λ v.
              last_in-remove u v ls i d h.loaders.rises.each at.within is
              ∙ ap (cond (eqb u v) none) (h.loaders.last v ∙ last_of-is v rows)
              ∙ sym (last_of-is v (without_loader u rows) ∙ ap (last_use v) classes
              ∙ last_use-without u (classes_in rows) v h.live.founded);
        };
        live = record {
          holds = holds;
          founded = subst AreFounded (sym classes) (founded-without u (classes_in rows)
              h.live.founded);
          owned = λ s m.
              let was = among-filter_from
              (λ (r : ClassRow). not (eqb r.loader u)) s (classes_in rows) (subst
              (λ (rs : List ClassRow). Among s rs) classes m) in
              subst (λ (ns : List ℕ). Among s.loader ns) (sym numbers) (among-filter
              (λ (n : ℕ). not (eqb n u)) s.loader (numbers_in rows) (h.live.owned s was.0) was.1);
        };
      }

-- ---- a chunk moved

module _ {P : Type 0} where
  pub apply_move : (sizes : Sizes) (rows : List (Row P)) (ls : List LiveLoader) (p : FreeSpace)
      (u i used_words : ℕ) (from to : Chunk)
      → AreRowsInPlace sizes rows ls p → LoaderIsAt ls u i
      → last_of u rows ≡ Some (record { chunk = from; used = used_words }) → IsFreeChunk p to
      → IsUsedChunk (without p to) from
      × AreRowsInPlace sizes (moved from to rows) (with_last ls i u
      (record { chunk = to; used = used_words })) (with_chunk (without p to) from)
  apply_move sizes rows ls p u i used_words from to h at last free =
      let k = classes_in rows in
      let is = use-chunk u k (record { chunk = from; used = used_words }) (sym (last_of-is u rows)
      ∙ last) in
      let t = last_chunk-among u k from is.0 in
      let on : Among from (first_chunks k) = subst
      (λ (c : Chunk). Among c (first_chunks k)) t.3 (h.live.founded.first t.0 t.1) in
      let swapped = swap sizes p (first_chunks k) from to h.live.holds on free in
      let unused = nowhere sizes rows p to h.live free in
      let classes = classes-moved from to rows in
      let numbers = numbers-moved from to rows in
      let o : Option LastChunk = Some (record { chunk = to; used = used_words }) in (
        swapped.0,
        record {
          lawful = h.lawful;
          few = omega (arith, slots-moved from to rows, h.few);
          loaders = loaders-set rows (moved from to rows) ls u i o h.loaders at numbers
              (λ v. last_of-is v (moved from to rows) ∙ ap (last_use v) classes
              ∙ last_use-moved u from to k v h.live.founded is.0 unused
              ∙ ap (λ (n : ℕ). cond (eqb u v) (Some (record { chunk = to; used = n }))
              (last_use v k)) is.1 ∙ ap (cond (eqb u v) o) (sym (last_of-is v rows)));
          live = record {
            holds = subst
                (λ (cs : List Chunk). PoolHolds sizes (with_chunk (without p to) from) cs)
                (sym (ap first_chunks classes ∙ first-moved from to k)) swapped.1;
            founded = subst AreFounded (sym classes) (founded-moved from to k h.live.founded
                unused);
            owned = λ s m.
                let found = among-map_from (moved_class from to) s k (subst
                (λ (rs : List ClassRow). Among s rs) classes m) in
                let same : s.loader ≡ found.0.loader = ap
                (λ (x : ClassRow). x.loader) found.2 ∙ (is_moved from to found.0).loader in
                subst (λ (ns : List ℕ). Among s.loader ns) (sym numbers) (subst
                (λ (n : ℕ). Among n (numbers_in rows)) (sym same) (h.live.owned found.0 found.1));
          };
        },
      )

-- ---- the place of a class

module _ {P : Type 0} where
  pub defined : (sizes : Sizes) (rows : List (Row P)) (ls : List LiveLoader) (p q : FreeSpace)
      (r : ClassRow) (k : P) (i : ℕ) (l : LiveLoader)
      → AreRowsInPlace sizes rows ls p → slots_of_rows rows < row_limit sizes
      → LoaderIsAt ls r.loader i
      → l ≡ get_or ls i l → 1 ≤ r.place.words → TakesPlace l.last r.place p q
      → AreRowsInPlace sizes (rows ++ Class r k ∷ []) (with_last ls i r.loader (used_to_end r)) q
  defined sizes rows ls p q r k i l h few at is some (inl (top, same)) =
      let new = with_last ls i r.loader (used_to_end r) in
      subst (λ (x : FreeSpace). AreRowsInPlace sizes (rows ++ Class r k ∷ []) new x) (sym same)
      (define-top sizes rows ls p r k i h few at some (last-at rows ls r.loader i l h.loaders at is
      ∙ top.is_top))
  defined sizes rows ls p q r k i l h few at is some (inr (front, same)) =
      let new = with_last ls i r.loader (used_to_end r) in
      subst (λ (x : FreeSpace). AreRowsInPlace sizes (rows ++ Class r k ∷ []) new x) (sym same)
      (define-new sizes rows ls p r k i h few at some front.front front.free)

  pub placed : (sizes : Sizes) (rows : List (Row P)) (ls : List LiveLoader) (p q : FreeSpace)
      (r : ClassRow) (i : ℕ) (l : LiveLoader)
      → AreRowsInPlace sizes rows ls p → LoaderIsAt ls r.loader i → l ≡ get_or ls i l
      → TakesPlace l.last r.place p q → has_place rows r ≡ true
  placed sizes rows ls p q r i l h at is (inl (top, same)) =
      place-top rows r (last-at rows ls r.loader i l h.loaders at is ∙ top.is_top)
  placed sizes rows ls p q r i l h at is (inr (front, same)) =
      place-front sizes rows p r h.live front.front front.free

  pub unplaced : (sizes : Sizes) (rows : List (Row P)) (ls : List LiveLoader) (p q : FreeSpace)
      (r : ClassRow) (i : ℕ) (l : LiveLoader)
      → AreRowsInPlace sizes rows ls p → LoaderIsAt ls r.loader i → l ≡ get_or ls i l
      → is_chunk sizes r.place.chunk ≡ true → HasNoPlace l.last r.place p q
      → has_place rows r ≡ false
  unplaced sizes rows ls p q r i l h at is chunk none =
      place-none sizes rows p r h.live chunk
      (λ top. none.not_top (record {
        is_top = sym (last-at rows ls r.loader i l h.loaders at is)
            ∙ top;
      }))
      (λ zero free. none.not_front (record { front = zero; free = free }))

  pub relocated : (sizes : Sizes) (rows : List (Row P)) (ls : List LiveLoader) (p : FreeSpace)
      (e : Move) (i : ℕ) (m : LiveLoader) (l : LastChunk)
      → AreRowsInPlace sizes rows ls p → LoaderIsAt ls e.loader i → m ≡ get_or ls i m → m.last
      ≡ Some l
      → has_room_for sizes l e ≡ true → IsFreeChunk p e.to
      → IsUsedChunk (without p e.to) e.from
      × AreRowsInPlace sizes (moved e.from e.to rows) (with_last ls i e.loader
      (record { chunk = e.to; used = l.used })) (with_chunk (without p e.to) e.from)
  relocated sizes rows ls p e i m l h at is last room free =
      let same : last_of e.loader rows ≡ Some l = last-at rows ls e.loader i m h.loaders at is
      ∙ last in
      let from : last_of e.loader rows ≡ Some (record { chunk = e.from; used = l.used }) =
      same ∙ ap (λ (c : Chunk). Some (record { chunk = c; used = l.used }))
      (room-from sizes l e room) in
      apply_move sizes rows ls p e.loader i l.used e.from e.to h at from free

-- ---- the rows of another value

module _ {P : Type 0} where
  -- rows with nothing kept of a class
  pub bared : (sizes : Sizes) (rows : List (Row P)) (ls : List LiveLoader) (p q : FreeSpace)
      → AreRowsInPlace sizes rows ls p
      → PoolHolds sizes q (first_chunks (classes_in rows)) → AreRowsInPlace sizes (bare rows) ls q
  bared sizes rows ls p q h holds =
      let classes = classes-bare rows in
      let numbers = numbers-bare rows in
      record {
        lawful = h.lawful;
        few = omega (arith, h.few, slots-bare rows);
        loaders = record {
          numbers = h.loaders.numbers ∙ sym numbers;
          rises = h.loaders.rises;
          last = λ u. h.loaders.last u ∙ last_of-is u rows ∙ ap (last_use u) (sym classes)
              ∙ sym (last_of-is u (bare rows));
        };
        live = record {
          holds = subst (λ (rs : List ClassRow). PoolHolds sizes q (first_chunks rs))
              (sym classes)
              holds;
          founded = subst AreFounded (sym classes) h.live.founded;
          owned = λ s m.
              subst (λ (ns : List ℕ). Among s.loader ns) (sym numbers) (h.live.owned s (subst
              (λ (rs : List ClassRow). Among s rs) classes m));
        };
      }

  pub loaders-at_most : (sizes : Sizes) (rows : List (Row P)) (ls : List LiveLoader) (p : FreeSpace)
      → AreRowsInPlace sizes rows ls p → length ls ≤ row_limit sizes
  loaders-at_most sizes rows ls p h =
      omega (
        arith,
        h.few,
        rows-within rows,
        length-map ls
            (λ (l : LiveLoader). l.number),
        ap length h.loaders.numbers,
        numbers-few rows,
      )
