-- What the tests of the rules say about live rows.
-- For `LiveRows::add_loader`, `LiveRows::define`, `LiveRows::is_live` and others.
use Rattle.std.proofs.Common.{◌≡◌, ℕ, ◌+◌, ◌-◌, ◌%◌, ◌<◌, ◌≤◌, ◌↔◌, Bool, true, false, cond}
use Rattle.std.proofs.Common.{eqb, List}
use Rattle.std.proofs.Common.{[], ◌∷◌, length, get_or, Option, Some, None, inl, inr, refl, sym, ◌∙◌}
use Rattle.std.proofs.Common.{ap, subst, arith}
use Rattle.std.specs.Prelude.{not, ◌==◌, ◌^◌, ◌&&◌, ◌||◌, nat_le, nat_lt, max, min, is_none}
use Rattle.std.specs.List.{list_any, list_all, AllByRecursion}
use Rattle.std.specs.Option.{option_map, option_map_or}
use Rattle.std.proofs.lemmas.Bool.{eqb-true, eq-eqb, ltb-true, ltb-false, leb-true, le-leb}
use Rattle.std.proofs.lemmas.Bool.{and_parts, or_cases}
use Rattle.std.proofs.Math.Nat.{pow-le-pow_right}
use Rattle.std.proofs.lemmas.Bool.Decides.{nat_tests}
use Rattle.cm_pool.specs.declared.chunk.Chunk.{Chunk}
use Rattle.cm_pool.specs.Geometry.{Sizes}
use Rattle.cm_pool.specs.Chunks.{chunk_size, same_chunk, Meets, IsChunk}
use Rattle.cm_pool.specs.FreeSpace.{FreeSpace, IsFreeChunk}
use Rattle.cm_pool.specs.Lists.{Among}
use Rattle.cm_pool.proofs.{same_chunk-true, same_chunk-is, among-map, among-map_from}
use Rattle.cm_layout.specs.declared.class_row.ClassRow.{ClassRow}
use Rattle.cm_layout.specs.declared.loader_row.LoaderRow.{LoaderRow}
use Rattle.cm_layout.specs.declared.move_entry.Move.{Move}
use Rattle.cm_layout.specs.declared.row.Row.{Row}
use Rattle.cm_layout.specs.declared.row.Row.TheVariants.{Loader, Class}
use Rattle.cm_layout.specs.Names.{is_loader_name, slots_of_name}
use Rattle.cm_layout.specs.Rows.{classes_in, numbers_in, chunks_in, number_of, used_words}
use Rattle.cm_layout.specs.Rows.{last_chunk, slots_of_rows}
use Rattle.cm_layout.specs.Rules.{is_chunk, meets, is_unused, is_last_chunk, has_place, move_fits}
use Rattle.cm_layout.specs.Rules.{has_room, is_too_much, row_limit, broken_of, is_live}
use Rattle.cm_layout.specs.Rules.{is_new_loader}
use Rattle.cm_layout.specs.declared.entry_rule.EntryRule.TheVariants.{OnRows, OnChunks}
use Rattle.cm_layout.proofs.{meets-true}
use Rattle.cm_rows.specs.declared.live_loader.LastChunk.{LastChunk}
use Rattle.cm_rows.specs.declared.live_loader.LiveLoader.{LiveLoader}
use Rattle.cm_rows.specs.Rows.{last_of, is_above}
use Rattle.cm_rows.specs.Loaders.{LoaderIsAt, IsAbsent}
use Rattle.cm_rows.specs.Held.{first_chunks, AreFounded}
use Rattle.cm_rows.specs.LiveRows.{AreLoadersOf, AreLiveRows}
use Rattle.cm_rows.specs.Placing.{is_inside}
use Rattle.cm_rows.proofs.Classes.{first-among}
use Rattle.cm_rows.proofs.Loaders.{at-among, absent-among, last_in-at, last_in-absent}
use Rattle.cm_rows.proofs.Holding.{free-is}
use Rattle.cm_layout.proofs.{rows-within, slots-name}
use Rattle.cm_rows.proofs.RowFacts.{live-among, among-live}

-- ---- tests

pub not-true : (b : Bool) → (¬ (b ≡ true)) → b ≡ false
not-true true n = absurd (n refl)
not-true false n = refl

all_two : (a b : Bool) → a ≡ true → b ≡ true → (a && b) ≡ true
all_two true true x y = refl
all_two true false x y = absurd (cc)
all_two false b x y = absurd (cc)

all_four : (a b c d : Bool) → a ≡ true → b ≡ true → c ≡ true → d ≡ true → (a && b && c && d) ≡ true
all_four a b c d x y z w = all_two (a && b && c) d (all_two (a && b) c (all_two a b x y) z) w

or_second : (a b : Bool) → b ≡ true → (a || b) ≡ true
or_second true b h = refl
or_second false b h = h

turned : (a b c : Bool) → (a && b && c) ≡ (a && c && b)
turned true true true = refl
turned true true false = refl
turned true false true = refl
turned true false false = refl
turned false b c = refl

module _ {P : Type 0} where
  abbrev with_words : List (Row P) → Chunk → LastChunk
  with_words rows c = record { chunk = c; used = used_words c rows }

-- ---- live loaders

module _ {P : Type 0} where
  pub live-at : (rows : List (Row P)) (ls : List LiveLoader) (u i : ℕ) → AreLoadersOf rows ls
      → LoaderIsAt ls u i → is_live u rows ≡ true
  live-at rows ls u i h at =
      let d : LiveLoader = record { number = 0; last = None } in
      live-among u rows (subst
      (λ (ns : List ℕ). Among u ns) h.numbers (at-among u ls i d at.within (at.number_is d)))

  pub not_live : (rows : List (Row P)) (ls : List LiveLoader) (u : ℕ) → AreLoadersOf rows ls
      → IsAbsent ls u → is_live u rows ≡ false
  not_live rows ls u h absent = among-live u rows (λ m. absent-among u ls absent (subst
      (λ (ns : List ℕ). Among u ns) (sym h.numbers) m))

  -- what is kept of a loader that is found
  pub last-at : (rows : List (Row P)) (ls : List LiveLoader) (u i : ℕ) (l : LiveLoader)
      → AreLoadersOf rows ls → LoaderIsAt ls u i → l ≡ get_or ls i l → last_of u rows ≡ l.last
  last-at rows ls u i l h at is =
      sym (h.last u) ∙ last_in-at u ls i l h.rises.each at.within (at.number_is l) ∙ ap
      (λ (m : LiveLoader). m.last) (sym is)

  pub last-absent : (rows : List (Row P)) (ls : List LiveLoader) (u : ℕ) → AreLoadersOf rows ls
      → IsAbsent ls u → last_of u rows ≡ None
  last-absent rows ls u h absent = sym (h.last u) ∙ last_in-absent u ls absent

-- ---- room

module _ {P : Type 0} where
  pub full-is : (sizes : Sizes) (rows : List (Row P)) (limit taken need : ℕ)
      → limit ≡ row_limit sizes → taken ≡ slots_of_rows rows → slots_of_rows rows ≤ row_limit sizes
      → nat_lt (limit - taken) need ≡ is_too_much sizes (slots_of_rows rows) need
  full-is sizes rows limit taken need is counted few = grind (arith, nat_tests)

  pub room-left : (sizes : Sizes) (rows : List (Row P)) (r : LoaderRow) (need : ℕ)
      → need ≡ slots_of_name r.name → is_too_much sizes (slots_of_rows rows) need ≡ false
      → has_room sizes rows (Loader r) ≡ true
  room-left sizes rows r need is left =
      le-leb (slots_of_rows rows + slots_of_name r.name) (row_limit sizes)
      (omega (arith, is, ltb-false (row_limit sizes) (slots_of_rows rows + need) left))

  pub no_room-left : (sizes : Sizes) (rows : List (Row P)) (r : LoaderRow) (need : ℕ)
      → need ≡ slots_of_name r.name → is_too_much sizes (slots_of_rows rows) need ≡ true
      → has_room sizes rows (Loader r) ≡ false
  no_room-left sizes rows r need is full =
      not-true (has_room sizes rows (Loader r)) (λ room.
      absurd (omega (
        arith,
        is,
        ltb-true (row_limit sizes) (slots_of_rows rows + need) full,
        leb-true (slots_of_rows rows + slots_of_name r.name) (row_limit sizes) room,
      )))

  pub room-is : (sizes : Sizes) (rows : List (Row P)) (r : ClassRow) (k : P)
      → slots_of_rows rows < row_limit sizes → has_room sizes rows (Class r k) ≡ true
  room-is sizes rows r k lt = grind (arith, nat_tests)

  pub no_room-is : (sizes : Sizes) (rows : List (Row P)) (r : ClassRow) (k : P)
      → row_limit sizes ≤ slots_of_rows rows → has_room sizes rows (Class r k) ≡ false
  no_room-is sizes rows r k le = grind (arith, nat_tests)

-- ---- chunks

meets-means : (a b : Chunk) → meets a b ≡ true → Meets a b
meets-means a b h =
    let p = and_parts (eqb a.root b.root) _ h in
    let root : a.root ≡ b.root = eqb-true a.root b.root p.0 in
    let lt : max a.at b.at < min (a.at + chunk_size a.order) (b.at + chunk_size b.order) =
    ltb-true _ _ p.1 in (
      a.root,
      max a.at b.at,
      record { same_root = refl; from = omega arith; to = omega arith },
      record { same_root = root; from = omega arith; to = omega arith },
    )

pub chunk-is : (sizes : Sizes) (c : Chunk) → (is_chunk sizes c ≡ true) ↔ IsChunk sizes c
chunk-is sizes c = (forth, back)
  where
    forth : is_chunk sizes c ≡ true → IsChunk sizes c
    forth h =
        let p = and_parts _ (nat_le (c.at + chunk_size c.order) (chunk_size sizes.top)) h in
        let q = and_parts _ (eqb (c.at % chunk_size c.order) 0) p.0 in
        let r = and_parts (nat_le c.order sizes.top) (nat_lt c.root sizes.roots) q.0 in
        record {
          within_top = grind (arith, nat_tests);
          in_a_root = grind (arith, nat_tests);
          aligned = eqb-true _ _ q.1;
          inside = grind (arith, nat_tests);
        }

    back : IsChunk sizes c → is_chunk sizes c ≡ true
    back h =
        let order : nat_le c.order sizes.top ≡ true = let e =
        h.within_top in grind (arith, nat_tests) in
        let root : nat_lt c.root sizes.roots ≡ true = let e =
        h.in_a_root in grind (arith, nat_tests) in
        let aligned : eqb (c.at % chunk_size c.order) 0 ≡ true = eq-eqb _ _ h.aligned in
        let inside : nat_le (c.at + chunk_size c.order) (chunk_size sizes.top) ≡ true = let e =
        h.inside in grind (arith, nat_tests) in
        (all_four (nat_le c.order sizes.top) (nat_lt c.root sizes.roots)
        (eqb (c.at % chunk_size c.order) 0)
        (nat_le (c.at + chunk_size c.order) (chunk_size sizes.top)) order root aligned inside)

any-false : (c : Chunk) (cs : List Chunk) (d : Chunk) → not (list_any (meets c) cs) ≡ true
    → Among d cs → ¬ Meets c d
any-false c [] d h none = absurd none
any-false c (x ∷ cs) d h m = by_first
    (λ later rest. any-false c cs d later rest) (meets c x) refl m h
  where
    by_first : (not (list_any (meets c) cs) ≡ true → Among d cs → ¬ Meets c d)
        → (t : Bool) → meets c x ≡ t → Among d (x ∷ cs) → not (t || list_any (meets c) cs) ≡ true
        → ¬ Meets c d
    by_first behind true e m h = absurd (cc)
    by_first behind false e (inl is) h = λ shared.
        let yes : meets c x ≡ true = subst
        (λ (y : Chunk). meets c y ≡ true) is (meets-true c d shared) in
        absurd (cc)
    by_first behind false e (inr later) h = behind h later

all-false : (c : Chunk) (cs : List Chunk) → ((d : Chunk) → Among d cs → ¬ Meets c d)
    → not (list_any (meets c) cs) ≡ true
all-false c [] h = refl
all-false c (x ∷ cs) h = rw (not-true (meets c x)
    (λ yes. h x (inl refl) (meets-means c x yes))) (all-false c cs (λ d m. h d (inr m)))

module _ {P : Type 0} where
  pub unused-apart : (rows : List (Row P)) (c : Chunk) → is_unused c rows ≡ true → (d : Chunk)
      → Among d (first_chunks (classes_in rows)) → ¬ Meets c d
  unused-apart rows c h d m =
      let r = first-among d (classes_in rows) m in
      any-false c (chunks_in rows) d h (subst
      (λ (x : Chunk). Among x (chunks_in rows)) r.2 (among-map
      (λ (r : ClassRow). r.place.chunk) r.0 (classes_in rows) r.1))

  pub apart-unused : (rows : List (Row P)) (c : Chunk) → AreFounded (classes_in rows)
      → ((d : Chunk) → Among d (first_chunks (classes_in rows)) → ¬ Meets c d)
      → is_unused c rows ≡ true
  apart-unused rows c h apart =
      all-false c (chunks_in rows) (λ d m.
      let r = among-map_from (λ (r : ClassRow). r.place.chunk) d (classes_in rows) m in
      apart d (subst
      (λ (x : Chunk). Among x (first_chunks (classes_in rows))) (sym r.2) (h.first r.0 r.1)))

  -- a chunk is free if the region has it and no row uses it
  pub free-unused : (sizes : Sizes) (rows : List (Row P)) (p : FreeSpace) (c : Chunk)
      → AreLiveRows sizes rows p → IsFreeChunk p c ↔ ((is_chunk sizes c ≡ true)
      × (is_unused c rows ≡ true))
  free-unused sizes rows p c h =
      let is = free-is sizes p (first_chunks (classes_in rows)) c h.holds in (
        λ free. let f = is.0 free in
            ((chunk-is sizes c).1 f.0, apart-unused rows c h.founded f.1),
        λ (chunk, unused). is.1 ((chunk-is sizes c).0 chunk, unused-apart rows c unused),
      )

-- ---- places

module _ {P : Type 0} where
  -- the place after a loader's last record
  pub top-is : (rows : List (Row P)) (u n : ℕ) (c : Chunk)
      → ((is_last_chunk u c rows && eqb n (used_words c rows)) ≡ true)
      ↔ (last_of u rows ≡ Some (record { chunk = c; used = n }))
  top-is rows u n c = by_last (last_chunk u (classes_in rows))
    where
      by_last : (o : Option Chunk) → ((option_map_or
          (λ last. same_chunk last c) o false && eqb n (used_words c rows)) ≡ true)
          ↔ (option_map (with_words rows) o ≡ Some (record { chunk = c; used = n }))
      by_last None = (λ h. absurd (cc), λ h. absurd (cc))
      by_last (Some d) = (
        λ h.
            let p = and_parts (same_chunk d c) (eqb n (used_words c rows)) h in
            let same : d ≡ c = same_chunk-true d c p.0 in
            let words : n ≡ used_words c rows = eqb-true n (used_words c rows) p.1 in
            ap (λ (x : Chunk). Some (with_words rows x)) same ∙ ap
            (λ (k : ℕ). Some (record { chunk = c; used = k })) (sym words),
        λ h.
            let is : with_words rows d ≡ record { chunk = c; used = n } = cc in
            let same : d ≡ c = ap (λ (x : LastChunk). x.chunk) is in
            let words : used_words d rows ≡ n = ap (λ (x : LastChunk). x.used) is in
            all_two (same_chunk d c) (eqb n (used_words c rows)) (same_chunk-is d c same)
            (eq-eqb n (used_words c rows)
            (sym words ∙ ap (λ (x : Chunk). used_words x rows) same)),
      )

  pub place-top : (rows : List (Row P)) (r : ClassRow)
      → last_of r.loader rows ≡ Some (record { chunk = r.place.chunk; used = r.place.offset })
      → has_place rows r ≡ true
  place-top rows r last = rw ((top-is rows r.loader r.place.offset r.place.chunk).1 last) refl

  pub place-front : (sizes : Sizes) (rows : List (Row P)) (p : FreeSpace) (r : ClassRow)
      → AreLiveRows sizes rows p → r.place.offset ≡ 0 → IsFreeChunk p r.place.chunk
      → has_place rows r ≡ true
  place-front sizes rows p r h zero free =
      or_second (is_last_chunk r.loader r.place.chunk rows
      && eqb r.place.offset (used_words r.place.chunk rows)) _
      (all_two (eqb r.place.offset 0) (is_unused r.place.chunk rows) (eq-eqb r.place.offset 0 zero)
      ((free-unused sizes rows p r.place.chunk h).0 free).1)

  pub place-none : (sizes : Sizes) (rows : List (Row P)) (p : FreeSpace) (r : ClassRow)
      → AreLiveRows sizes rows p → is_chunk sizes r.place.chunk ≡ true
      → (¬ (last_of r.loader rows ≡ Some (record { chunk = r.place.chunk; used = r.place.offset })))
      → (r.place.offset ≡ 0 → ¬ IsFreeChunk p r.place.chunk) → has_place rows r ≡ false
  place-none sizes rows p r h chunk not_top not_front =
      not-true (has_place rows r) (λ yes.
      elim (or_cases (is_last_chunk r.loader r.place.chunk rows
      && eqb r.place.offset (used_words r.place.chunk rows))
      (eqb r.place.offset 0 && is_unused r.place.chunk rows) yes) [
        | inl top ↦ not_top ((top-is rows r.loader r.place.offset r.place.chunk).0 top)
        | inr front ↦
            let q = and_parts (eqb r.place.offset 0) (is_unused r.place.chunk rows) front in
            not_front (eqb-true r.place.offset 0 q.0)
            ((free-unused sizes rows p r.place.chunk h).1 (chunk, q.1))
      ])

-- ---- moves

-- the tests of a move that need no pool
abbrev pub has_room_for : Sizes → LastChunk → Move → Bool
has_room_for sizes l e =
    same_chunk l.chunk e.from && is_chunk sizes e.to && nat_le l.used (chunk_size e.to.order)

module _ {P : Type 0} where
  pub move-none : (sizes : Sizes) (rows : List (Row P)) (e : Move) → last_of e.loader rows ≡ None
      → move_fits sizes rows e ≡ false
  move-none sizes rows e none = by_last (last_chunk e.loader (classes_in rows)) none
    where
      by_last : (o : Option Chunk) → option_map (with_words rows) o ≡ None
          → (option_map_or
          (λ last. same_chunk last e.from) o false && is_chunk sizes e.to && is_unused e.to rows
          && nat_le (used_words e.from rows) (chunk_size e.to.order)) ≡ false
      by_last None h = refl
      by_last (Some d) h = absurd (cc)

  pub move-is : (sizes : Sizes) (rows : List (Row P)) (e : Move) (l : LastChunk)
      → last_of e.loader rows ≡ Some l
      → move_fits sizes rows e ≡ (has_room_for sizes l e && is_unused e.to rows)
  move-is sizes rows e l last = by_last (last_chunk e.loader (classes_in rows)) last
    where
      by_tests : (t : Bool) (d : Chunk) → same_chunk d e.from ≡ t → with_words rows d ≡ l
          → (t && is_chunk sizes e.to && is_unused e.to rows
          && nat_le (used_words e.from rows) (chunk_size e.to.order))
          ≡ (t && is_chunk sizes e.to && nat_le l.used (chunk_size e.to.order)
          && is_unused e.to rows)
      by_tests false d same is = refl
      by_tests true d same is =
          let words : used_words e.from rows ≡ l.used = ap
          (λ (x : Chunk). used_words x rows) (sym (same_chunk-true d e.from same)) ∙ ap
          (λ (x : LastChunk). x.used) is in
          rw (words) (turned (is_chunk sizes e.to) (is_unused e.to rows)
          (nat_le l.used (chunk_size e.to.order)))

      by_last : (o : Option Chunk) → option_map (with_words rows) o ≡ Some l
          → (option_map_or
          (λ last. same_chunk last e.from) o false && is_chunk sizes e.to && is_unused e.to rows
          && nat_le (used_words e.from rows) (chunk_size e.to.order))
          ≡ (has_room_for sizes l e && is_unused e.to rows)
      by_last None h = absurd (cc)
      by_last (Some d) h =
          let is : with_words rows d ≡ l = cc in
          by_tests (same_chunk d e.from) d refl is ∙ ap
          (λ (x : LastChunk). same_chunk x.chunk e.from && is_chunk sizes e.to
          && nat_le l.used (chunk_size e.to.order) && is_unused e.to rows) is

-- ---- new loaders

none-is : (o : Option ℕ) → is_none o ≡ true → o ≡ None
none-is None h = refl
none-is (Some n) h = absurd (cc)

module _ {P : Type 0} where
  pub new-name : (sizes : Sizes) (rows : List (Row P)) (r : LoaderRow)
      → is_new_loader sizes rows r ≡ true → number_of r.name rows ≡ None
  new-name sizes rows r h =
      let first =
      and_parts (is_loader_name r.name && is_none (number_of r.name rows))
      (has_room sizes rows (Loader r)) h in
      none-is (number_of r.name rows)
      (and_parts (is_loader_name r.name) (is_none (number_of r.name rows)) first.0).1

  pub new-few : (sizes : Sizes) (rows : List (Row P)) (r : LoaderRow)
      → is_new_loader sizes rows r ≡ true
      → slots_of_rows rows + slots_of_name r.name ≤ row_limit sizes
  new-few sizes rows r h =
      let last =
      (and_parts (is_loader_name r.name && is_none (number_of r.name rows))
      (has_room sizes rows (Loader r)) h).1 in
      leb-true (slots_of_rows rows + slots_of_name r.name) (row_limit sizes) last

  -- if there is room for a loader, fewer rows live than can
  pub fewer-rows : (sizes : Sizes) (rows : List (Row P)) (x : List ℕ)
      → slots_of_rows rows + slots_of_name x ≤ row_limit sizes → length rows < row_limit sizes
  fewer-rows sizes rows x few = omega (arith, few, rows-within rows, (slots-name x).0)

-- ---- the first broken rule of a class

pub on_rows-live : (live room fits : Bool) → live ≡ false
    → Some OnRows ≡ broken_of (live && room) fits
on_rows-live true room fits e = absurd (cc)
on_rows-live false room fits e = refl

pub on_rows-room : (live room fits : Bool) → room ≡ false
    → Some OnRows ≡ broken_of (live && room) fits
on_rows-room true true fits e = absurd (cc)
on_rows-room true false fits e = refl
on_rows-room false room fits e = refl

pub on_chunks-inside : (live room inside place : Bool) → live ≡ true → room ≡ true
    → inside ≡ false → Some OnChunks ≡ broken_of (live && room) (inside && place)
on_chunks-inside true true true place l r i = absurd (cc)
on_chunks-inside true true false place l r i = refl
on_chunks-inside true false inside place l r i = absurd (cc)
on_chunks-inside false room inside place l r i = absurd (cc)

pub on_chunks-place : (live room inside place : Bool) → live ≡ true → room ≡ true → place ≡ false
    → Some OnChunks ≡ broken_of (live && room) (inside && place)
on_chunks-place true true true true l r p = absurd (cc)
on_chunks-place true true true false l r p = refl
on_chunks-place true true false place l r p = refl
on_chunks-place true false inside place l r p = absurd (cc)
on_chunks-place false room inside place l r p = absurd (cc)

pub on_none : (live room inside place : Bool) → live ≡ true → room ≡ true → inside ≡ true
    → place ≡ true → None ≡ broken_of (live && room) (inside && place)
on_none true true true true l r i p = refl
on_none true true true false l r i p = absurd (cc)
on_none true true false place l r i p = absurd (cc)
on_none true false inside place l r i p = absurd (cc)
on_none false room inside place l r i p = absurd (cc)

pub inside-chunk : (sizes : Sizes) (r : ClassRow) → is_inside sizes r ≡ true
    → (is_chunk sizes r.place.chunk ≡ true) × (1 ≤ r.place.words)
inside-chunk sizes r h =
    let p = and_parts (is_chunk sizes r.place.chunk && nat_le 1 r.place.words)
    (nat_le (r.place.offset + r.place.words) (chunk_size r.place.chunk.order)) h in
    let q = and_parts (is_chunk sizes r.place.chunk) (nat_le 1 r.place.words) p.0 in
    (q.0, grind (arith, nat_tests))

pub inside-few : (sizes : Sizes) (r : ClassRow) → is_inside sizes r ≡ true → sizes.top ≤ 12
    → r.place.offset + r.place.words ≤ 524288
inside-few sizes r h top =
    let c = r.place.chunk in
    let p = and_parts (is_chunk sizes c && nat_le 1 r.place.words)
    (nat_le (r.place.offset + r.place.words) (chunk_size c.order)) h in
    let fits : r.place.offset + r.place.words ≤ chunk_size c.order =
    leb-true (r.place.offset + r.place.words) (chunk_size c.order) p.1 in
    let chunk = (and_parts (is_chunk sizes c) (nat_le 1 r.place.words) p.0).0 in
    let three =
    (and_parts (nat_le c.order sizes.top && nat_lt c.root sizes.roots
    && (c.at % chunk_size c.order == 0))
    (nat_le (c.at + chunk_size c.order) (chunk_size sizes.top)) chunk).0 in
    let two = (and_parts (nat_le c.order sizes.top && nat_lt c.root sizes.roots)
    (c.at % chunk_size c.order == 0) three).0 in
    let order : c.order ≤ sizes.top =
    leb-true c.order sizes.top
    (and_parts (nat_le c.order sizes.top) (nat_lt c.root sizes.roots) two).0 in
    let small : c.order ≤ 12 = omega (arith, order, top) in
    let size : 2 ^ c.order ≤ 2 ^ 12 = pow-le-pow_right {n = 2} (omega arith) small in
    omega (arith, fits, size)

-- ---- the rule of an entry with one test

pub on_rows-unless : (t : Bool) → t ≡ false → Some OnRows ≡ cond t None (Some OnRows)
on_rows-unless true e = absurd (cc)
on_rows-unless false e = refl

pub none-where : (t : Bool) → t ≡ true → None ≡ cond t None (Some OnRows)
none-where true e = refl
none-where false e = absurd (cc)

pub on_chunks-unless : (t : Bool) → t ≡ false → Some OnChunks ≡ cond t None (Some OnChunks)
on_chunks-unless true e = absurd (cc)
on_chunks-unless false e = refl

pub none-if : (t : Bool) → t ≡ true → None ≡ cond t None (Some OnChunks)
none-if true e = refl
none-if false e = absurd (cc)

-- ---- the first broken rule of a move

module _ {P : Type 0} where
  pub move-no_room : (sizes : Sizes) (rows : List (Row P)) (e : Move) (l : LastChunk)
      → last_of e.loader rows ≡ Some l → has_room_for sizes l e ≡ false
      → move_fits sizes rows e ≡ false
  move-no_room sizes rows e l last none = move-is sizes rows e l last ∙ ap
      (λ (t : Bool). t && is_unused e.to rows) none

and-true : (a b : Bool) → a ≡ true → (a && b) ≡ b
and-true true b h = refl
and-true false b h = absurd (cc)

room-chunk : (sizes : Sizes) (l : LastChunk) (e : Move) → has_room_for sizes l e ≡ true
    → (l.chunk ≡ e.from) × (is_chunk sizes e.to ≡ true)
room-chunk sizes l e h =
    let p = and_parts (same_chunk l.chunk e.from && is_chunk sizes e.to)
    (nat_le l.used (chunk_size e.to.order)) h in
    let q = and_parts (same_chunk l.chunk e.from) (is_chunk sizes e.to) p.0 in
    (same_chunk-true l.chunk e.from q.0, q.1)

pub room-from : (sizes : Sizes) (l : LastChunk) (e : Move) → has_room_for sizes l e ≡ true
    → l.chunk ≡ e.from
room-from sizes l e h = (room-chunk sizes l e h).0

module _ {P : Type 0} where
  pub move-used : (sizes : Sizes) (rows : List (Row P)) (p : FreeSpace) (e : Move) (l : LastChunk)
      → AreLiveRows sizes rows p → last_of e.loader rows ≡ Some l → has_room_for sizes l e ≡ true
      → (¬ IsFreeChunk p e.to)
      → move_fits sizes rows e ≡ false
  move-used sizes rows p e l h last room taken =
      move-is sizes rows e l last ∙ and-true (has_room_for sizes l e) (is_unused e.to rows) room
      ∙ not-true (is_unused e.to rows)
      (λ unused. taken ((free-unused sizes rows p e.to h).1
      ((room-chunk sizes l e room).1, unused)))

  pub move-fits : (sizes : Sizes) (rows : List (Row P)) (p : FreeSpace) (e : Move) (l : LastChunk)
      → AreLiveRows sizes rows p → last_of e.loader rows ≡ Some l → has_room_for sizes l e ≡ true
      → IsFreeChunk p e.to
      → move_fits sizes rows e ≡ true
  move-fits sizes rows p e l h last room free =
      move-is sizes rows e l last ∙ and-true (has_room_for sizes l e) (is_unused e.to rows) room
      ∙ ((free-unused sizes rows p e.to h).0 free).1

-- ---- numbers that continue

all-tested : (n : ℕ) (ns : List ℕ) → list_all (λ u. nat_lt u n) ns ≡ true → AllByRecursion
    (λ u. u < n) ns
all-tested n [] h = tt
all-tested n (u ∷ ns) h = let p = and_parts (nat_lt u n) (list_all
    (λ u. nat_lt u n) ns) h in (ltb-true u n p.0, all-tested n ns p.1)

module _ {P : Type 0} where
  pub above-all : (rows : List (Row P)) (n : ℕ) → is_above n rows ≡ true → AllByRecursion
      (λ u. u < n) (numbers_in rows)
  above-all rows n h = all-tested n (numbers_in rows) h
