-- The cache after a class.
-- For `Front::add_loader`, `Front::define`, `Front::restore` and others.
use Rattle.std.proofs.Common.{◌≡◌, ℕ, ◌+◌, ◌%◌, ◌^◌, ◌<◌, ◌≤◌, Bool, true, false, cond, not, List}
use Rattle.std.proofs.Common.{[], ◌∷◌, ◌++◌, length, map, Some, None, inl, inr, refl, sym, ap}
use Rattle.std.proofs.Common.{subst, ◌∙◌, arith, eqb, IsSome}
use Rattle.std.specs.Prelude.{◌&&◌, ◌||◌, ◌↔◌, unwrap_or, nat_le, nat_lt, is_some, filter, sum}
use Rattle.std.specs.FinMap as fin
use Rattle.std.proofs.lemmas.Bool.{eqb-true, eq-eqb, ltb-true, leb-true, and_parts}
use Rattle.std.proofs.Math.Pow.{pow_mono}
use Rattle.std.specs.Cmp.Lexicographic.{bytes_decides}
use Rattle.std.specs.Str.{bytes_eq}
use Rattle.std.specs.List.{list_any}
use Rattle.std.specs.Option.{option_map_or}
use Rattle.cm_pool.specs.Geometry.{Sizes, IsGeometry}
use Rattle.cm_pool.specs.Chunks.{chunk_size, same_chunk}
use Rattle.cm_pool.specs.declared.chunk.Chunk.{Chunk}
use Rattle.cm_pool.specs.FreeSpace.{FreeSpace, IsFreeSpace}
use Rattle.cm_pool.specs.declared.place.Place.{Place}
use Rattle.cm_arena.specs.Chains.{Filled}
use Rattle.cm_arena.specs.Placing.{Places, Fetches}
use Rattle.cm_layout.specs.declared.class_row.ClassRow.{ClassRow}
use Rattle.cm_layout.specs.declared.row.Row.{Row}
use Rattle.cm_layout.specs.declared.row.Row.TheVariants.{Loader, Class}
use Rattle.cm_layout.specs.declared.entry.Entry.TheVariants as entry
use Rattle.cm_layout.specs.Rows.{name_of, number_of, bare}
use Rattle.cm_layout.specs.Rows.{last_chunk}
use Rattle.cm_layout.specs.Rules.{is_live, meets, class_fits, is_chunk, has_place}
use Rattle.cm_layout.specs.Slots.{FitsClass}
use Rattle.cm_layout.specs.Frames.{AreApart, BareRow}
use Rattle.cm_layout.specs.Laws.{LoadersAreOwn}
use Rattle.cm_layout.specs.Loaders.{LoadersDiffer}
use Rattle.cm_layout.proofs.{classes-bare, each-append}
use Rattle.cm_space.specs.Space.{SpaceState, IsKnown, arena_of, with_arena}
use Rattle.cm_space.specs.Ownership.{IsSpace}
use Rattle.cm_state.specs.State.{words_show}
use Rattle.cm_state.specs.Entries.{MayFollow}
use Rattle.cm_group.specs.Groups.{IsRightRecord}
use Rattle.cm_front.specs.Chains.{chain_of}
use Rattle.cm_front.specs.Laws.{IsPlaceOf, PlacesKeepRules}
use Rattle.cm_front.specs.Front.{FrontState, IsFront}
use Rattle.cm_front.proofs.RowFacts.{chain_bare, name_with_class, chain_of_others}
use Rattle.cm_front.proofs.Spaces.{got_same, got_other}
use Rattle.cm_front.proofs.Causes.{IsFree}
use Rattle.cm_front.proofs.Goings.{Keeps, due_later, room_left, live_past}

-- ---- loaders by name and number

pub name_bare : {A : Type 0} (u : ℕ) (rows : List (Row A)) → name_of u (bare rows) ≡ name_of u rows
name_bare u [] = refl
name_bare u (Loader r ∷ rows) = ap (cond (eqb r.number u) (Some r.name)) (name_bare u rows)
name_bare u (Class r p ∷ rows) = name_bare u rows

pub number_bare : {A : Type 0} (x : List ℕ) (rows : List (Row A))
    → number_of x (bare rows) ≡ number_of x rows
number_bare x [] = refl
number_bare x (Loader r ∷ rows) = ap (cond (bytes_eq r.name x) (Some r.number)) (number_bare x rows)
number_bare x (Class r p ∷ rows) = number_bare x rows

same_some : (n k : ℕ) → Some n ≡ Some k → n ≡ k
same_some n k e = cc

pub number_lives : {A : Type 0} (x : List ℕ) (u : ℕ) (rows : List (Row A))
    → number_of x rows ≡ Some u
    → is_live u rows ≡ true
number_lives x u [] e = absurd (cc)
number_lives x u (Loader r ∷ rows) e =
    by_name (λ h. number_lives x u rows h) (bytes_eq r.name x) e
  where
    by_number : (t : Bool) → is_live u rows ≡ true
        → is_some (cond t (Some r.name) (name_of u rows)) ≡ true
    by_number true h = refl
    by_number false h = h

    by_name : (number_of x rows ≡ Some u → is_live u rows ≡ true)
        → (t : Bool) → cond t (Some r.number) (number_of x rows) ≡ Some u
        → is_some (cond (eqb r.number u) (Some r.name) (name_of u rows)) ≡ true
    by_name rest true h = rw (eq-eqb r.number u (same_some r.number u h)) refl
    by_name rest false h = by_number (eqb r.number u) (rest h)
number_lives x u (Class r p ∷ rows) e = number_lives x u rows e

named_by : {A : Type 0} (x : List ℕ) (u : ℕ) (rows : List (Row A)) → LoadersDiffer rows
    → number_of x rows ≡ Some u → name_of u rows ≡ Some x
named_by x u [] d e = absurd (cc)
named_by {A} x u (Loader r ∷ rows) d e =
    by_name (λ h. named_by x u rows d.2 h) (bytes_eq r.name x) refl e
  where
    none_lives : name_of r.number rows ≡ None → is_live u rows ≡ true → r.number ≡ u → ⊥
    none_lives n l same =
        true_not (sym l ∙ ap is_some (ap (λ k. name_of k rows) (sym same) ∙ n))
      where
        true_not : true ≡ false → ⊥
        true_not p = absurd (cc)

    by_number : (number_of x rows ≡ Some u → name_of u rows ≡ Some x)
        → (t : Bool) → eqb r.number u ≡ t → number_of x rows ≡ Some u
        → cond t (Some r.name) (name_of u rows) ≡ Some x
    by_number rest true t h =
        absurd (none_lives d.0 (number_lives x u rows h) (eqb-true r.number u t))
    by_number rest false t h = rest h

    by_name : (number_of x rows ≡ Some u → name_of u rows ≡ Some x)
        → (t : Bool) → bytes_eq r.name x ≡ t → cond t (Some r.number) (number_of x rows) ≡ Some u
        → cond (eqb r.number u) (Some r.name) (name_of u rows) ≡ Some x
    by_name rest true t h =
        rw (eq-eqb r.number u (same_some r.number u h)) (ap Some ((bytes_decides r.name x).0 t))
    by_name rest false t h = by_number rest (eqb r.number u) refl h
named_by x u (Class r p ∷ rows) d e = named_by x u rows d e

pub name_is : LoadersAreOwn → (s : FrontState) (x : List ℕ) (u : ℕ) → IsFront s
    → number_of x s.rows ≡ Some u → name_of u s.rows ≡ Some x
name_is own s x u f e =
    sym (name_bare u s.rows)
    ∙ named_by x u (bare s.rows) (own s.sizes s.number (bare s.rows) f.rows.live).differ
    (number_bare x s.rows ∙ e)

-- ---- places

-- whether a class's row fits its place depends only on the rows of classes
fits_bare : {A : Type 0} (sizes : Sizes) (rows : List (Row A)) (r : ClassRow)
    → class_fits sizes rows r ≡ class_fits sizes (bare rows) r
fits_bare {A} sizes rows r = ap by_classes (sym (classes-bare rows))
  where
    by_classes : List ClassRow → Bool
    by_classes classes =
        is_chunk sizes r.place.chunk && nat_le 1 r.place.words
        && nat_le (r.place.offset + r.place.words) (chunk_size r.place.chunk.order)
        && ((option_map_or (λ last. same_chunk last r.place.chunk)
        (last_chunk r.loader classes) false
        && eqb r.place.offset (sum (map (λ (k : ClassRow). k.place.words)
        (filter (λ (k : ClassRow). same_chunk k.place.chunk r.place.chunk) classes))))
        || (eqb r.place.offset 0
        && not (list_any (meets r.place.chunk) (map (λ (k : ClassRow). k.place.chunk) classes))))

fits_slot : (sizes : Sizes) (rows : List BareRow) (r : ClassRow) → IsGeometry sizes
    → r.loader < 2 ^ 64 → class_fits sizes rows r ≡ true → FitsClass r
fits_slot sizes rows r g loader h =
    let c = r.place.chunk in
    let chunk = is_chunk sizes c in
    let words = nat_le 1 r.place.words in
    let within = nat_le (r.place.offset + r.place.words) (chunk_size c.order) in
    let front = and_parts (chunk && words && within) (has_place rows r) h in
    let parts = and_parts (chunk && words) within front.0 in
    let small = nat_le c.order sizes.top in
    let root = nat_lt c.root sizes.roots in
    let aligned = eqb (c.at % chunk_size c.order) 0 in
    let inside = nat_le (c.at + chunk_size c.order) (chunk_size sizes.top) in
    let last = and_parts (small && root && aligned) inside (and_parts chunk words parts.0).0 in
    let begin = and_parts small root (and_parts (small && root) aligned last.0).0 in
    let order = leb-true c.order sizes.top begin.0 in
    let below = ltb-true c.root sizes.roots begin.1 in
    let end = leb-true (c.at + chunk_size c.order) (chunk_size sizes.top) last.1 in
    let used = leb-true (r.place.offset + r.place.words) (chunk_size c.order) parts.1 in
    let top : 2 ^ sizes.top ≤ 2 ^ 12 = pow_mono g.top_to in
    let top_to = g.top_to in
    let roots_to = g.roots_to in
    record {
      words = omega (arith, used, end, top);
      loader = loader;
      chunk = record {
        root = omega (arith, below, roots_to);
        order = omega (arith, order, top_to);
        at = omega (arith, end, top);
      };
      offset = omega (arith, used, end, top);
    }

fetched_geometry : (old : FreeSpace) (wanted need : ℕ) (c : Chunk) (left : FreeSpace)
    → Fetches old wanted need c left → left.geometry ≡ old.geometry
fetched_geometry old wanted need c left (inl f) = ap (λ (p : FreeSpace). p.geometry) f.left
fetched_geometry old wanted need c left (inr (inl f)) = ap (λ (p : FreeSpace). p.geometry) f.left
fetched_geometry old wanted need c left (inr (inr f)) = ap (λ (p : FreeSpace). p.geometry) f.left

placed_geometry : (chain : List Filled) (old : FreeSpace) (words : ℕ) (place : Place)
    (next : List Filled) (left : FreeSpace) → Places chain old words place next left
    → left.geometry ≡ old.geometry
placed_geometry chain old words place next left (inl p) = ap (λ (p : FreeSpace). p.geometry) p.1
placed_geometry chain old words place next left (inr f) =
    fetched_geometry old _ f.need place.chunk left f.fetches

-- ---- a class

bare_class : (rows : List (Row (List ℕ))) (r : ClassRow) (words : List ℕ)
    → bare (rows ++ Class r words ∷ []) ≡ bare rows ++ Class r (tt {0}) ∷ []
bare_class [] r words = refl
bare_class (Loader s ∷ rows) r words = ap (λ l. Loader s ∷ l) (bare_class rows r words)
bare_class (Class s p ∷ rows) r words = ap (λ l. Class s (tt {0}) ∷ l) (bare_class rows r words)

-- a class has got its place
pub record IsPlaced (s : FrontState) (u : ℕ) (words : List ℕ) (place : Place) (chain : List Filled)
    (left : FreeSpace) : Type 0 where
  pub places : Places (arena_of s.space u) s.space.pool (length words) place chain left
  pub some : 1 ≤ length words

abbrev pub with_chain : SpaceState → ℕ → List Filled → FreeSpace → SpaceState
with_chain s u chain left = record (with_arena s u chain) { pool = left }

place_of : PlacesKeepRules → (s : FrontState) (u : ℕ) (words : List ℕ) (place : Place)
    (chain : List Filled) (left : FreeSpace) → IsFront s → IsPlaced s u words place chain left
    → IsPlaceOf s.sizes (bare s.rows) u (length words) place chain
place_of keep s u words place chain left f p =
    keep s.sizes s.number (bare s.rows) s.space u (length words) place chain left f.rows.live
    (subst (λ l. AreApart l) (sym (classes-bare s.rows)) f.rows.apart) f.space p.some p.places

may_class : PlacesKeepRules → LoadersAreOwn → (s : FrontState) (x words : List ℕ) (u : ℕ)
    (place : Place) (chain : List Filled) (left : FreeSpace) → IsFront s → IsFree s x words u
    → IsPlaced s u words place chain left
    → MayFollow words_show s.sizes s.number s.rows
    (entry.Live (Class (record { loader = u; place = place }) words))
may_class keep own s x words u place chain left f free p =
    let r : ClassRow = record { loader = u; place = place } in
    let at = place_of keep s u words place chain left f p in
    let live = number_lives x u s.rows free.asked.found in
    let before = live_past own s f u live in
    let numbers = f.numbers in
    let fits : class_fits s.sizes s.rows r ≡ true = fits_bare s.sizes s.rows r ∙ at.fits in
    record {
      fits = fits_slot s.sizes (bare s.rows) r f.lawful (omega (arith, before, numbers)) at.fits;
      keeps = rw live (rw (room_left s 1 free.room) (rw fits refl));
      new = (free.new, sym at.amount);
    }

pub turned : (a b : ℕ) → eqb a b ≡ false → eqb b a ≡ false
turned a b d = by_eq (eqb b a) refl
  where
    by_eq : (t : Bool) → eqb b a ≡ t → t ≡ false
    by_eq true e = sym (eq-eqb a b (sym (eqb-true b a e))) ∙ d
    by_eq false e = refl

pub known_class : (rows : List (Row (List ℕ))) (space : SpaceState) (r : ClassRow) (words : List ℕ)
    (chain : List Filled) (left : FreeSpace)
    → ((u : ℕ) → IsKnown space u ↔ (is_live u rows ≡ true)) → is_live r.loader rows ≡ true
    → (v : ℕ)
    → IsKnown (with_chain space r.loader chain left) v
    ↔ (is_live v (rows ++ Class r words ∷ []) ≡ true)
known_class rows space r words chain left known live v = by_test (eqb v r.loader) refl
  where
    live_is : is_live v (rows ++ Class r words ∷ []) ≡ is_live v rows
    live_is = ap is_some (name_with_class v rows r words)

    by_test : (t : Bool) → eqb v r.loader ≡ t
        → IsKnown (with_chain space r.loader chain left) v
        ↔ (is_live v (rows ++ Class r words ∷ []) ≡ true)
    by_test true e =
        let same : r.loader ≡ v = sym (eqb-true v r.loader e) in
        let there : IsKnown (with_chain space r.loader chain left) v =
        subst (λ k. IsSome (fin.get (with_arena space r.loader chain).arenas k)) same
        (subst (λ o. IsSome o) (sym (got_same space r.loader chain)) refl) in
        (λ _. live_is ∙ subst (λ k. is_live k rows ≡ true) same live, λ _. there)
    by_test false e =
        let other = got_other space r.loader v chain e in (
          λ k. live_is ∙ (known v).0 (subst (λ o. IsSome o) other k),
          λ l. subst (λ o. IsSome o) (sym other) ((known v).1 (sym live_is ∙ l)),
        )

pub chains_class : (rows : List (Row (List ℕ))) (space : SpaceState) (r : ClassRow) (words : List ℕ)
    (chain : List Filled) (left : FreeSpace) → ((u : ℕ) → arena_of space u ≡ chain_of u (bare rows))
    → chain ≡ chain_of r.loader (bare rows ++ Class r (tt {0}) ∷ []) → (v : ℕ)
    → arena_of (with_chain space r.loader chain left) v
    ≡ chain_of v (bare (rows ++ Class r words ∷ []))
chains_class rows space r words chain left chains is v = by_test (eqb v r.loader) refl
  where
    by_test : (t : Bool) → eqb v r.loader ≡ t
        → arena_of (with_chain space r.loader chain left) v
        ≡ chain_of v (bare (rows ++ Class r words ∷ []))
    by_test true e =
        let same : v ≡ r.loader = eqb-true v r.loader e in
        ap (λ k. arena_of (with_chain space r.loader chain left) k) same
        ∙ (ap (λ o. unwrap_or o []) (got_same space r.loader chain)
        ∙ (is ∙ (ap (chain_of r.loader) (sym (bare_class rows r words))
        ∙ ap (λ k. chain_of k (bare (rows ++ Class r words ∷ []))) (sym same))))
    by_test false e =
        ap (λ o. unwrap_or o []) (got_other space r.loader v chain e)
        ∙ (chains v
        ∙ (chain_bare v rows
        ∙ (sym (chain_of_others v rows r words (turned v r.loader e))
        ∙ sym (chain_bare v (rows ++ Class r words ∷ [])))))

pub keeps_class : PlacesKeepRules → LoadersAreOwn → (s : FrontState) (x words : List ℕ) (u : ℕ)
    (place : Place) (chain : List Filled) (left : FreeSpace) → IsFront s → IsFree s x words u
    → IsRightRecord words → IsPlaced s u words place chain left
    → IsSpace (record (with_arena s.space u chain) { pool = left }) → IsFreeSpace left
    → Keeps s (entry.Live (Class (record { loader = u; place = place }) words))
    (record (with_arena s.space u chain) { pool = left })
keeps_class keep own s x words u place chain left f free right p is pool =
    let r : ClassRow = record { loader = u; place = place } in
    let at = place_of keep s u words place chain left f p in
    let live = number_lives x u s.rows free.asked.found in
    record {
      may = may_class keep own s x words u place chain left f free p;
      right = each-append IsRightRecord s.rows (Class r words ∷ []) f.right (right, tt);
      matches = record {
        is = is;
        pool = pool;
        geometry =
            placed_geometry (arena_of s.space u) s.space.pool (length words) place chain
            left p.places
            ∙ f.space.geometry;
        chains = chains_class s.rows s.space r words chain left f.space.chains at.chain_is;
      };
      known = known_class s.rows s.space r words chain left f.known live;
      waiting = due_later s.learnt s.number s.space.waiting f.waiting;
    }
