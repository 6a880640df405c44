-- The cache after a move.
-- For `Front::tighten_chunk`.
use Rattle.std.proofs.Common.{◌≡◌, ℕ, ◌+◌, ◌≤◌, Bool, true, false, cond, List, [], ◌∷◌, ◌++◌}
use Rattle.std.proofs.Common.{map, Some, inl, inr, refl, sym, ap, subst, ◌∙◌, arith, eqb}
use Rattle.std.proofs.Common.{IsSome, pow_mono}
use Rattle.std.specs.Prelude.{◌&&◌, ◌↔◌, ◌^◌, unwrap_or, is_some, nat_le}
use Rattle.std.specs.FinMap as fin
use Rattle.std.specs.Option.{option_map_or}
use Rattle.std.specs.List.{AllByRecursion}
use Rattle.std.proofs.lemmas.Bool.{eqb-true, le-leb}
use Rattle.cm_pool.specs.declared.chunk.Chunk.{Chunk}
use Rattle.cm_pool.specs.declared.place.Place.{Place}
use Rattle.cm_pool.specs.Chunks.{chunk_size, same_chunk, Meets, IsBlock}
use Rattle.cm_pool.specs.FreeSpace.{FreeSpace, IsFreeSpace, IsUsedChunk}
use Rattle.cm_pool.specs.Geometry.{Sizes, IsGeometry}
use Rattle.cm_pool.specs.Lists.{Among}
use Rattle.cm_pool.proofs.{same_chunk-true, same_chunk-itself, same_chunk-false, meets-itself}
use Rattle.cm_arena.specs.Chains.{Filled, chain_chunks, last_of}
use Rattle.cm_arena.specs.Placing.{with_place}
use Rattle.cm_arena.specs.Tightening.{with_last, Tightens}
use Rattle.cm_layout.specs.declared.class_row.ClassRow.{ClassRow}
use Rattle.cm_layout.specs.declared.row.Row.{Row}
use Rattle.cm_layout.specs.declared.row.Row.TheVariants.{Loader, Class}
use Rattle.cm_layout.specs.declared.entry.Entry.TheVariants as entry
use Rattle.cm_layout.specs.Rows.{name_of, classes_in, bare, moved, used_words, last_chunk, kept_on}
use Rattle.cm_layout.specs.Rules.{is_live, is_chunk, is_unused, is_last_chunk, move_fits}
use Rattle.cm_layout.specs.Slots.{FitsChunk}
use Rattle.cm_layout.specs.Frames.{AreApart, BareRow}
use Rattle.cm_layout.specs.Laws.{LoadersAreOwn}
use Rattle.cm_layout.proofs.{classes-bare, apart-unused, rule-bare, each-moved}
use Rattle.cm_group.specs.Groups.{IsRightRecord, AreRight}
use Rattle.cm_rows.proofs.{moved_class, classes-moved}
use Rattle.cm_space.specs.Space.{SpaceState, IsKnown, arena_of, with_arena}
use Rattle.cm_space.specs.Ownership.{IsSpace, WaitsFor}
use Rattle.cm_space.specs.Laws.{OwnedIsUsed, OwnedOrWaiting}
use Rattle.cm_space.specs.Tightening.{MovesChunk}
use Rattle.cm_front.specs.Chains.{chain_from, chain_of}
use Rattle.cm_front.specs.Front.{FrontState, IsFront, IsDueLater}
use Rattle.cm_front.proofs.Adopting.{last_is}
use Rattle.cm_front.proofs.Causes.{IsAsked}
use Rattle.cm_front.proofs.Goings.{Keeps, due_later, live_past}
use Rattle.cm_front.proofs.GoingsClass.{number_lives}
use Rattle.cm_front.proofs.GoingsUnload.{due_more}
use Rattle.cm_front.proofs.Groups.{follow_from}
use Rattle.cm_front.proofs.Places.{and_true, is_chunk_of, free-fetched, some-top, last-among}
use Rattle.cm_front.proofs.RowFacts.{chain_bare}
use Rattle.cm_front.proofs.Spaces.{got_same, got_other}
use Rattle.cm_front.proofs.Tops.{chains_end_at_top, chains_have_chunks}

-- ---- chains with another chunk in the place of one

abbrev renamed : Chunk → Chunk → Chunk → Chunk
renamed from to c = cond (same_chunk c from) to c

abbrev renamed_in : Chunk → Chunk → Filled → Filled
renamed_in from to f = record { chunk = renamed from to f.chunk; used = f.used }

-- no chunk of a list is this one
abbrev IsNew : Chunk → List Chunk → Type 0
IsNew c chunks = (d : Chunk) → Among d chunks → same_chunk d c ≡ false

-- chunks are distinguished as before, if the new one isn't among them
same-renamed : (from to c d : Chunk) → same_chunk c to ≡ false → same_chunk d to ≡ false
    → same_chunk (renamed from to c) (renamed from to d) ≡ same_chunk c d
same-renamed from to c d c_new d_new =
    by_tests (same_chunk c from) refl (same_chunk d from) refl
  where
    turned : (a b : Chunk) → same_chunk a b ≡ false → same_chunk b a ≡ false
    turned a b e =
        same_chunk-false b a (λ same. not_same
        (ap (λ k. same_chunk a k) same ∙ same_chunk-itself a) e)
      where
        not_same : same_chunk a b ≡ true → same_chunk a b ≡ false → ⊥
        not_same p q = absurd (let no : true ≡ false = sym p ∙ q in cc)

    differ : (a b : Chunk) → same_chunk a from ≡ true → same_chunk b from ≡ false
        → same_chunk a b ≡ false
    differ a b p q =
        same_chunk-false a b (λ same. not_same (ap (λ k. same_chunk k from) (sym same) ∙ p) q)
      where
        not_same : same_chunk b from ≡ true → same_chunk b from ≡ false → ⊥
        not_same x y = absurd (let no : true ≡ false = sym x ∙ y in cc)

    by_tests : (s : Bool) → same_chunk c from ≡ s → (t : Bool) → same_chunk d from ≡ t
        → same_chunk (cond s to c) (cond t to d) ≡ same_chunk c d
    by_tests true p true q =
        same_chunk-itself to
        ∙ sym (ap (λ k. same_chunk k d) (same_chunk-true c from p)
        ∙ ap (λ k. same_chunk from k) (same_chunk-true d from q) ∙ same_chunk-itself from)
    by_tests true p false q = turned d to d_new ∙ sym (differ c d p q)
    by_tests false p true q = c_new ∙ sym (turned d c (differ d c q p))
    by_tests false p false q = refl

place-renamed : (from to : Chunk) (chain : List Filled) (place : Place)
    → IsNew to (chain_chunks chain)
    → same_chunk place.chunk to ≡ false
    → with_place (map (renamed_in from to) chain)
    (record place { chunk = renamed from to place.chunk })
    ≡ map (renamed_in from to) (with_place chain place)
place-renamed from to [] place new other = refl
place-renamed from to (f ∷ []) place new other =
    ap (λ (t : Bool). cond t
    (record { chunk = renamed from to f.chunk; used = f.used + place.words } ∷ [])
    (renamed_in from to f
    ∷ record { chunk = renamed from to place.chunk; used = place.words } ∷ []))
    (same-renamed from to f.chunk place.chunk (new f.chunk (inl refl)) other)
    ∙ by_test (same_chunk f.chunk place.chunk)
  where
    by_test : (t : Bool)
        → cond t (record { chunk = renamed from to f.chunk; used = f.used + place.words } ∷ [])
        (renamed_in from to f
        ∷ record { chunk = renamed from to place.chunk; used = place.words } ∷ [])
        ≡ map (renamed_in from to)
        (cond t (record { chunk = f.chunk; used = f.used + place.words } ∷ [])
        (f ∷ record { chunk = place.chunk; used = place.words } ∷ []))
    by_test true = refl
    by_test false = refl
place-renamed from to (f ∷ g ∷ rest) place new other =
    ap (λ l. renamed_in from to f ∷ l)
    (place-renamed from to (g ∷ rest) place (λ d m. new d (inr m)) other)

still-new : (to : Chunk) (chain : List Filled) (place : Place) → IsNew to (chain_chunks chain)
    → same_chunk place.chunk to ≡ false → IsNew to (chain_chunks (with_place chain place))
still-new to [] place new other d (inl e) = ap (λ k. same_chunk k to) e ∙ other
still-new to [] place new other d (inr none) = absurd none
still-new to (f ∷ []) place new other d m = by_test (same_chunk f.chunk place.chunk) m
  where
    by_test : (t : Bool) → Among d (chain_chunks
        (cond t (record { chunk = f.chunk; used = f.used + place.words } ∷ [])
        (f ∷ record { chunk = place.chunk; used = place.words } ∷ [])))
        → same_chunk d to ≡ false
    by_test true (inl e) = ap (λ k. same_chunk k to) e ∙ new f.chunk (inl refl)
    by_test true (inr none) = absurd none
    by_test false (inl e) = ap (λ k. same_chunk k to) e ∙ new f.chunk (inl refl)
    by_test false (inr (inl e)) = ap (λ k. same_chunk k to) e ∙ other
    by_test false (inr (inr none)) = absurd none
still-new to (f ∷ g ∷ rest) place new other d (inl e) =
    ap (λ k. same_chunk k to) e ∙ new f.chunk (inl refl)
still-new to (f ∷ g ∷ rest) place new other d (inr m) =
    still-new to (g ∷ rest) place (λ k n. new k (inr n)) other d m

-- a row's place on the other chunk
place-moved : (from to : Chunk) (r : ClassRow)
    → (moved_class from to r).place ≡ record r.place { chunk = renamed from to r.place.chunk }
place-moved from to r = by_test (same_chunk r.place.chunk from)
  where
    by_test : (t : Bool)
        → (cond t (record r { place = record r.place { chunk = to } }) r).place
        ≡ record r.place { chunk = cond t to r.place.chunk }
    by_test true = refl
    by_test false = refl

loader-moved : (from to : Chunk) (r : ClassRow) → (moved_class from to r).loader ≡ r.loader
loader-moved from to r = by_test (same_chunk r.place.chunk from)
  where
    by_test : (t : Bool)
        → (cond t (record r { place = record r.place { chunk = to } }) r).loader ≡ r.loader
    by_test true = refl
    by_test false = refl

-- the chain of rows after a move is the one before it, with the new chunk in the old one's place
from-renamed : (from to : Chunk) (chain : List Filled) (u : ℕ) (classes : List ClassRow)
    → IsNew to (chain_chunks chain)
    → ((r : ClassRow) → Among r classes → same_chunk r.place.chunk to ≡ false)
    → chain_from (map (renamed_in from to) chain) u (map (moved_class from to) classes)
    ≡ map (renamed_in from to) (chain_from chain u classes)
from-renamed from to chain u [] new others = refl
from-renamed from to chain u (r ∷ classes) new others =
    ap (λ (v : ℕ). cond (eqb v u)
    (chain_from (with_place (map (renamed_in from to) chain) (moved_class from to r).place) u
    (map (moved_class from to) classes))
    (chain_from (map (renamed_in from to) chain) u (map (moved_class from to) classes)))
    (loader-moved from to r)
    ∙ by_test (eqb r.loader u)
    (from-renamed from to (with_place chain r.place) u classes
    (still-new to chain r.place new other) (λ s m. others s (inr m)))
    (from-renamed from to chain u classes new (λ s m. others s (inr m)))
  where
    other : same_chunk r.place.chunk to ≡ false
    other = others r (inl refl)

    placed : with_place (map (renamed_in from to) chain) (moved_class from to r).place
        ≡ map (renamed_in from to) (with_place chain r.place)
    placed =
        ap (with_place (map (renamed_in from to) chain)) (place-moved from to r)
        ∙ place-renamed from to chain r.place new other

    by_test : (t : Bool)
        → chain_from (map (renamed_in from to) (with_place chain r.place)) u
        (map (moved_class from to) classes)
        ≡ map (renamed_in from to) (chain_from (with_place chain r.place) u classes)
        → chain_from (map (renamed_in from to) chain) u (map (moved_class from to) classes)
        ≡ map (renamed_in from to) (chain_from chain u classes)
        → cond t
        (chain_from (with_place (map (renamed_in from to) chain) (moved_class from to r).place) u
        (map (moved_class from to) classes))
        (chain_from (map (renamed_in from to) chain) u (map (moved_class from to) classes))
        ≡ map (renamed_in from to)
        (cond t (chain_from (with_place chain r.place) u classes) (chain_from chain u classes))
    by_test true here there =
        ap (λ l. chain_from l u (map (moved_class from to) classes)) placed ∙ here
    by_test false here there = there

chain-renamed : (from to : Chunk) (v : ℕ) (rows : List (Row (List ℕ)))
    → ((r : ClassRow) → Among r (classes_in rows) → same_chunk r.place.chunk to ≡ false)
    → chain_of v (moved from to rows) ≡ map (renamed_in from to) (chain_of v rows)
chain-renamed from to v rows others =
    ap (chain_from [] v) (classes-moved from to rows)
    ∙ from-renamed from to [] v (classes_in rows) (λ d none. absurd none) others

-- a chain without the chunk stays
renamed-stays : (from to : Chunk) (chain : List Filled) → IsNew from (chain_chunks chain)
    → map (renamed_in from to) chain ≡ chain
renamed-stays from to [] new = refl
renamed-stays from to (f ∷ rest) new =
    ap (λ (t : Bool). record { chunk = cond t to f.chunk; used = f.used }
    ∷ map (renamed_in from to) rest) (new f.chunk (inl refl))
    ∙ ap (λ l. f ∷ l) (renamed-stays from to rest (λ d m. new d (inr m)))

-- in a chain that ends with it, the last chunk is replaced
filled_with : Chunk → ℕ → Filled
filled_with c used = record { chunk = c; used = used }

renamed-last : (from to : Chunk) (used : ℕ) (chain : List Filled)
    → last_of chain ≡ Some (record { chunk = from; used = used })
    → IsNew from (chain_chunks (with_last chain to))
    → map (renamed_in from to) chain ≡ with_last chain to
unfolding filled_with
renamed-last from to used [] last new = absurd (cc)
renamed-last from to used (f ∷ []) last new =
    let here : f ≡ record { chunk = from; used = used } = cc in
    let same : same_chunk f.chunk from ≡ true =
    ap (λ (g : Filled). same_chunk g.chunk from) here ∙ same_chunk-itself from in
    ap (λ (t : Bool). filled_with (cond t to f.chunk) f.used ∷ []) same
renamed-last from to used (f ∷ g ∷ rest) last new =
    ap (λ (t : Bool). record { chunk = cond t to f.chunk; used = f.used }
    ∷ map (renamed_in from to) (g ∷ rest)) (new f.chunk (inl refl))
    ∙ ap (λ l. f ∷ l) (renamed-last from to used (g ∷ rest) last (λ d m. new d (inr m)))

-- ---- what rows say after it

-- the records that move are of classes that keep the rules
pub right-kept : (c : Chunk) (rows : List (Row (List ℕ))) → AreRight rows
    → AllByRecursion IsRightRecord (kept_on c rows)
right-kept c [] a = tt
right-kept c (Loader r ∷ rows) a = right-kept c rows a
right-kept c (Class r words ∷ rows) a =
    by_test (same_chunk r.place.chunk c) (right-kept c rows a.1)
  where
    by_test : (t : Bool) → AllByRecursion IsRightRecord (kept_on c rows)
        → AllByRecursion IsRightRecord (cond t (words ∷ kept_on c rows) (kept_on c rows))
    by_test true rest = (a.0, rest)
    by_test false rest = rest

name-moved : (from to : Chunk) (v : ℕ) (rows : List (Row (List ℕ)))
    → name_of v (moved from to rows) ≡ name_of v rows
name-moved from to v [] = refl
name-moved from to v (Loader r ∷ rows) =
    ap (cond (eqb r.number v) (Some r.name)) (name-moved from to v rows)
name-moved from to v (Class r words ∷ rows) =
    by_test (same_chunk r.place.chunk from) (name-moved from to v rows)
  where
    by_test : (t : Bool) → name_of v (moved from to rows) ≡ name_of v rows
        → name_of v (cond t (Class (record r { place = record r.place { chunk = to } }) words)
        (Class r words) ∷ moved from to rows)
        ≡ name_of v rows
    by_test true rest = rest
    by_test false rest = rest

-- ---- the move

-- a chunk of a region has numbers that a slot can hold
fits-block : (sizes : Sizes) (c : Chunk) → IsGeometry sizes → IsBlock sizes.top sizes.roots c
    → FitsChunk c
fits-block sizes c g b =
    let top : 2 ^ sizes.top ≤ 2 ^ 12 = pow_mono g.top_to in
    let inside = b.inside in
    let order = b.within_top in
    let root = b.in_a_root in
    let top_to = g.top_to in
    let roots_to = g.roots_to in
    record {
      root = omega (arith, root, roots_to);
      order = omega (arith, order, top_to);
      at = omega (arith, inside, top);
    }

-- What is used of the facts about spaces and rows.
pub record Known : Type 0 where
  pub own : LoadersAreOwn
  pub used : OwnedIsUsed
  pub apart : OwnedOrWaiting

-- the loader's tail has moved in the space
pub record IsMoved (s : FrontState) (u : ℕ) (from to : Chunk) (left : SpaceState) : Type 0 where
  pub moves : MovesChunk s.space u (s.number + 1) (record { from = from; to = to }) left
  pub is : IsSpace left
  pub pool : IsFreeSpace left.pool

module _ (known : Known) (s : FrontState) (x : List ℕ) (u : ℕ) (from to : Chunk) (left : SpaceState)
    (f : IsFront s) (asked : IsAsked s x u) (m : IsMoved s u from to left) where
  abbrev chain : List Filled
  chain = m.moves.chain

  abbrev tight : Tightens (arena_of s.space u) s.space.pool from to chain m.moves.pool
  tight = m.moves.tightens

  live : is_live u s.rows ≡ true
  live = number_lives x u s.rows asked.found

  -- the chunk that is left is that of the loader's last class
  last_used : IsUsedChunk s.space.pool from
  last_used =
      known.used s.space f.space.is u from
      (last-among (arena_of s.space u) (record { chunk = from; used = tight.may.used })
      tight.may.last)

  block_of : (c : Chunk) → IsBlock s.space.pool.geometry.top s.space.pool.geometry.roots c
      → IsBlock s.sizes.top s.sizes.roots c
  block_of c b = subst (λ (z : Sizes). IsBlock z.top z.roots c) f.space.geometry b

  from_block : IsBlock s.sizes.top s.sizes.roots from
  from_block = block_of from (record {
    within_top = last_used.block.within_top;
    in_a_root =
        let present = last_used.block.in_a_root in
        let few = f.space.pool.roots in
        omega (arith, present, few);
    aligned = last_used.block.aligned;
    inside = last_used.block.inside;
  })

  to_block : IsBlock s.sizes.top s.sizes.roots to
  to_block = block_of to (free-fetched s.space.pool to f.space.pool tight.may.first.free).block

  -- no row's record lies on the new chunk
  row_used : (r : ClassRow) → Among r (classes_in s.rows) → IsUsedChunk s.space.pool r.place.chunk
  row_used r among =
      known.used s.space f.space.is r.loader r.place.chunk
      (subst (λ (l : List Filled). Among r.place.chunk (chain_chunks l)) (sym (f.space.chains
      r.loader))
      (chains_have_chunks (bare s.rows) r
      (subst (λ l. Among r l) (sym (classes-bare s.rows)) among)))

  to_apart : (r : ClassRow) → Among r (classes_in s.rows) → Meets to r.place.chunk → ⊥
  to_apart r among =
      (free-fetched s.space.pool to f.space.pool tight.may.first.free).apart r.place.chunk
      (row_used r among)

  to_new : (r : ClassRow) → Among r (classes_in s.rows) → same_chunk r.place.chunk to ≡ false
  to_new r among =
      same_chunk-false r.place.chunk to (λ e. to_apart r among
      (subst (λ (c : Chunk). Meets to c) (sym e) (meets-itself to)))

  last : (is_last_chunk u from (bare s.rows) ≡ true)
      × (tight.may.used ≡ used_words from (bare s.rows))
  last =
      some-top u (bare s.rows) from tight.may.used
      (sym (chains_end_at_top s.sizes s.number (bare s.rows) f.rows.live
      (subst (λ l. AreApart l) (sym (classes-bare s.rows)) f.rows.apart) u)
      ∙ subst (λ (l : List Filled). last_of l
      ≡ Some (record { chunk = from; used = tight.may.used })) (f.space.chains u) tight.may.last)

  pub last_from : last_chunk u (classes_in s.rows) ≡ Some from
  last_from =
      last_is (last_chunk u (classes_in s.rows)) from
      (subst (λ (l : List ClassRow). option_map_or (λ (c : Chunk). same_chunk c from)
      (last_chunk u l) false ≡ true) (classes-bare s.rows) last.0)

  fits : move_fits s.sizes (bare s.rows) (record { loader = u; from = from; to = to }) ≡ true
  fits =
      let rows : List BareRow = bare s.rows in
      let on_last = is_last_chunk u from rows in
      let lawful = is_chunk s.sizes to in
      let unused = is_unused to rows in
      let room = nat_le (used_words from rows) (chunk_size to.order) in
      let enough : tight.may.used ≤ chunk_size to.order =
      subst (λ (k : ℕ). tight.may.used ≤ chunk_size k) (sym tight.may.first.of_order)
      tight.may.is_need.enough in
      let used = last.1 in
      and_true (on_last && lawful && unused) room
      (and_true (on_last && lawful) unused
      (and_true on_last lawful last.0 (is_chunk_of s.sizes to to_block))
      (apart-unused to (classes_in rows) (λ r among. to_apart r
      (subst (λ l. Among r l) (classes-bare s.rows) among))))
      (le-leb (used_words from rows) (chunk_size to.order) (omega (arith, used, enough)))

  -- ---- chains

  arenas : left.arenas ≡ (with_arena s.space u chain).arenas
  arenas = ap (λ (t : SpaceState). t.arenas) m.moves.after

  arena_here : arena_of left u ≡ chain
  arena_here =
      ap (λ a. unwrap_or (fin.get a u) []) arenas
      ∙ ap (λ o. unwrap_or o []) (got_same s.space u chain)

  arena_other : (v : ℕ) → eqb v u ≡ false → arena_of left v ≡ arena_of s.space v
  arena_other v e =
      ap (λ a. unwrap_or (fin.get a v) []) arenas
      ∙ ap (λ o. unwrap_or o []) (got_other s.space u v chain e)

  -- no arena afterwards has the chunk that was left, which waits
  no_longer : (v : ℕ) → IsNew from (chain_chunks (arena_of left v))
  no_longer v d among =
      same_chunk-false d from (λ e.
      known.apart left m.is v (s.number + 1) d from among waits
      (subst (λ (c : Chunk). Meets d c) e (meets-itself d)))
    where
      waits : WaitsFor left (s.number + 1) from
      waits = (
        record { number = s.number + 1; chunks = from ∷ [] },
        subst (λ (t : SpaceState). Among (record { number = s.number + 1; chunks = from ∷ [] })
            t.waiting) (sym m.moves.after)
            (at_end s.space.waiting (record { number = s.number + 1; chunks = from ∷ [] })),
        refl,
        inl refl,
      )
        where
          at_end : {A : Type 0} (xs : List A) (y : A) → Among y (xs ++ y ∷ [])
          at_end [] y = inl refl
          at_end (x ∷ xs) y = inr (at_end xs y)

  chains : (v : ℕ) → arena_of left v ≡ chain_of v (bare (moved from to s.rows))
  chains v = by_test (eqb v u) refl ∙ sym (chain_bare v (moved from to s.rows))
    where
      before : arena_of s.space v ≡ chain_of v s.rows
      before = f.space.chains v ∙ chain_bare v s.rows

      by_test : (t : Bool) → eqb v u ≡ t → arena_of left v ≡ chain_of v (moved from to s.rows)
      by_test true e =
          let same : v ≡ u = eqb-true v u e in
          let new : IsNew from (chain_chunks (with_last (arena_of s.space u) to)) =
          subst (λ (l : List Filled). IsNew from (chain_chunks l)) (arena_here ∙ tight.after)
          (no_longer u) in
          ap (λ k. arena_of left k) same
          ∙ (arena_here
          ∙ (tight.after
          ∙ (sym (renamed-last from to tight.may.used (arena_of s.space u) tight.may.last new)
          ∙ (ap (λ k. map (renamed_in from to) (arena_of s.space k)) (sym same)
          ∙ (ap (map (renamed_in from to)) before
          ∙ sym (chain-renamed from to v s.rows to_new))))))
      by_test false e =
          let new : IsNew from (chain_chunks (chain_of v s.rows)) =
          subst (λ (l : List Filled). IsNew from (chain_chunks l)) (arena_other v e ∙ before)
          (no_longer v) in
          arena_other v e
          ∙ (before
          ∙ (sym (renamed-stays from to (chain_of v s.rows) new)
          ∙ sym (chain-renamed from to v s.rows to_new)))

  still_known : (v : ℕ) → IsKnown left v ↔ (is_live v (moved from to s.rows) ≡ true)
  still_known v = by_test (eqb v u) refl
    where
      live_is : is_live v (moved from to s.rows) ≡ is_live v s.rows
      live_is = ap is_some (name-moved from to v s.rows)

      by_test : (t : Bool) → eqb v u ≡ t
          → IsKnown left v ↔ (is_live v (moved from to s.rows) ≡ true)
      by_test true e =
          let same : u ≡ v = sym (eqb-true v u e) in
          let there : IsKnown left v =
          subst (λ k. IsSome (fin.get left.arenas k)) same
          (subst (λ o. IsSome o)
          (sym (ap (λ a. fin.get a u) arenas ∙ got_same s.space u chain)) refl) in
          (λ _. live_is ∙ subst (λ k. is_live k s.rows ≡ true) same live, λ _. there)
      by_test false e =
          let other : fin.get left.arenas v ≡ fin.get s.space.arenas v =
          ap (λ a. fin.get a v) arenas ∙ got_other s.space u v chain e in (
            λ k. live_is ∙ (f.known v).0 (subst (λ o. IsSome o) other k),
            λ l. subst (λ o. IsSome o) (sym other) ((f.known v).1 (sym live_is ∙ l)),
          )

  pub keeps_move : Keeps s (entry.Move (record { loader = u; from = from; to = to })) left
  keeps_move =
      let before = live_past known.own s f u live in
      let numbers = f.numbers in
      let sealed = follow_from s.unsealed (s.sealed + 1) (s.number + 1) f.groups in
      let learnt = f.learnt in
      record {
        may = record {
          fits = record {
            loader = omega (arith, before, numbers);
            from = fits-block s.sizes from f.lawful from_block;
            to = fits-block s.sizes to f.lawful to_block;
          };
          keeps =
              sym (rule-bare s.sizes s.rows (s.number + 1)
              (entry.Move (record { loader = u; from = from; to = to })))
              ∙ rw fits refl;
          new = tt;
        };
        right = each-moved IsRightRecord from to s.rows f.right;
        matches = record {
          is = m.is;
          pool = m.pool;
          geometry =
              ap (λ (t : SpaceState). t.pool.geometry) m.moves.after
              ∙ (ap (λ (p : FreeSpace). p.geometry) tight.left_is ∙ f.space.geometry);
          chains = chains;
        };
        known = still_known;
        waiting = subst (λ (t : SpaceState).
            AllByRecursion (IsDueLater s.learnt (s.number + 1)) t.waiting) (sym m.moves.after)
            (due_more s.learnt (s.number + 1) s.space.waiting
            (record { number = s.number + 1; chunks = from ∷ [] })
            (due_later s.learnt s.number s.space.waiting f.waiting)
            (record { from = omega (arith, sealed, learnt); to = omega arith }));
      }
