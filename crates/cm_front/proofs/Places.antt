-- A place that a space finds, whose arenas are those of the rows, is one that the entry rules
-- allow.
-- For `places_keep_rules` and others.
use Rattle.std.proofs.Common.{◌≡◌, ℕ, ◌+◌, ◌%◌, ◌≤◌, Bool, true, false, cond, List, [], ◌∷◌, ◌++◌}
use Rattle.std.proofs.Common.{Option, Some, None, inl, inr, refl, sym, ap, subst, ◌∙◌, arith, eqb}
use Rattle.std.proofs.Common.{length}
use Rattle.std.specs.Prelude.{◌&&◌, ◌||◌, nat_le, nat_lt}
use Rattle.std.specs.Option.{option_map, option_map_or}
use Rattle.std.proofs.lemmas.Bool.{eq-eqb, lt-ltb, le-leb}
use Rattle.cm_pool.specs.declared.chunk.Chunk.{Chunk}
use Rattle.cm_pool.specs.declared.place.Place.{Place}
use Rattle.cm_pool.specs.Chunks.{chunk_size, same_chunk, Meets, IsBlock}
use Rattle.cm_pool.specs.Geometry.{Sizes}
use Rattle.cm_pool.specs.FreeSpace.{FreeSpace, IsFreeSpace, IsFreeWord, IsFreeChunk, IsUsedChunk}
use Rattle.cm_pool.specs.FreeSpace.{with_root}
use Rattle.cm_pool.specs.Lists.{Among}
use Rattle.cm_pool.specs.SpaceLaws.{RootsKeepHeld}
use Rattle.cm_pool.proofs.{same_chunk-itself, meets-itself, same_chunk-false}
use Rattle.cm_arena.specs.Chains.{Filled, chain_chunks, last_of, with_more}
use Rattle.cm_arena.specs.Placing.{Fetches, order_wanted, with_place}
use Rattle.cm_space.specs.Space.{arena_of}
use Rattle.cm_space.specs.Laws.{OwnedIsUsed}
use Rattle.cm_layout.specs.declared.class_row.ClassRow.{ClassRow}
use Rattle.cm_layout.specs.Rows.{classes_in, last_chunk, used_words}
use Rattle.cm_layout.specs.Rules.{is_chunk, is_unused, is_last_chunk, has_place, class_fits}
use Rattle.cm_layout.specs.Frames.{BareRow}
use Rattle.cm_layout.proofs.{apart-unused}
use Rattle.cm_front.specs.Chains.{chain_of, top_of}
use Rattle.cm_front.specs.Laws.{PlacesKeepRules}
use Rattle.cm_front.proofs.Chains.{chain_grows}
use Rattle.cm_front.proofs.Tops.{chains_end_at_top, chains_have_chunks}

pub and_true : (a b : Bool) → a ≡ true → b ≡ true → (a && b) ≡ true
and_true a b p q = rw p q

or_left : (a b : Bool) → a ≡ true → (a || b) ≡ true
or_left a b p = rw p refl

or_right : (a b : Bool) → b ≡ true → (a || b) ≡ true
or_right true b p = refl
or_right false b p = p

-- the test for a chunk that a region can have
pub is_chunk_of : (sizes : Sizes) (c : Chunk) → IsBlock sizes.top sizes.roots c
    → is_chunk sizes c ≡ true
is_chunk_of sizes c b =
    let order = nat_le c.order sizes.top in
    let root = nat_lt c.root sizes.roots in
    let aligned = eqb (c.at % chunk_size c.order) 0 in
    and_true (order && root && aligned) (nat_le (c.at + chunk_size c.order) (chunk_size sizes.top))
    (and_true (order && root) aligned
    (and_true order root (le-leb c.order sizes.top b.within_top)
    (lt-ltb c.root sizes.roots b.in_a_root))
    (eq-eqb (c.at % chunk_size c.order) 0 b.aligned))
    (le-leb (c.at + chunk_size c.order) (chunk_size sizes.top) b.inside)

fits_of : (sizes : Sizes) (rows : List BareRow) (r : ClassRow)
    → IsBlock sizes.top sizes.roots r.place.chunk → 1 ≤ r.place.words
    → r.place.offset + r.place.words ≤ chunk_size r.place.chunk.order → has_place rows r ≡ true
    → class_fits sizes rows r ≡ true
fits_of sizes rows r block some within place =
    let chunk = is_chunk sizes r.place.chunk in
    let words = nat_le 1 r.place.words in
    let inside = nat_le (r.place.offset + r.place.words) (chunk_size r.place.chunk.order) in
    and_true (chunk && words && inside) (has_place rows r)
    (and_true (chunk && words) inside
    (and_true chunk words (is_chunk_of sizes r.place.chunk block) (le-leb 1 r.place.words some))
    (le-leb (r.place.offset + r.place.words) (chunk_size r.place.chunk.order) within))
    place

-- ---- chains

filled : Chunk → ℕ → Filled
filled c used = record { chunk = c; used = used }

pub last-among : (chain : List Filled) (f : Filled) → last_of chain ≡ Some f
    → Among f.chunk (chain_chunks chain)
last-among [] f e = absurd (cc)
last-among (g ∷ []) f e =
    let same : f ≡ g = cc in inl (ap (λ (h : Filled). h.chunk) same)
last-among (g ∷ h ∷ rest) f e = inr (last-among (h ∷ rest) f e)

more-placed : (chain : List Filled) (place : Place) (words : ℕ)
    → last_of chain ≡ Some (record { chunk = place.chunk; used = place.offset })
    → place.words ≡ words → with_more chain words ≡ with_place chain place
unfolding filled
more-placed [] place words e count = absurd (cc)
more-placed (f ∷ []) place words e count =
    let here : f ≡ record { chunk = place.chunk; used = place.offset } = cc in
    let same : same_chunk f.chunk place.chunk ≡ true =
    ap (λ (g : Filled). same_chunk g.chunk place.chunk) here ∙ same_chunk-itself place.chunk in
    ap (λ (n : ℕ). filled f.chunk (f.used + n) ∷ []) (sym count)
    ∙ sym (ap (λ (t : Bool). cond t
    (filled f.chunk (f.used + place.words) ∷ [])
    (f ∷ record { chunk = place.chunk; used = place.words } ∷ [])) same)
more-placed (f ∷ g ∷ rest) place words e count =
    ap (λ l. f ∷ l) (more-placed (g ∷ rest) place words e count)

new-placed : (chain : List Filled) (place : Place) (words : ℕ)
    → ((f : Filled) → last_of chain ≡ Some f → same_chunk f.chunk place.chunk ≡ false)
    → place.words ≡ words
    → chain ++ record { chunk = place.chunk; used = words } ∷ [] ≡ with_place chain place
unfolding filled
new-placed [] place words other count =
    ap (λ (n : ℕ). filled place.chunk n ∷ []) (sym count)
new-placed (f ∷ []) place words other count =
    ap (λ (n : ℕ). f ∷ filled place.chunk n ∷ []) (sym count)
    ∙ sym (ap (λ (t : Bool). cond t
    (filled f.chunk (f.used + place.words) ∷ [])
    (f ∷ record { chunk = place.chunk; used = place.words } ∷ [])) (other f refl))
new-placed (f ∷ g ∷ rest) place words other count =
    ap (λ l. f ∷ l) (new-placed (g ∷ rest) place words other count)

-- ---- chunks that are free, and chunks that are used

pub free-apart : (p : FreeSpace) (c d : Chunk) → IsFreeChunk p c → IsUsedChunk p d → ¬ Meets c d
free-apart p c d free used m =
    let in_c = m.2 in
    let in_d = m.3 in
    let there : IsFreeWord p c.root m.1 = free.words m.1 in_c.from in_c.to in
    let roots : c.root ≡ d.root = sym in_c.same_root ∙ in_d.same_root in
    used.words m.1 in_d.from in_d.to (subst (λ (r : ℕ). IsFreeWord p r m.1) roots there)

pub used-with-root : RootsKeepHeld → (p : FreeSpace) (d : Chunk) → IsUsedChunk p d
    → IsUsedChunk (with_root p) d
used-with-root keep p d used =
    (keep p (d ∷ []) (record { each = (used, tt); apart = (tt, tt) })).each.0

-- what is fetched is free, in the pool or in one with one more root
pub record IsFetchedFree (p : FreeSpace) (c : Chunk) : Type 0 where
  pub block : IsBlock p.geometry.top p.geometry.roots c
  pub apart : (d : Chunk) → IsUsedChunk p d → ¬ Meets c d

pub free-fetched : (p : FreeSpace) (c : Chunk) → IsFreeSpace p → IsFreeChunk p c → IsFetchedFree p c
free-fetched p c lawful free = record {
  block = record {
    within_top = free.block.within_top;
    in_a_root = omega (arith, free.block.in_a_root, lawful.roots);
    aligned = free.block.aligned;
    inside = free.block.inside;
  };
  apart = λ d used. free-apart p c d free used;
}

pub fetched_free : RootsKeepHeld → (p : FreeSpace) (wanted need : ℕ) (c : Chunk) (left : FreeSpace)
    → IsFreeSpace p → Fetches p wanted need c left → IsFetchedFree p c
fetched_free keep p wanted need c left lawful (inl w) = free-fetched p c lawful w.first.free
fetched_free keep p wanted need c left lawful (inr (inl w)) = free-fetched p c lawful w.first.free
fetched_free keep p wanted need c left lawful (inr (inr w)) =
    let free = w.first.free in
    record {
      block = record {
        within_top = free.block.within_top;
        in_a_root = omega (arith, free.block.in_a_root, w.room);
        aligned = free.block.aligned;
        inside = free.block.inside;
      };
      apart = λ d used. free-apart (with_root p) c d free (used-with-root keep p d used);
    }

-- ---- places

pub some-top : (u : ℕ) (rows : List BareRow) (c : Chunk) (used : ℕ)
    → top_of u rows ≡ Some (record { chunk = c; used = used })
    → (is_last_chunk u c rows ≡ true) × (used ≡ used_words c rows)
some-top u rows c used e = by_last (last_chunk u (classes_in rows)) e
  where
    by_last : (o : Option Chunk)
        → ◌≡◌ {A = Option Filled}
        (option_map (λ d. record { chunk = d; used = used_words d rows }) o)
        (Some (record { chunk = c; used = used }))
        → (option_map_or (λ last. same_chunk last c) o false ≡ true) × (used ≡ used_words c rows)
    by_last None h = absurd (cc)
    by_last (Some d) h =
        let same = filled-is d c (used_words d rows) used h in (
          ap (λ (k : Chunk). same_chunk k c) same.0 ∙ same_chunk-itself c,
          sym same.1 ∙ ap (λ (k : Chunk). used_words k rows) same.0,
        )
      where
        unwrapped : (f g : Filled) → Some f ≡ Some g → f ≡ g
        unwrapped f g e = cc

        filled-is : (d c : Chunk) (m n : ℕ)
            → ◌≡◌ {A = Option Filled} (Some (record { chunk = d; used = m }))
            (Some (record { chunk = c; used = n })) → (d ≡ c) × (m ≡ n)
        filled-is d c m n e =
            let same =
            unwrapped (record { chunk = d; used = m }) (record { chunk = c; used = n }) e in
            (ap (λ (f : Filled). f.chunk) same, ap (λ (f : Filled). f.used) same)

pub places_keep_rules : OwnedIsUsed → RootsKeepHeld → PlacesKeepRules
places_keep_rules owned keep sizes n rows space u words place chain left live apart matches
    some (inl on) =
    let t = on.0 in
    let row : ClassRow = record { loader = u; place = place } in
    let here : last_of (chain_of u rows)
    ≡ Some (record { chunk = place.chunk; used = place.offset }) =
    subst (λ (l : List Filled). last_of l
    ≡ Some (record { chunk = place.chunk; used = place.offset }))
    (matches.chains u) t.last in
    let top = some-top u rows place.chunk place.offset
    (sym (chains_end_at_top sizes n rows live apart u) ∙ here) in
    let used = owned space matches.is u place.chunk
    (last-among (arena_of space u) (record { chunk = place.chunk; used = place.offset }) t.last) in
    let block : IsBlock sizes.top sizes.roots place.chunk =
    subst (λ (z : Sizes). IsBlock z.top z.roots place.chunk) matches.geometry (record {
      within_top = used.block.within_top;
      in_a_root = omega (arith, used.block.in_a_root, matches.pool.roots);
      aligned = used.block.aligned;
      inside = used.block.inside;
    }) in
    record {
      amount = t.amount;
      fits = fits_of sizes rows row block (omega (arith, t.amount, some))
          (omega (arith, t.room, t.amount))
          (or_left (is_last_chunk u place.chunk rows
          && eqb place.offset (used_words place.chunk rows))
          (eqb place.offset 0 && is_unused place.chunk rows)
          (and_true (is_last_chunk u place.chunk rows)
          (eqb place.offset (used_words place.chunk rows))
          top.0 (eq-eqb place.offset (used_words place.chunk rows) top.1)));
      chain_is = t.after ∙ (more-placed (arena_of space u) place words t.last t.amount
          ∙ (ap (λ (l : List Filled). with_place l place) (matches.chains u)
          ∙ sym (chain_grows u rows row refl)));
    }
places_keep_rules owned keep sizes n rows space u words place chain left live apart matches
    some (inr f) =
    let row : ClassRow = record { loader = u; place = place } in
    let t = f.in_new in
    let free = fetched_free keep space.pool
    (order_wanted f.need (length (arena_of space u)) space.pool.geometry.top) f.need
    place.chunk left
    matches.pool f.fetches in
    let block : IsBlock sizes.top sizes.roots place.chunk =
    subst (λ (z : Sizes). IsBlock z.top z.roots place.chunk) matches.geometry free.block in
    let unused : is_unused place.chunk rows ≡ true =
    apart-unused place.chunk (classes_in rows) (λ s m.
    free.apart s.place.chunk (owned space matches.is s.loader s.place.chunk
    (subst (λ (l : List Filled). Among s.place.chunk (chain_chunks l))
    (sym (matches.chains s.loader))
    (chains_have_chunks rows s m)))) in
    record {
      amount = t.amount;
      fits = fits_of sizes rows row block (omega (arith, t.amount, some))
          (omega (arith, t.front, t.room, t.amount))
          (or_right (is_last_chunk u place.chunk rows
          && eqb place.offset (used_words place.chunk rows))
          (eqb place.offset 0 && is_unused place.chunk rows)
          (and_true (eqb place.offset 0) (is_unused place.chunk rows)
          (eq-eqb place.offset 0 t.front)
          unused));
      chain_is = t.after ∙ (new-placed (arena_of space u) place words
          (λ g last. same_chunk-false g.chunk place.chunk (λ same.
          free.apart g.chunk (owned space matches.is u g.chunk
          (last-among (arena_of space u) g last))
          (subst (λ (c : Chunk). Meets place.chunk c) (sym same) (meets-itself place.chunk))))
          t.amount
          ∙ (ap (λ (l : List Filled). with_place l place) (matches.chains u)
          ∙ sym (chain_grows u rows row refl)));
    }
