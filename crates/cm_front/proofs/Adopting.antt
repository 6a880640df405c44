-- A class's place is the next one of its loader's arena, if the arenas are those of the rows
-- before.
-- For `take_rows`.
use Rattle.std.proofs.Common.{◌≡◌, ℕ, zero, suc, ◌+◌, ◌-◌, ◌%◌, ◌<◌, ◌≤◌, ◌⊎◌, Bool, true, false}
use Rattle.std.proofs.Common.{cond, List, [], ◌∷◌, ◌++◌, map, Option, Some, None, inl, inr, refl}
use Rattle.std.proofs.Common.{sym, ap, subst, ◌∙◌, arith, eqb}
use Rattle.std.specs.Prelude.{◌&&◌, nat_le, nat_lt, filter, sum, max}
use Rattle.std.specs.Option.{option_map, option_map_or}
use Rattle.std.proofs.lemmas.Bool.{eqb-true, ltb-true, leb-true, and_parts, or_cases}
use Rattle.cm_pool.specs.declared.chunk.Chunk.{Chunk}
use Rattle.cm_pool.specs.declared.place.Place.{Place}
use Rattle.cm_pool.specs.Places.{IsInside}
use Rattle.cm_pool.specs.Chunks.{chunk_size, same_chunk, Meets, Covers, IsBlock, IsChunk}
use Rattle.cm_pool.specs.Geometry.{Sizes, IsGeometry}
use Rattle.cm_pool.specs.FreeSpace.{FreeSpace, IsFreeWord, IsFreeChunk}
use Rattle.cm_pool.specs.Lists.{Among}
use Rattle.cm_pool.specs.SpaceLaws.{RootsKeepHeld, RootsLoseNone}
use Rattle.cm_pool.proofs.{same_chunk-true, same_chunk-itself}
use Rattle.cm_arena.specs.Chains.{Filled, chain_chunks, last_of}
use Rattle.cm_arena.specs.Placing.{next_offset, with_place}
use Rattle.cm_layout.specs.declared.class_row.ClassRow.{ClassRow}
use Rattle.cm_layout.specs.Rows.{classes_in, last_chunk, used_words}
use Rattle.cm_layout.specs.Rules.{is_chunk, is_unused, is_last_chunk, has_place, class_fits}
use Rattle.cm_layout.specs.Rules.{is_live, has_room, broken_of}
use Rattle.cm_layout.specs.declared.row.Row.TheVariants.{Loader, Class}
use Rattle.std.proofs.lemmas.List.Sums.{sum_by-cons}
use Rattle.cm_layout.specs.Frames.{BareRow, AreApart, LiveRowsKeep}
use Rattle.cm_layout.proofs.{last_chunk-among, is_unused-apart}
use Rattle.cm_space.specs.Space.{SpaceState, arena_of}
use Rattle.cm_space.specs.Adopting.{with_roots, reaching, IsAdoptable}
use Rattle.cm_space.specs.Ownership.{IsSpace, Owns, WaitsFor}
use Rattle.cm_space.specs.Laws.{EachWord, RootsReach}
use Rattle.cm_front.specs.Chains.{chain_from, top_of}
use Rattle.cm_front.specs.Laws.{SpaceMatches}
use Rattle.cm_front.proofs.Chains.{never-on}
use Rattle.cm_front.proofs.Chains.{no_last}
use Rattle.cm_front.proofs.Tops.{chains_end_at_top}

-- ---- which rows a chain's chunks belong to

placed_from : (chain : List Filled) (place : Place) (d : Chunk)
    → Among d (chain_chunks (with_place chain place)) → Among d (chain_chunks chain)
    ⊎ (d ≡ place.chunk)
placed_from [] place d (inl e) = inr e
placed_from [] place d (inr m) = absurd m
placed_from (f ∷ []) place d m = by_test (same_chunk f.chunk place.chunk) m
  where
    by_test : (t : Bool)
        → Among d (chain_chunks
        (cond t (record { chunk = f.chunk; used = f.used + place.words } ∷ [])
        (f ∷ record { chunk = place.chunk; used = place.words } ∷ [])))
        → Among d (f.chunk ∷ []) ⊎ (d ≡ place.chunk)
    by_test true m = inl m
    by_test false (inl e) = inl (inl e)
    by_test false (inr (inl e)) = inr e
    by_test false (inr (inr n)) = absurd n
placed_from (f ∷ g ∷ chain) place d (inl e) = inl (inl e)
placed_from (f ∷ g ∷ chain) place d (inr m) = by_rest (placed_from (g ∷ chain) place d m)
  where
    by_rest : Among d (chain_chunks (g ∷ chain)) ⊎ (d ≡ place.chunk)
        → Among d (chain_chunks (f ∷ g ∷ chain)) ⊎ (d ≡ place.chunk)
    by_rest (inl m) = inl (inr m)
    by_rest (inr e) = inr e

-- a chunk of a chain is that of a row
row_from : (chain : List Filled) (u : ℕ) (classes : List ClassRow) (d : Chunk)
    → Among d (chain_chunks (chain_from chain u classes))
    → Among d (chain_chunks chain) ⊎ ((s : ClassRow) × Among s classes × (s.place.chunk ≡ d))
row_from chain u [] d m = inl m
row_from chain u (r ∷ classes) d m =
    by_test (λ h. row_from (with_place chain r.place) u classes d h)
    (λ h. row_from chain u classes d h)
    (eqb r.loader u) m
  where
    later : (s : ClassRow) × Among s classes × (s.place.chunk ≡ d)
        → (s : ClassRow) × Among s (r ∷ classes) × (s.place.chunk ≡ d)
    later found = (found.0, inr found.1, found.2)

    by_place : Among d (chain_chunks chain) ⊎ (d ≡ r.place.chunk)
        → Among d (chain_chunks chain)
        ⊎ ((s : ClassRow) × Among s (r ∷ classes) × (s.place.chunk ≡ d))
    by_place (inl m) = inl m
    by_place (inr e) = inr (r, inl refl, sym e)

    by_rest : Among d (chain_chunks (with_place chain r.place))
        ⊎ ((s : ClassRow) × Among s classes × (s.place.chunk ≡ d))
        → Among d (chain_chunks chain)
        ⊎ ((s : ClassRow) × Among s (r ∷ classes) × (s.place.chunk ≡ d))
    by_rest (inl m) = by_place (placed_from chain r.place d m)
    by_rest (inr found) = inr (later found)

    by_kept : Among d (chain_chunks chain)
        ⊎ ((s : ClassRow) × Among s classes × (s.place.chunk ≡ d))
        → Among d (chain_chunks chain)
        ⊎ ((s : ClassRow) × Among s (r ∷ classes) × (s.place.chunk ≡ d))
    by_kept (inl m) = inl m
    by_kept (inr found) = inr (later found)

    by_test : (Among d (chain_chunks (chain_from (with_place chain r.place) u classes))
        → Among d (chain_chunks (with_place chain r.place))
        ⊎ ((s : ClassRow) × Among s classes × (s.place.chunk ≡ d)))
        → (Among d (chain_chunks (chain_from chain u classes))
        → Among d (chain_chunks chain) ⊎ ((s : ClassRow) × Among s classes × (s.place.chunk ≡ d)))
        → (t : Bool)
        → Among d (chain_chunks (cond t (chain_from (with_place chain r.place) u classes)
        (chain_from chain u classes)))
        → Among d (chain_chunks chain)
        ⊎ ((s : ClassRow) × Among s (r ∷ classes) × (s.place.chunk ≡ d))
    by_test here there true m = by_rest (here m)
    by_test here there false m = by_kept (there m)

-- ---- more roots

with_roots_space : RootsKeepHeld → RootsLoseNone → (s : SpaceState) (n : ℕ) → IsSpace s
    → IsSpace (record s { pool = with_roots s.pool n })
with_roots_space keep lose s zero is = is
with_roots_space keep lose s (suc n) is =
    let before = with_roots_space keep lose s n is in
    record {
      held = keep (with_roots s.pool n) _ before.held;
      none_lost = lose (with_roots s.pool n) _ before.none_lost;
      rises = is.rises;
    }

pub roots_geometry : (p : FreeSpace) (n : ℕ) → (with_roots p n).geometry ≡ p.geometry
roots_geometry p zero = refl
roots_geometry p (suc n) = roots_geometry p n

true_not : {X : Type 0} → true ≡ false → X
true_not e = absurd (cc)

pub fits_kept : (a b : Bool) → broken_of a b ≡ None → b ≡ true
fits_kept true true e = refl
fits_kept true false e = absurd (cc)
fits_kept false b e = absurd (cc)

-- how many words of a chunk records take
abbrev words_of : Chunk → List ClassRow → ℕ
words_of c classes =
    sum (map (λ (k : ClassRow). k.place.words)
    (filter (λ (k : ClassRow). same_chunk k.place.chunk c) classes))

-- ---- the place

next_at : (chain : List Filled) (c : Chunk) (f : Filled) → last_of chain ≡ Some f
    → next_offset chain c ≡ cond (same_chunk f.chunk c) f.used 0
next_at [] c f e = absurd (cc)
next_at (g ∷ []) c f e =
    let same : g ≡ f = cc in ap (λ (h : Filled). cond (same_chunk h.chunk c) h.used 0) same
next_at (g ∷ h ∷ chain) c f e = next_at (h ∷ chain) c f e

-- words of the last record count
some_words : (sizes : Sizes) (n : ℕ) (pre rows : List BareRow) → LiveRowsKeep sizes n pre rows
    → (s : ClassRow) → Among s (classes_in rows) → 1 ≤ s.place.words
some_words sizes n pre [] k s m = absurd m
some_words sizes n pre (Loader r ∷ rows) k s m =
    some_words sizes n (pre ++ Loader r ∷ []) rows k.2 s m
some_words sizes n pre (Class r p ∷ rows) k s (inr m) =
    some_words sizes n (pre ++ Class r p ∷ []) rows k.2 s m
some_words sizes n pre (Class r p ∷ rows) k s (inl e) =
    let fits =
    fits_kept (is_live r.loader pre && has_room sizes pre (Class r p)) (class_fits sizes pre r)
    k.1 in
    let chunk = is_chunk sizes r.place.chunk in
    let words = nat_le 1 r.place.words in
    let within = nat_le (r.place.offset + r.place.words) (chunk_size r.place.chunk.order) in
    let front = and_parts (chunk && words) within
    (and_parts (chunk && words && within) (has_place pre r) fits).0 in
    subst (λ (t : ClassRow). 1 ≤ t.place.words) (sym e)
    (leb-true 1 r.place.words (and_parts chunk words front.0).1)

words_at_least : (c : Chunk) (classes : List ClassRow) (s : ClassRow) → Among s classes
    → s.place.chunk ≡ c → s.place.words ≤ words_of c classes
words_at_least c [] s m e = absurd m
words_at_least c (r ∷ classes) s m e =
    by_test (λ h. words_at_least c classes s h e) (same_chunk r.place.chunk c) refl m
  where
    by_test : (Among s classes → s.place.words ≤ words_of c classes) → (t : Bool)
        → same_chunk r.place.chunk c ≡ t → Among s (r ∷ classes)
        → s.place.words ≤ sum (map (λ (k : ClassRow). k.place.words)
        (cond t (r ∷ filter (λ (k : ClassRow). same_chunk k.place.chunk c) classes)
        (filter (λ (k : ClassRow). same_chunk k.place.chunk c) classes)))
    by_test rest true t (inl is) =
        let first = sum_by-cons (λ (n : ℕ). n) r.place.words
        (map (λ (k : ClassRow). k.place.words)
        (filter (λ (k : ClassRow). same_chunk k.place.chunk c) classes)) in
        let same : s.place.words ≡ r.place.words = ap (λ (k : ClassRow). k.place.words) is in
        omega (arith, first, same)
    by_test rest true t (inr later) =
        let first = sum_by-cons (λ (n : ℕ). n) r.place.words
        (map (λ (k : ClassRow). k.place.words)
        (filter (λ (k : ClassRow). same_chunk k.place.chunk c) classes)) in
        let behind = rest later in
        omega (arith, first, behind)
    by_test rest false t (inl is) =
        absurd (true_not (sym (ap (λ (k : ClassRow). same_chunk k.place.chunk c) (sym is)
        ∙ (ap (λ d. same_chunk d c) e ∙ same_chunk-itself c)) ∙ t))
    by_test rest false t (inr later) = rest later

-- ---- where a class's record is put

pub last_is : (o : Option Chunk) (c : Chunk)
    → option_map_or (λ last. same_chunk last c) o false ≡ true
    → o ≡ Some c
last_is (Some d) c h = ap Some (same_chunk-true d c h)
last_is None c h = absurd (cc)

-- what is known of the rows before and of their space
pub record Stands (sizes : Sizes) (n : ℕ) (pre : List BareRow) (space : SpaceState) : Type 0 where
  pub lawful : IsGeometry sizes
  pub live : LiveRowsKeep sizes n [] pre
  pub apart : AreApart (classes_in pre)
  pub matches : SpaceMatches sizes pre space
  pub waiting : space.waiting ≡ []

pub record SpaceLaws : Type 0 where
  pub keep : RootsKeepHeld
  pub lose : RootsLoseNone
  pub each : EachWord
  pub reach : RootsReach

-- the chunk of each word that isn't free is that of a row
owned_by_row : (sizes : Sizes) (n : ℕ) (pre : List BareRow) (space : SpaceState)
    → Stands sizes n pre space
    → (v : ℕ) (d : Chunk) → Owns space v d
    → (s : ClassRow) × Among s (classes_in pre) × (s.place.chunk ≡ d)
owned_by_row sizes n pre space h v d owns =
    by_row (row_from [] v (classes_in pre) d
    (subst (λ chain. Among d (chain_chunks chain)) (h.matches.chains v) owns))
  where
    by_row : Among d [] ⊎ ((s : ClassRow) × Among s (classes_in pre) × (s.place.chunk ≡ d))
        → (s : ClassRow) × Among s (classes_in pre) × (s.place.chunk ≡ d)
    by_row (inl none) = absurd none
    by_row (inr found) = found

chunk_block : (sizes : Sizes) (c : Chunk) → is_chunk sizes c ≡ true
    → IsBlock sizes.top sizes.roots c
chunk_block sizes c e =
    let small = nat_le c.order sizes.top in
    let root = nat_lt c.root sizes.roots in
    let aligned = eqb (c.at % chunk_size c.order) 0 in
    let inside = nat_le (c.at + chunk_size c.order) (chunk_size sizes.top) in
    let last = and_parts (small && root && aligned) inside e in
    let mid = and_parts (small && root) aligned last.0 in
    let begin = and_parts small root mid.0 in
    record {
      within_top = leb-true c.order sizes.top begin.0;
      in_a_root = ltb-true c.root sizes.roots begin.1;
      aligned = eqb-true (c.at % chunk_size c.order) 0 mid.1;
      inside = leb-true (c.at + chunk_size c.order) (chunk_size sizes.top) last.1;
    }

free_there : SpaceLaws → (sizes : Sizes) (n : ℕ) (pre : List BareRow) (space : SpaceState)
    → Stands sizes n pre space → (c : Chunk) → is_chunk sizes c ≡ true → is_unused c pre ≡ true
    → IsFreeChunk (reaching space.pool c.root) c
free_there laws sizes n pre space h c chunk unused =
    let block = chunk_block sizes c chunk in
    let top : (reaching space.pool c.root).geometry ≡ sizes =
    roots_geometry space.pool (suc c.root - space.pool.roots) ∙ h.matches.geometry in
    let roots : (reaching space.pool c.root).roots ≡ max space.pool.roots (c.root + 1) =
    laws.reach space.pool c.root in
    record {
      block = record {
        within_top = subst (λ (z : Sizes). c.order ≤ z.top) (sym top) block.within_top;
        in_a_root = omega (arith, roots);
        aligned = block.aligned;
        inside = subst (λ (z : Sizes). c.at + chunk_size c.order ≤ chunk_size z.top) (sym top)
            block.inside;
      };
      words = λ word from to. by_word word from to
          (laws.each (record space { pool = reaching space.pool c.root })
          (with_roots_space laws.keep laws.lose space (suc c.root - space.pool.roots) h.matches.is)
          c.root
          word (omega (arith, roots))
          (subst (λ (z : Sizes). word < chunk_size z.top) (sym top)
          (let inside = block.inside in omega (arith, to, inside))));
    }
  where
    by_word : (word : ℕ) → c.at ≤ word → word < c.at + chunk_size c.order
        → IsFreeWord (reaching space.pool c.root) c.root word
        ⊎ (((loader : ℕ) × (d : Chunk) × Owns space loader d × Covers d c.root word)
        ⊎ ((number : ℕ) × (d : Chunk) × WaitsFor space number d × Covers d c.root word))
        → IsFreeWord (reaching space.pool c.root) c.root word
    by_word word from to (inl free) = free
    by_word word from to (inr (inl owned)) =
        let row = owned_by_row sizes n pre space h owned.0 owned.1 owned.2 in
        let mine : Covers c c.root word = record { same_root = refl; from = from; to = to } in
        let shared : Meets c row.0.place.chunk =
        subst (λ d. Meets c d) (sym row.2) (c.root, word, mine, owned.3) in
        absurd (is_unused-apart c (classes_in pre) row.0 unused row.1 shared)
    by_word word from to (inr (inr waits)) =
        let among : Among waits.2.0 space.waiting = waits.2.1 in
        absurd (subst (λ l. Among waits.2.0 l) h.waiting among)

pub adoptable : SpaceLaws → (sizes : Sizes) (n : ℕ) (pre : List BareRow) (space : SpaceState)
    → Stands sizes n pre space → (r : ClassRow) → class_fits sizes pre r ≡ true
    → IsAdoptable (arena_of space r.loader) space.pool r.place
adoptable laws sizes n pre space h r fits = by_place (or_cases on_top new place)
  where
    chunk : Bool
    chunk = is_chunk sizes r.place.chunk

    words : Bool
    words = nat_le 1 r.place.words

    within : Bool
    within = nat_le (r.place.offset + r.place.words) (chunk_size r.place.chunk.order)

    on_top : Bool
    on_top =
        is_last_chunk r.loader r.place.chunk pre
        && eqb r.place.offset (used_words r.place.chunk pre)

    new : Bool
    new = eqb r.place.offset 0 && is_unused r.place.chunk pre

    parts : ((chunk && words && within) ≡ true) × (has_place pre r ≡ true)
    parts = and_parts (chunk && words && within) (has_place pre r) fits

    front : ((chunk && words) ≡ true) × (within ≡ true)
    front = and_parts (chunk && words) within parts.0

    place : has_place pre r ≡ true
    place = parts.1

    chunk_is : chunk ≡ true
    chunk_is = (and_parts chunk words front.0).0

    inside : IsInside r.place
    inside =
        let small = nat_le r.place.chunk.order sizes.top in
        let root = nat_lt r.place.chunk.root sizes.roots in
        let aligned = eqb (r.place.chunk.at % chunk_size r.place.chunk.order) 0 in
        let end = nat_le (r.place.chunk.at + chunk_size r.place.chunk.order)
        (chunk_size sizes.top) in
        let order = leb-true r.place.chunk.order sizes.top
        (and_parts small root (and_parts (small && root) aligned
        (and_parts (small && root && aligned) end chunk_is).0).0).0 in
        let top = h.lawful.top_to in
        record {
          small = omega (arith, order, top);
          some = leb-true 1 r.place.words (and_parts chunk words front.0).1;
          within = leb-true (r.place.offset + r.place.words)
              (chunk_size r.place.chunk.order) front.1;
        }

    tops : last_of (arena_of space r.loader) ≡ top_of r.loader pre
    tops = ap last_of (h.matches.chains r.loader)
        ∙ chains_end_at_top sizes n pre h.live h.apart r.loader

    by_place : (on_top ≡ true) ⊎ (new ≡ true)
        → IsAdoptable (arena_of space r.loader) space.pool r.place
    by_place (inl e) =
        let both_on = and_parts (is_last_chunk r.loader r.place.chunk pre)
        (eqb r.place.offset (used_words r.place.chunk pre)) e in
        let last = last_is (last_chunk r.loader (classes_in pre)) r.place.chunk both_on.0 in
        let offset = eqb-true r.place.offset (used_words r.place.chunk pre) both_on.1 in
        let here : last_of (arena_of space r.loader)
        ≡ Some (record { chunk = r.place.chunk; used = used_words r.place.chunk pre }) =
        tops ∙ ap (option_map (λ c. record { chunk = c; used = used_words c pre })) last in
        let row = last_chunk-among r.loader (classes_in pre) r.place.chunk last in
        let some = some_words sizes n [] pre h.live row.0 row.1 in
        let counted : row.0.place.words ≤ used_words r.place.chunk pre =
        words_at_least r.place.chunk (classes_in pre) row.0 row.1 row.3 in
        record {
          next = record {
            inside = inside;
            offset = offset ∙ sym (next_at (arena_of space r.loader) r.place.chunk
                (record { chunk = r.place.chunk; used = used_words r.place.chunk pre }) here
                ∙ ap (λ t. cond t (used_words r.place.chunk pre) 0) (same_chunk-itself
                r.place.chunk));
          };
          front = λ zero_is. absurd (omega (arith, zero_is, offset, some, counted));
        }
    by_place (inr e) =
        let both_new = and_parts (eqb r.place.offset 0) (is_unused r.place.chunk pre) e in
        let zero_is = eqb-true r.place.offset 0 both_new.0 in
        record {
          next = record { inside = inside; offset = zero_is ∙ sym (next_zero both_new.1) };
          front = λ _. (
            subst (λ (z : Sizes). IsChunk z r.place.chunk) (sym h.matches.geometry) block,
            free_there laws sizes n pre space h r.place.chunk chunk_is both_new.1,
          );
        }
      where
        block : IsChunk sizes r.place.chunk
        block = chunk_block sizes r.place.chunk chunk_is

        next_zero : is_unused r.place.chunk pre ≡ true
            → next_offset (arena_of space r.loader) r.place.chunk ≡ 0
        next_zero unused = by_last (last_chunk r.loader (classes_in pre)) refl
          where
            by_last : (o : Option Chunk) → last_chunk r.loader (classes_in pre) ≡ o
                → next_offset (arena_of space r.loader) r.place.chunk ≡ 0
            by_last None is =
                ap (λ chain. next_offset chain r.place.chunk)
                (no_last (arena_of space r.loader)
                (tops ∙ ap (option_map (λ c. record { chunk = c; used = used_words c pre })) is))
            by_last (Some d) is =
                let row = last_chunk-among r.loader (classes_in pre) d is in
                let other : same_chunk d r.place.chunk ≡ false =
                subst (λ (c : Chunk). same_chunk c r.place.chunk ≡ false) row.3
                (never-on r.place.chunk (classes_in pre) unused row.0 row.1) in
                next_at (arena_of space r.loader) r.place.chunk
                (record { chunk = d; used = used_words d pre })
                (tops ∙ ap (option_map (λ c. record { chunk = c; used = used_words c pre })) is)
                ∙ ap (λ t. cond t (used_words d pre) 0) other
