-- Chains end at the top of their loader's last chunk, have the chunk of each class, and consist of
-- the chunks that its classes begin.
-- For `arenas_are_of_rows`, `chains_go_with_rows`.
use Rattle.std.proofs.Common.{◌≡◌, ◌≤◌, ℕ, ◌+◌, ◌⊎◌, Bool, true, false, cond, List, [], ◌∷◌, ◌++◌}
use Rattle.std.proofs.Common.{map, Option, Some, None, inl, inr, refl, sym, ap, subst, ◌∙◌, arith}
use Rattle.std.proofs.Common.{eqb, append_assoc, append-nil}
use Rattle.std.specs.Prelude.{◌&&◌, filter, sum}
use Rattle.std.specs.Option.{option_map}
use Rattle.std.proofs.lemmas.Bool.{eqb-true, eq-eqb, ne_eqb, and_parts, or_cases}
use Rattle.std.proofs.lemmas.List.{map-append}
use Rattle.std.proofs.lemmas.List.Sums.{sum_by-append}
use Rattle.std.proofs.lemmas.List.Elements.{filter-append}
use Rattle.cm_pool.specs.declared.chunk.Chunk.{Chunk}
use Rattle.cm_pool.specs.declared.place.Place.{Place}
use Rattle.cm_pool.specs.Chunks.{same_chunk}
use Rattle.cm_pool.specs.Geometry.{Sizes}
use Rattle.cm_pool.specs.Lists.{Among}
use Rattle.cm_pool.proofs.{same_chunk-true, same_chunk-itself}
use Rattle.cm_arena.specs.Chains.{Filled, chain_chunks, last_of}
use Rattle.cm_arena.specs.Placing.{with_place}
use Rattle.cm_layout.specs.declared.loader_row.LoaderRow.{LoaderRow}
use Rattle.cm_layout.specs.declared.class_row.ClassRow.{ClassRow}
use Rattle.cm_layout.specs.declared.row.Row.TheVariants.{Loader, Class}
use Rattle.cm_layout.specs.Rows.{classes_in, last_chunk, used_words}
use Rattle.cm_layout.specs.Rules.{is_live, is_unused, is_last_chunk, has_place, class_fits}
use Rattle.cm_layout.specs.Rules.{broken_of, has_room}
use Rattle.cm_layout.specs.Frames.{BareRow, AreApart, LiveRowsKeep}
use Rattle.cm_layout.proofs.{last_chunk-among, classes_in-append}
use Rattle.cm_state.specs.Stands.{chunks_of as chunks_begun}
use Rattle.cm_front.specs.Chains.{chain_from, chain_of}
use Rattle.cm_front.specs.Laws.{ChainsEndAtTop, ChainsHaveChunks}
use Rattle.cm_front.proofs.Chains.{EndsAtTop, own_class, other_class, place_of, some_words}
use Rattle.cm_front.proofs.Chains.{chain_grows, chain_stays, own-last}
use Rattle.cm_front.proofs.Chains.{never-on}

-- ---- tops

-- rows with the same classes have the same chains and tops
same-classes : (u : ℕ) (xs ys : List BareRow) → classes_in xs ≡ classes_in ys → EndsAtTop u xs
    → EndsAtTop u ys
same-classes u xs ys e h =
    ap (λ classes. last_of (chain_from [] u classes)) (sym e)
    ∙ (h ∙ ap (λ classes. tops classes) e)
  where
    tops : List ClassRow → Option Filled
    tops classes =
        option_map (λ c. record {
          chunk = c;
          used = sum (map (λ r. r.place.words) (filter (λ r. same_chunk r.place.chunk c) classes));
        })
        (last_chunk u classes)

-- ---- the chunks that classes begin

begun-more : (u : ℕ) (classes : List ClassRow) (r : ClassRow)
    → chunks_begun u (classes ++ r ∷ [])
    ≡ chunks_begun u classes
    ++ cond (eqb r.loader u && eqb r.place.offset 0) (r.place.chunk ∷ []) []
begun-more u classes r =
    let test = λ (s : ClassRow). eqb s.loader u && eqb s.place.offset 0 in
    let chunk = λ (s : ClassRow). s.place.chunk in
    ap (map chunk) (filter-append test classes (r ∷ []))
    ∙ (map-append chunk (filter test classes) (filter test (r ∷ []))
    ∙ ap (λ l. map chunk (filter test classes) ++ l)
    (by_test (eqb r.loader u && eqb r.place.offset 0)))
  where
    by_test : (t : Bool) → map (λ (s : ClassRow). s.place.chunk) (cond t (r ∷ []) [])
        ≡ cond t (r.place.chunk ∷ []) []
    by_test true = refl
    by_test false = refl

same-chunks : (chain : List Filled) (place : Place) (f : Filled) → last_of chain ≡ Some f
    → same_chunk f.chunk place.chunk ≡ true → chain_chunks (with_place chain place)
    ≡ chain_chunks chain
same-chunks [] place f e same = absurd (cc)
same-chunks (g ∷ []) place f e same =
    let here : g ≡ f = cc in
    ap (λ t. chain_chunks (cond t (record { chunk = g.chunk; used = g.used + place.words } ∷ [])
    (g ∷ record { chunk = place.chunk; used = place.words } ∷ [])))
    (ap (λ (h : Filled). same_chunk h.chunk place.chunk) here ∙ same)
same-chunks (g ∷ h ∷ rest) place f e same =
    ap (λ l. g.chunk ∷ l) (same-chunks (h ∷ rest) place f e same)

another-chunk : (chain : List Filled) (place : Place)
    → ((f : Filled) → last_of chain ≡ Some f → same_chunk f.chunk place.chunk ≡ false)
    → chain_chunks (with_place chain place) ≡ chain_chunks chain ++ place.chunk ∷ []
another-chunk [] place other = refl
another-chunk (g ∷ []) place other =
    ap (λ t. chain_chunks (cond t (record { chunk = g.chunk; used = g.used + place.words } ∷ [])
    (g ∷ record { chunk = place.chunk; used = place.words } ∷ []))) (other g refl)
another-chunk (g ∷ h ∷ rest) place other =
    ap (λ l. g.chunk ∷ l) (another-chunk (h ∷ rest) place other)

-- ---- rows one after another

abbrev HasWords : List ClassRow → Type 0
HasWords classes = (s : ClassRow) → Among s classes → 1 ≤ s.place.words

-- a chunk that a class is on has used words
some-used : (c : Chunk) (classes : List ClassRow) (s : ClassRow) → HasWords classes
    → Among s classes → s.place.chunk ≡ c
    → 1 ≤ sum (map (λ (r : ClassRow). r.place.words)
    (filter (λ (r : ClassRow). same_chunk r.place.chunk c) classes))
some-used c [] s words none is = absurd none
some-used c (r ∷ classes) s words m is =
    by_test (λ later. some-used c classes s (λ t n. words t (inr n)) later is)
    (same_chunk r.place.chunk c) refl m
  where
    behind : List ClassRow
    behind = filter (λ (t : ClassRow). same_chunk t.place.chunk c) classes

    by_test : (Among s classes → 1 ≤ sum (map (λ (r : ClassRow). r.place.words) behind))
        → (t : Bool) → same_chunk r.place.chunk c ≡ t → Among s (r ∷ classes)
        → 1 ≤ sum (map (λ (r : ClassRow). r.place.words) (cond t (r ∷ behind) behind))
    by_test rest true e m =
        let first = words r (inl refl) in
        let parts : sum (r.place.words ∷ map (λ (t : ClassRow). t.place.words) behind)
        ≡ sum (r.place.words ∷ []) + sum (map (λ (t : ClassRow). t.place.words) behind) =
        sum_by-append (λ (n : ℕ). n) (r.place.words ∷ [])
        (map (λ (t : ClassRow). t.place.words) behind) in
        omega (arith, first, parts)
    by_test rest false e (inl here) =
        let itself : same_chunk r.place.chunk c ≡ true =
        ap (λ (d : Chunk). same_chunk d c) (ap (λ (t : ClassRow). t.place.chunk) (sym here) ∙ is)
        ∙ same_chunk-itself c in
        absurd (cc)
    by_test rest false e (inr later) = rest later

-- the chain of a loader matches these rows
record ChainFollows (u : ℕ) (rows : List BareRow) : Type 0 where
  top : EndsAtTop u rows
  chunks : chain_chunks (chain_from [] u (classes_in rows)) ≡ chunks_begun u (classes_in rows)
  words : HasWords (classes_in rows)

loader-kept : (u : ℕ) (pre : List BareRow) (r : LoaderRow) → ChainFollows u pre
    → ChainFollows u (pre ++ Loader r ∷ [])
loader-kept u pre r before =
    let same = sym (classes_in-append pre (Loader r ∷ []) ∙ append-nil (classes_in pre)) in
    record {
      top = same-classes u pre (pre ++ Loader r ∷ []) same before.top;
      chunks = subst (λ (l : List ClassRow). chain_chunks (chain_from [] u l)
          ≡ chunks_begun u l) same
          before.chunks;
      words = subst HasWords same before.words;
    }

more-words : (pre : List BareRow) (r : ClassRow) → HasWords (classes_in pre) → 1 ≤ r.place.words
    → HasWords (classes_in (pre ++ Class r (tt {0}) ∷ []))
more-words pre r words some s m =
    by_end (classes_in pre) words (subst (λ l. Among s l) (classes_in-append pre (Class r tt ∷ []))
    m)
  where
    by_end : (classes : List ClassRow) → HasWords classes → Among s (classes ++ r ∷ [])
        → 1 ≤ s.place.words
    by_end [] words (inl e) = subst (λ (t : ClassRow). 1 ≤ t.place.words) (sym e) some
    by_end [] words (inr none) = absurd none
    by_end (t ∷ classes) words (inl e) = words s (inl e)
    by_end (t ∷ classes) words (inr later) = by_end classes (λ v n. words v (inr n)) later

-- what one more class of the loader begins
own-chunks : (u : ℕ) (pre : List BareRow) (r : ClassRow) → r.loader ≡ u → has_place pre r ≡ true
    → ChainFollows u pre
    → chain_chunks (with_place (chain_of u pre) r.place)
    ≡ chunks_begun u (classes_in pre) ++ cond (eqb r.place.offset 0) (r.place.chunk ∷ []) []
own-chunks u pre r mine place before = by_place (or_cases on_top new place)
  where
    on_top : Bool
    on_top = is_last_chunk r.loader r.place.chunk pre
        && eqb r.place.offset (used_words r.place.chunk pre)

    new : Bool
    new = eqb r.place.offset 0 && is_unused r.place.chunk pre

    begun : List Chunk
    begun = chunks_begun u (classes_in pre)

    filled : Chunk → Filled
    filled c = record { chunk = c; used = used_words c pre }

    other : is_unused r.place.chunk pre ≡ true → (f : Filled) → last_of (chain_of u pre) ≡ Some f
        → same_chunk f.chunk r.place.chunk ≡ false
    other unused f e = by_last (last_chunk u (classes_in pre)) refl
      where
        by_last : (o : Option Chunk) → last_chunk u (classes_in pre) ≡ o
            → same_chunk f.chunk r.place.chunk ≡ false
        by_last None is =
            let none : Some f ≡ None = sym e ∙ (before.top ∙ ap (option_map filled) is) in
            absurd (cc)
        by_last (Some d) is =
            let row = last_chunk-among u (classes_in pre) d is in
            let here : Some f ≡ Some (filled d) =
            sym e ∙ (before.top ∙ ap (option_map filled) is) in
            let same : f ≡ filled d = cc in
            ap (λ (c : Chunk). same_chunk c r.place.chunk)
            (ap (λ (g : Filled). g.chunk) same ∙ sym row.3)
            ∙ never-on r.place.chunk (classes_in pre) unused row.0 row.1

    by_place : (on_top ≡ true) ⊎ (new ≡ true)
        → chain_chunks (with_place (chain_of u pre) r.place)
        ≡ begun ++ cond (eqb r.place.offset 0) (r.place.chunk ∷ []) []
    by_place (inl h) =
        let parts = and_parts (is_last_chunk r.loader r.place.chunk pre)
        (eqb r.place.offset (used_words r.place.chunk pre)) h in
        let last = own-last u pre r mine parts.0 in
        let row = last_chunk-among u (classes_in pre) r.place.chunk last in
        let used = some-used r.place.chunk (classes_in pre) row.0 before.words row.1 row.3 in
        let offset = eqb-true r.place.offset (used_words r.place.chunk pre) parts.1 in
        let behind : eqb r.place.offset 0 ≡ false =
        ne_eqb r.place.offset 0 (λ front. omega (arith, used, offset, front)) in
        same-chunks (chain_of u pre) r.place (filled r.place.chunk)
        (before.top ∙ ap (option_map filled) last) (same_chunk-itself r.place.chunk)
        ∙ (before.chunks
        ∙ sym (ap (λ t. begun ++ cond t (r.place.chunk ∷ []) []) behind ∙ append-nil begun))
    by_place (inr h) =
        let parts = and_parts (eqb r.place.offset 0) (is_unused r.place.chunk pre) h in
        another-chunk (chain_of u pre) r.place (other parts.1)
        ∙ (ap (λ l. l ++ r.place.chunk ∷ []) before.chunks
        ∙ sym (ap (λ t. begun ++ cond t (r.place.chunk ∷ []) []) parts.0))

class-kept : (sizes : Sizes) (u : ℕ) (pre : List BareRow) (r : ClassRow)
    → broken_of (is_live r.loader pre && has_room sizes pre (Class r tt)) (class_fits sizes pre r)
    ≡ None
    → AreApart (classes_in (pre ++ Class r (tt {0}) ∷ [])) → ChainFollows u pre
    → ChainFollows u (pre ++ Class r (tt {0}) ∷ [])
class-kept sizes u pre r kept apart before = by_loader (eqb r.loader u) refl
  where
    words : HasWords (classes_in (pre ++ Class r (tt {0}) ∷ []))
    words = more-words pre r before.words (some_words sizes pre r kept)

    begun : chunks_begun u (classes_in (pre ++ Class r (tt {0}) ∷ []))
        ≡ chunks_begun u (classes_in pre)
        ++ cond (eqb r.loader u && eqb r.place.offset 0) (r.place.chunk ∷ []) []
    begun = ap (chunks_begun u) (classes_in-append pre (Class r tt ∷ [])) ∙ begun-more u
        (classes_in pre) r

    by_loader : (t : Bool) → eqb r.loader u ≡ t → ChainFollows u (pre ++ Class r (tt {0}) ∷ [])
    by_loader true e =
        let mine = eqb-true r.loader u e in
        let place = place_of sizes pre r kept in
        record {
          top = own_class u pre r mine place before.top;
          chunks =
              ap chain_chunks (chain_grows u pre r mine)
              ∙ (own-chunks u pre r mine place before
              ∙ sym (begun ∙ ap (λ t. chunks_begun u (classes_in pre)
              ++ cond (t && eqb r.place.offset 0) (r.place.chunk ∷ []) []) e));
          words = words;
        }
    by_loader false e =
        record {
          top = other_class u pre r e apart before.top;
          chunks =
              ap chain_chunks (chain_stays u pre r e)
              ∙ (before.chunks
              ∙ sym (begun ∙ (ap (λ t. chunks_begun u (classes_in pre)
              ++ cond (t && eqb r.place.offset 0) (r.place.chunk ∷ []) []) e
              ∙ append-nil (chunks_begun u (classes_in pre)))));
          words = words;
        }

goes_on_from : (sizes : Sizes) (n : ℕ) (pre rows : List BareRow) → LiveRowsKeep sizes n pre rows
    → AreApart (classes_in (pre ++ rows)) → (u : ℕ) → ChainFollows u pre
    → ChainFollows u (pre ++ rows)
goes_on_from sizes n pre [] k apart u before =
    subst (λ l. ChainFollows u l) (sym (append-nil pre)) before
goes_on_from sizes n pre (Loader r ∷ rows) k apart u before =
    let assoc = append_assoc pre (Loader r ∷ []) rows in
    subst (λ l. ChainFollows u l) assoc
    (goes_on_from sizes n (pre ++ Loader r ∷ []) rows k.2
    (subst (λ l. AreApart (classes_in l)) (sym assoc) apart) u (loader-kept u pre r before))
goes_on_from sizes n pre (Class r p ∷ rows) k apart u before =
    subst (λ l. ChainFollows u l) assoc
    (goes_on_from sizes n (pre ++ Class r p ∷ []) rows k.2
    (subst (λ l. AreApart (classes_in l)) (sym assoc) apart) u
    (class-kept sizes u pre r k.1 front_apart before))
  where
    assoc : (pre ++ Class r (tt {0}) ∷ []) ++ rows ≡ pre ++ Class r (tt {0}) ∷ rows
    assoc = append_assoc pre (Class r (tt {0}) ∷ []) rows

    -- what is apart in the whole is also apart in its beginning
    in-front : (xs ys : List BareRow) (s : ClassRow) → Among s (classes_in xs)
        → Among s (classes_in (xs ++ ys))
    in-front [] ys s none = absurd none
    in-front (Loader t ∷ xs) ys s m = in-front xs ys s m
    in-front (Class t q ∷ xs) ys s (inl e) = inl e
    in-front (Class t q ∷ xs) ys s (inr m) = inr (in-front xs ys s m)

    front_apart : AreApart (classes_in (pre ++ Class r (tt {0}) ∷ []))
    front_apart s t ms mt = apart s t
        (subst (λ l. Among s (classes_in l)) assoc
        (in-front (pre ++ Class r (tt {0}) ∷ []) rows s ms))
        (subst (λ l. Among t (classes_in l)) assoc
        (in-front (pre ++ Class r (tt {0}) ∷ []) rows t mt))

all_go_on : (sizes : Sizes) (n : ℕ) (rows : List BareRow) → LiveRowsKeep sizes n [] rows
    → AreApart (classes_in rows) → (u : ℕ) → ChainFollows u rows
all_go_on sizes n rows k apart u =
    goes_on_from sizes n [] rows k apart u
    (record { top = refl; chunks = refl; words = λ s none. absurd none })

pub chains_end_at_top : ChainsEndAtTop
chains_end_at_top sizes n rows k apart u = (all_go_on sizes n rows k apart u).top

pub chains_are_begun : (sizes : Sizes) (n : ℕ) (rows : List BareRow) → LiveRowsKeep sizes n [] rows
    → AreApart (classes_in rows) → (u : ℕ)
    → chain_chunks (chain_of u rows) ≡ chunks_begun u (classes_in rows)
chains_are_begun sizes n rows k apart u = (all_go_on sizes n rows k apart u).chunks

-- ---- chunks

placed-kept : (chain : List Filled) (place : Place) (c : Chunk) → Among c (chain_chunks chain)
    → Among c (chain_chunks (with_place chain place))
placed-kept [] place c none = absurd none
placed-kept (f ∷ []) place c m = by_test (same_chunk f.chunk place.chunk) m
  where
    by_test : (t : Bool) → Among c (f.chunk ∷ [])
        → Among c (chain_chunks
        (cond t (record { chunk = f.chunk; used = f.used + place.words } ∷ [])
        (f ∷ record { chunk = place.chunk; used = place.words } ∷ [])))
    by_test true m = m
    by_test false (inl e) = inl e
    by_test false (inr none) = absurd none
placed-kept (f ∷ g ∷ rest) place c (inl e) = inl e
placed-kept (f ∷ g ∷ rest) place c (inr m) = inr (placed-kept (g ∷ rest) place c m)

placed-new : (chain : List Filled) (place : Place)
    → Among place.chunk (chain_chunks (with_place chain place))
placed-new [] place = inl refl
placed-new (f ∷ []) place = by_test (same_chunk f.chunk place.chunk) refl
  where
    by_test : (t : Bool) → same_chunk f.chunk place.chunk ≡ t
        → Among place.chunk (chain_chunks
        (cond t (record { chunk = f.chunk; used = f.used + place.words } ∷ [])
        (f ∷ record { chunk = place.chunk; used = place.words } ∷ [])))
    by_test true e = inl (sym (same_chunk-true f.chunk place.chunk e))
    by_test false e = inr (inl refl)
placed-new (f ∷ g ∷ rest) place = inr (placed-new (g ∷ rest) place)

still-there : (chain : List Filled) (u : ℕ) (classes : List ClassRow) (c : Chunk)
    → Among c (chain_chunks chain) → Among c (chain_chunks (chain_from chain u classes))
still-there chain u [] c m = m
still-there chain u (r ∷ classes) c m =
    by_test (eqb r.loader u)
    (still-there (with_place chain r.place) u classes c (placed-kept chain r.place c m))
    (still-there chain u classes c m)
  where
    by_test : (t : Bool) → Among c (chain_chunks (chain_from (with_place chain r.place) u classes))
        → Among c (chain_chunks (chain_from chain u classes))
        → Among c (chain_chunks (cond t (chain_from (with_place chain r.place) u classes)
        (chain_from chain u classes)))
    by_test true here there = here
    by_test false here there = there

has_chunk : (chain : List Filled) (classes : List ClassRow) (r : ClassRow) → Among r classes
    → Among r.place.chunk (chain_chunks (chain_from chain r.loader classes))
has_chunk chain [] r none = absurd none
has_chunk chain (s ∷ classes) r (inl e) =
    let own : eqb s.loader r.loader ≡ true =
    ap (λ (t : ClassRow). eqb t.loader r.loader) (sym e) ∙ eq-eqb r.loader r.loader refl in
    subst (λ (t : Bool). Among r.place.chunk (chain_chunks (cond t
    (chain_from (with_place chain s.place) r.loader classes) (chain_from chain r.loader classes))))
    (sym own)
    (still-there (with_place chain s.place) r.loader classes r.place.chunk
    (subst (λ (t : ClassRow). Among r.place.chunk (chain_chunks (with_place chain t.place))) e
    (placed-new chain r.place)))
has_chunk chain (s ∷ classes) r (inr m) =
    by_test (eqb s.loader r.loader) (has_chunk (with_place chain s.place) classes r m)
    (has_chunk chain classes r m)
  where
    by_test : (t : Bool)
        → Among r.place.chunk
        (chain_chunks (chain_from (with_place chain s.place) r.loader classes))
        → Among r.place.chunk (chain_chunks (chain_from chain r.loader classes))
        → Among r.place.chunk (chain_chunks
        (cond t (chain_from (with_place chain s.place) r.loader classes)
        (chain_from chain r.loader classes)))
    by_test true here there = here
    by_test false here there = there

pub chains_have_chunks : ChainsHaveChunks
chains_have_chunks rows r m = has_chunk [] (classes_in rows) r m
