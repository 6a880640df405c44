-- The chain that rows give a loader.
-- For `Front::restore`, `arenas_are_of_rows`, `chains_go_with_rows` and others.
use Rattle.std.proofs.Common.{◌≡◌, ℕ, ◌+◌, ◌≤◌, ◌⊎◌, Bool, true, false, cond, List, []}
use Rattle.std.proofs.Common.{◌∷◌, ◌++◌, map, Option, Some, None, inl, inr, refl, sym, ap}
use Rattle.std.proofs.Common.{subst, ◌∙◌, arith, eqb}
use Rattle.std.specs.Prelude.{◌&&◌, not, filter, sum, nat_le}
use Rattle.std.specs.List.{list_any}
use Rattle.std.specs.Option.{option_map, option_map_or}
use Rattle.std.proofs.lemmas.Bool.{eq-eqb, leb-true, and_parts}
use Rattle.std.proofs.lemmas.Bool.{or_cases}
use Rattle.std.proofs.lemmas.List.{map-append}
use Rattle.std.proofs.lemmas.List.Sums.{sum_by-append}
use Rattle.std.proofs.lemmas.List.Elements.{filter-append}
use Rattle.cm_pool.specs.declared.chunk.Chunk.{Chunk}
use Rattle.cm_pool.specs.declared.place.Place.{Place}
use Rattle.cm_pool.specs.Chunks.{chunk_size, same_chunk, Meets}
use Rattle.cm_pool.specs.Geometry.{Sizes}
use Rattle.cm_pool.specs.Lists.{Among}
use Rattle.cm_pool.proofs.{same_chunk-true, same_chunk-itself, meets-itself, same_chunk-false}
use Rattle.cm_arena.specs.Chains.{Filled, last_of}
use Rattle.cm_arena.specs.Placing.{with_place}
use Rattle.cm_layout.specs.declared.class_row.ClassRow.{ClassRow}
use Rattle.cm_layout.specs.declared.row.Row.TheVariants.{Class}
use Rattle.cm_layout.specs.Rows.{classes_in, last_chunk, used_words}
use Rattle.cm_layout.specs.Rules.{is_live, is_chunk, meets, is_unused, is_last_chunk, has_place}
use Rattle.cm_layout.specs.Rules.{class_fits, broken_of, has_room}
use Rattle.cm_layout.specs.Frames.{BareRow, AreApart}
use Rattle.cm_layout.proofs.{last_chunk-among, is_unused-apart}
use Rattle.cm_layout.proofs.{classes_in-append}
use Rattle.cm_front.specs.Chains.{chain_from, chain_of, top_of}

-- ---- tests

-- ---- one more class

chain-more : (chain : List Filled) (u : ℕ) (classes : List ClassRow) (r : ClassRow)
    → chain_from chain u (classes ++ r ∷ [])
    ≡ cond (eqb r.loader u) (with_place (chain_from chain u classes) r.place)
    (chain_from chain u classes)
chain-more chain u [] r = by_test (eqb r.loader u)
  where
    by_test : (t : Bool) → cond t (chain_from (with_place chain r.place) u [])
        (chain_from chain u [])
        ≡ cond t (with_place chain r.place) chain
    by_test true = refl
    by_test false = refl
chain-more chain u (s ∷ classes) r =
    by_test (eqb s.loader u) (chain-more (with_place chain s.place) u classes r)
    (chain-more chain u classes r)
  where
    next : List Filled → List Filled
    next c = cond (eqb r.loader u) (with_place c r.place) c

    by_test : (t : Bool)
        → chain_from (with_place chain s.place) u (classes ++ r ∷ [])
        ≡ cond (eqb r.loader u) (with_place
        (chain_from (with_place chain s.place) u classes) r.place)
        (chain_from (with_place chain s.place) u classes)
        → chain_from chain u (classes ++ r ∷ [])
        ≡ cond (eqb r.loader u) (with_place (chain_from chain u classes) r.place)
        (chain_from chain u classes)
        → cond t (chain_from (with_place chain s.place) u (classes ++ r ∷ []))
        (chain_from chain u (classes ++ r ∷ []))
        ≡ cond (eqb r.loader u)
        (with_place (cond t (chain_from (with_place chain s.place) u classes)
        (chain_from chain u classes)) r.place)
        (cond t (chain_from (with_place chain s.place) u classes) (chain_from chain u classes))
    by_test true here there = here
    by_test false here there = there

pub chain_grows : (u : ℕ) (rows : List BareRow) (r : ClassRow) → r.loader ≡ u
    → chain_of u (rows ++ Class r (tt {0}) ∷ []) ≡ with_place (chain_of u rows) r.place
chain_grows u rows r e =
    ap (chain_from [] u) (classes_in-append rows (Class r (tt {0}) ∷ []))
    ∙ (chain-more [] u (classes_in rows) r
    ∙ ap (λ t. cond t (with_place (chain_of u rows) r.place) (chain_of u rows))
    (eq-eqb r.loader u e))

pub chain_stays : (u : ℕ) (rows : List BareRow) (r : ClassRow) → eqb r.loader u ≡ false
    → chain_of u (rows ++ Class r (tt {0}) ∷ []) ≡ chain_of u rows
chain_stays u rows r e =
    ap (chain_from [] u) (classes_in-append rows (Class r (tt {0}) ∷ []))
    ∙ (chain-more [] u (classes_in rows) r
    ∙ ap (λ t. cond t (with_place (chain_of u rows) r.place) (chain_of u rows)) e)

last-more : (u : ℕ) (classes : List ClassRow) (r : ClassRow)
    → last_chunk u (classes ++ r ∷ [])
    ≡ cond (eqb r.loader u) (Some r.place.chunk) (last_chunk u classes)
last-more u [] r = refl
last-more u (s ∷ classes) r =
    ap (λ (o : Option Chunk).
    elim o [ Some c ↦ Some c | None ↦ cond (eqb s.loader u) (Some s.place.chunk) None ])
    (last-more u classes r)
    ∙ by_test (eqb r.loader u)
  where
    by_test : (t : Bool)
        → elim (cond t (Some r.place.chunk) (last_chunk u classes))
        [ Some c ↦ Some c | None ↦ cond (eqb s.loader u) (Some s.place.chunk) None ]
        ≡ cond t (Some r.place.chunk)
        (elim (last_chunk u classes)
        [ Some c ↦ Some c | None ↦ cond (eqb s.loader u) (Some s.place.chunk) None ])
    by_test true = refl
    by_test false = refl

-- words on a chunk
words_on : Chunk → List ClassRow → ℕ
words_on c classes =
    sum (map (λ r. r.place.words) (filter (λ r. same_chunk r.place.chunk c) classes))

words-more : (c : Chunk) (classes : List ClassRow) (r : ClassRow)
    → words_on c (classes ++ r ∷ [])
    ≡ words_on c classes + cond (same_chunk r.place.chunk c) r.place.words 0
unfolding words_on
words-more c classes r =
    let test = λ (s : ClassRow). same_chunk s.place.chunk c in
    let words = λ (s : ClassRow). s.place.words in
    let listed : map words (filter test (classes ++ r ∷ []))
    ≡ map words (filter test classes) ++ map words (filter test (r ∷ [])) =
    ap (map words) (filter-append test classes (r ∷ []))
    ∙ map-append words (filter test classes) (filter test (r ∷ [])) in
    ap sum listed
    ∙ (sum_by-append (λ (n : ℕ). n) (map words (filter test classes))
    (map words (filter test (r ∷ [])))
    ∙ by_test (same_chunk r.place.chunk c))
  where
    by_test : (t : Bool)
        → sum (map (λ (s : ClassRow). s.place.words)
        (filter (λ (s : ClassRow). same_chunk s.place.chunk c) classes))
        + sum (map (λ (s : ClassRow). s.place.words) (cond t (r ∷ []) []))
        ≡ sum (map (λ (s : ClassRow). s.place.words)
        (filter (λ (s : ClassRow). same_chunk s.place.chunk c) classes))
        + cond t r.place.words 0
    by_test true = omega arith
    by_test false = omega arith

used-more : (c : Chunk) (rows : List BareRow) (r : ClassRow)
    → used_words c (rows ++ Class r (tt {0}) ∷ [])
    ≡ used_words c rows + cond (same_chunk r.place.chunk c) r.place.words 0
unfolding words_on
used-more c rows r =
    ap (words_on c) (classes_in-append rows (Class r (tt {0}) ∷ [])) ∙ words-more c
    (classes_in rows) r

-- no record is on a chunk that no row uses
unused-words : (c : Chunk) (classes : List ClassRow)
    → ((s : ClassRow) → Among s classes → same_chunk s.place.chunk c ≡ false)
    → words_on c classes ≡ 0
unfolding words_on
unused-words c [] no_one = refl
unused-words c (r ∷ classes) no_one =
    ap (λ (t : Bool). sum (map (λ (s : ClassRow). s.place.words)
    (cond t (r ∷ filter (λ (s : ClassRow). same_chunk s.place.chunk c) classes)
    (filter (λ (s : ClassRow). same_chunk s.place.chunk c) classes))))
    (no_one r (inl refl))
    ∙ unused-words c classes (λ s m. no_one s (inr m))

-- ---- where chains end

pub with_place-last : (chain : List Filled) (place : Place) (c : Chunk) (used : ℕ)
    → last_of chain ≡ Some (record { chunk = c; used = used })
    → last_of (with_place chain place)
    ≡ cond (same_chunk c place.chunk) (Some (record { chunk = c; used = used + place.words }))
    (Some (record { chunk = place.chunk; used = place.words }))
with_place-last [] place c used e = absurd (cc)
with_place-last (f ∷ []) place c used e =
    let here : f ≡ record { chunk = c; used = used } = cc in
    subst (λ (g : Filled). last_of (with_place (g ∷ []) place)
    ≡ cond (same_chunk c place.chunk) (Some (record { chunk = c; used = used + place.words }))
    (Some (record { chunk = place.chunk; used = place.words }))) (sym here)
    (by_test (same_chunk c place.chunk))
  where
    by_test : (t : Bool)
        → last_of (cond t (record { chunk = c; used = used + place.words } ∷ [])
        (record { chunk = c; used = used }
        ∷ record { chunk = place.chunk; used = place.words } ∷ []))
        ≡ cond t (Some (record { chunk = c; used = used + place.words }))
        (Some (record { chunk = place.chunk; used = place.words }))
    by_test true = refl
    by_test false = refl
with_place-last (f ∷ g ∷ rest) place c used e =
    last-behind f (g ∷ rest) place ∙ with_place-last (g ∷ rest) place c used e
  where
    last-behind : (f : Filled) (chain : List Filled) (place : Place)
        → last_of (f ∷ with_place chain place)
        ≡ last_of (with_place chain place)
    last-behind f [] place = refl
    last-behind f (g ∷ []) place = by_test (same_chunk g.chunk place.chunk)
      where
        by_test : (t : Bool)
            → last_of (f ∷ cond t (record { chunk = g.chunk; used = g.used + place.words } ∷ [])
            (g ∷ record { chunk = place.chunk; used = place.words } ∷ []))
            ≡ last_of (cond t (record { chunk = g.chunk; used = g.used + place.words } ∷ [])
            (g ∷ record { chunk = place.chunk; used = place.words } ∷ []))
        by_test true = refl
        by_test false = refl
    last-behind f (g ∷ h ∷ rest) place = refl

pub no_last : (chain : List Filled) → last_of chain ≡ None → chain ≡ []
no_last [] e = refl
no_last (f ∷ []) e = absurd (cc)
no_last (f ∷ g ∷ rest) e = let none : (g ∷ rest) ≡ [] = no_last (g ∷ rest) e in absurd (cc)

-- the last chunk, by the test on it
last-is : (c : Chunk) (o : Option Chunk)
    → option_map_or (λ last. same_chunk last c) o false ≡ true → o ≡ Some c
last-is c (Some d) h = ap Some (same_chunk-true d c h)
last-is c None h = absurd (cc)

-- the last chunk of a loader that has a class there
pub own-last : (u : ℕ) (rows : List BareRow) (r : ClassRow) → r.loader ≡ u
    → is_last_chunk r.loader r.place.chunk rows ≡ true
    → last_chunk u (classes_in rows) ≡ Some r.place.chunk
own-last u rows r mine h =
    subst (λ (v : ℕ). last_chunk v (classes_in rows) ≡ Some r.place.chunk) mine
    (last-is r.place.chunk (last_chunk r.loader (classes_in rows)) h)

pub never-on : (c : Chunk) (classes : List ClassRow)
    → not (list_any (meets c) (map (λ (r : ClassRow). r.place.chunk) classes)) ≡ true
    → (s : ClassRow) → Among s classes → same_chunk s.place.chunk c ≡ false
never-on c classes h s m =
    same_chunk-false s.place.chunk c (λ e. is_unused-apart c classes s h m
    (subst (λ (d : Chunk). Meets c d) (sym e) (meets-itself c)))

class_kept : (a b : Bool) → broken_of a b ≡ None → b ≡ true
class_kept true true e = refl
class_kept true false e = absurd (cc)
class_kept false b e = absurd (cc)

-- where a class's record lies among those before it
pub place_of : (sizes : Sizes) (pre : List BareRow) (r : ClassRow)
    → broken_of (is_live r.loader pre && has_room sizes pre (Class r tt)) (class_fits sizes pre r)
    ≡ None
    → has_place pre r ≡ true
place_of sizes pre r h =
    let chunk = is_chunk sizes r.place.chunk in
    let words = nat_le 1 r.place.words in
    let within = nat_le (r.place.offset + r.place.words) (chunk_size r.place.chunk.order) in
    (and_parts (chunk && words && within) (has_place pre r)
    (class_kept (is_live r.loader pre && has_room sizes pre (Class r tt))
    (class_fits sizes pre r) h)).1

-- it has a word
pub some_words : (sizes : Sizes) (pre : List BareRow) (r : ClassRow)
    → broken_of (is_live r.loader pre && has_room sizes pre (Class r tt)) (class_fits sizes pre r)
    ≡ None
    → 1 ≤ r.place.words
some_words sizes pre r h =
    let chunk = is_chunk sizes r.place.chunk in
    let words = nat_le 1 r.place.words in
    let within = nat_le (r.place.offset + r.place.words) (chunk_size r.place.chunk.order) in
    let fits = and_parts (chunk && words && within) (has_place pre r)
    (class_kept (is_live r.loader pre && has_room sizes pre (Class r tt))
    (class_fits sizes pre r) h) in
    leb-true 1 r.place.words (and_parts chunk words (and_parts (chunk && words) within fits.0).0).1

-- the chain of a loader ends at its top
abbrev pub EndsAtTop : ℕ → List BareRow → Type 0
EndsAtTop u rows = last_of (chain_of u rows) ≡ top_of u rows

top_with : Chunk → ℕ → Option Filled
top_with c used = Some (record { chunk = c; used = used })

pub own_class : (u : ℕ) (pre : List BareRow) (r : ClassRow) → r.loader ≡ u → has_place pre r ≡ true
    → EndsAtTop u pre → EndsAtTop u (pre ++ Class r (tt {0}) ∷ [])
unfolding top_with words_on
own_class u pre r mine place before =
    ap last_of (chain_grows u pre r mine)
    ∙ (by_place (or_cases on_top new place) ∙ sym top)
  where
    on_top : Bool
    on_top = is_last_chunk r.loader r.place.chunk pre
        && eqb r.place.offset (used_words r.place.chunk pre)

    new : Bool
    new = eqb r.place.offset 0 && is_unused r.place.chunk pre

    used_now : used_words r.place.chunk (pre ++ Class r (tt {0}) ∷ [])
        ≡ used_words r.place.chunk pre + r.place.words
    used_now =
        used-more r.place.chunk pre r
        ∙ ap (λ t. used_words r.place.chunk pre + cond t r.place.words 0)
        (same_chunk-itself r.place.chunk)

    top : top_of u (pre ++ Class r (tt {0}) ∷ [])
        ≡ top_with r.place.chunk (used_words r.place.chunk pre + r.place.words)
    top =
        ap (option_map (λ c. record {
          chunk = c;
          used = used_words c (pre ++ Class r (tt {0}) ∷ []);
        }))
        (ap (last_chunk u) (classes_in-append pre (Class r (tt {0}) ∷ []))
        ∙ (last-more u (classes_in pre) r
        ∙ ap (λ t. cond t (Some r.place.chunk) (last_chunk u (classes_in pre)))
        (eq-eqb r.loader u mine)))
        ∙ ap (top_with r.place.chunk) used_now

    by_place : (on_top ≡ true) ⊎ (new ≡ true)
        → last_of (with_place (chain_of u pre) r.place)
        ≡ top_with r.place.chunk (used_words r.place.chunk pre + r.place.words)
    by_place (inl h) =
        let parts = and_parts (is_last_chunk r.loader r.place.chunk pre)
        (eqb r.place.offset (used_words r.place.chunk pre)) h in
        let last = own-last u pre r mine parts.0 in
        let here : last_of (chain_of u pre)
        ≡ top_with r.place.chunk (used_words r.place.chunk pre) =
        before ∙ ap (option_map (λ c. record { chunk = c; used = used_words c pre })) last in
        with_place-last (chain_of u pre) r.place r.place.chunk (used_words r.place.chunk pre) here
        ∙ ap (λ t. cond t (top_with r.place.chunk (used_words r.place.chunk pre + r.place.words))
        (top_with r.place.chunk r.place.words)) (same_chunk-itself r.place.chunk)
    by_place (inr h) =
        let parts = and_parts (eqb r.place.offset 0) (is_unused r.place.chunk pre) h in
        let none : used_words r.place.chunk pre ≡ 0 =
        unused-words r.place.chunk (classes_in pre)
        (never-on r.place.chunk (classes_in pre) parts.1) in
        by_last (last_chunk u (classes_in pre)) refl parts.1
        ∙ ap (top_with r.place.chunk) (omega (arith, none))
      where
        by_last : (o : Option Chunk) → last_chunk u (classes_in pre) ≡ o
            → is_unused r.place.chunk pre ≡ true
            → last_of (with_place (chain_of u pre) r.place) ≡ top_with r.place.chunk r.place.words
        by_last (Some d) is unused =
            let row = last_chunk-among u (classes_in pre) d is in
            let other : same_chunk d r.place.chunk ≡ false =
            subst (λ (c : Chunk). same_chunk c r.place.chunk ≡ false) row.3
            (never-on r.place.chunk (classes_in pre) unused row.0 row.1) in
            let here : last_of (chain_of u pre) ≡ top_with d (used_words d pre) =
            before ∙ ap (option_map (λ c. record { chunk = c; used = used_words c pre })) is in
            with_place-last (chain_of u pre) r.place d (used_words d pre) here
            ∙ ap (λ t. cond t (top_with d (used_words d pre + r.place.words))
            (top_with r.place.chunk r.place.words)) other
        by_last None is unused =
            let empty : chain_of u pre ≡ [] =
            no_last (chain_of u pre)
            (before ∙ ap (option_map (λ c. record { chunk = c; used = used_words c pre })) is) in
            ap (λ (chain : List Filled). last_of (with_place chain r.place)) empty

pub other_class : (u : ℕ) (pre : List BareRow) (r : ClassRow) → eqb r.loader u ≡ false
    → AreApart (classes_in (pre ++ Class r (tt {0}) ∷ []))
    → EndsAtTop u pre → EndsAtTop u (pre ++ Class r (tt {0}) ∷ [])
other_class u pre r other apart before =
    ap last_of (chain_stays u pre r other)
    ∙ (before ∙ (by_last (last_chunk u (classes_in pre)) refl ∙ sym same_last))
  where
    all : List ClassRow
    all = classes_in (pre ++ Class r (tt {0}) ∷ [])

    top_over : List BareRow → Option Chunk → Option Filled
    top_over rows o = option_map (λ c. record { chunk = c; used = used_words c rows }) o

    same_last : top_of u (pre ++ Class r (tt {0}) ∷ [])
        ≡ top_over (pre ++ Class r (tt {0}) ∷ []) (last_chunk u (classes_in pre))
    same_last =
        ap (top_over (pre ++ Class r (tt {0}) ∷ []))
        (ap (last_chunk u) (classes_in-append pre (Class r (tt {0}) ∷ []))
        ∙ (last-more u (classes_in pre) r
        ∙ ap (λ t. cond t (Some r.place.chunk) (last_chunk u (classes_in pre))) other))

    front-among : (xs ys : List ClassRow) (s : ClassRow) → Among s xs → Among s (xs ++ ys)
    front-among [] ys s none = absurd none
    front-among (x ∷ xs) ys s (inl e) = inl e
    front-among (x ∷ xs) ys s (inr m) = inr (front-among xs ys s m)

    back-among : (xs : List ClassRow) (s : ClassRow) → Among s (xs ++ s ∷ [])
    back-among [] s = inl refl
    back-among (x ∷ xs) s = inr (back-among xs s)

    by_last : (o : Option Chunk) → last_chunk u (classes_in pre) ≡ o
        → top_over pre o ≡ top_over (pre ++ Class r (tt {0}) ∷ []) o
    by_last (Some d) is =
        let row = last_chunk-among u (classes_in pre) d is in
        let split = classes_in-append pre (Class r (tt {0}) ∷ []) in
        let first : Among row.0 all =
        subst (λ (l : List ClassRow). Among row.0 l) (sym split)
        (front-among (classes_in pre) (r ∷ []) row.0 row.1) in
        let second : Among r all =
        subst (λ (l : List ClassRow). Among r l) (sym split) (back-among (classes_in pre) r) in
        let differ : same_chunk r.place.chunk d ≡ false =
        same_chunk-false r.place.chunk d (λ e.
        let meets_it : Meets r.place.chunk row.0.place.chunk =
        subst (λ (c : Chunk). Meets r.place.chunk c) (e ∙ sym row.3) (meets-itself r.place.chunk) in
        let owner : r.loader ≡ row.0.loader = (apart r row.0 second first meets_it).1 in
        no_way (eqb r.loader u) refl (owner ∙ row.2)) in
        let used = used-more d pre r
        ∙ (ap (λ t. used_words d pre + cond t r.place.words 0) differ ∙ omega arith) in
        ap (λ (n : ℕ). Some (record { chunk = d; used = n })) (sym used)
      where
        no_way : (t : Bool) → eqb r.loader u ≡ t → r.loader ≡ u → ⊥
        no_way t e is = let yes : eqb r.loader u ≡ true = eq-eqb r.loader u is in absurd (cc)
    by_last None is = refl
