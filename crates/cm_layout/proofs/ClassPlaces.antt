-- Where classes are: what the tests on chunks, on last chunks and on words in use say.
-- For `live_rows_go_on`, `loaders_are_own`, `rows_stay_live` and others.
use Rattle.std.proofs.Common.{◌≡◌, ℕ, ◌+◌, ◌≤◌, Bool, true, false, cond, List, [], ◌∷◌}
use Rattle.std.proofs.Common.{◌++◌, map, Option, Some, None, inl, inr, refl, sym, ap, subst, ◌∙◌}
use Rattle.std.proofs.Common.{arith, eqb}
use Rattle.std.specs.Prelude.{not, ◌&&◌, ◌||◌, filter, sum, nat_lt, max, min}
use Rattle.std.specs.List.{list_any}
use Rattle.std.specs.Option.{option_map_or}
use Rattle.std.proofs.lemmas.Bool.{eqb-true, eq-eqb, lt-ltb, ltb-true, and_parts, or_cases}
use Rattle.std.proofs.lemmas.List.{map-append}
use Rattle.std.proofs.lemmas.List.Sums.{sum_by-append}
use Rattle.std.proofs.lemmas.List.Elements.{filter-append}
use Rattle.cm_pool.specs.declared.chunk.Chunk.{Chunk}
use Rattle.cm_pool.specs.Chunks.{chunk_size, same_chunk, Meets, Covers}
use Rattle.cm_pool.specs.Lists.{Among}
use Rattle.cm_pool.proofs.{same_chunk-true}
use Rattle.cm_layout.specs.declared.class_row.ClassRow.{ClassRow}
use Rattle.cm_layout.specs.declared.row.Row.{Row}
use Rattle.cm_layout.specs.declared.row.Row.TheVariants.{Loader, Class}
use Rattle.cm_layout.specs.Rows.{classes_in, used_words, last_chunk}
use Rattle.cm_layout.specs.Rules.{meets, is_unused, is_last_chunk, has_place}

-- ---- chunks that share words

-- chunks that share a word pass the test
pub meets-true : (a b : Chunk) → Meets a b → meets a b ≡ true
meets-true a b m =
    let in_a : Covers a m.0 m.1 = m.2 in
    let in_b : Covers b m.0 m.1 = m.3 in
    let roots : a.root ≡ b.root = sym in_a.same_root ∙ in_b.same_root in
    let test : eqb a.root b.root ≡ true = eq-eqb a.root b.root roots in
    rw test (lt-ltb _ _ (omega (arith, in_a.from, in_a.to, in_b.from, in_b.to)))

-- chunks that pass the test share a word
pub meets-from : (a b : Chunk) → meets a b ≡ true → Meets a b
meets-from a b h =
    let from = max a.at b.at in
    let to = min (a.at + chunk_size a.order) (b.at + chunk_size b.order) in
    let parts = and_parts (eqb a.root b.root) (nat_lt from to) h in
    let lt = ltb-true from to parts.1 in
    let root = eqb-true a.root b.root parts.0 in
    let in_a : Covers a a.root from =
    record { same_root = refl; from = omega arith; to = omega (arith, lt) } in
    let in_b : Covers b a.root from =
    record { same_root = root; from = omega arith; to = omega (arith, lt) } in
    (a.root, from, in_a, in_b)

-- ---- classes of rows that are joined

pub classes_in-append : {A : Type 0} (rows more : List (Row A))
    → classes_in (rows ++ more) ≡ classes_in rows ++ classes_in more
classes_in-append [] more = refl
classes_in-append (Loader r ∷ rows) more = classes_in-append rows more
classes_in-append (Class r p ∷ rows) more = ap (λ l. r ∷ l) (classes_in-append rows more)

-- the words in use on a chunk are those of either part
pub used-append : {A : Type 0} (c : Chunk) (xs ys : List (Row A))
    → used_words c (xs ++ ys) ≡ used_words c xs + used_words c ys
used-append c xs ys =
    let test = λ (r : ClassRow). same_chunk r.place.chunk c in
    let words = λ (r : ClassRow). r.place.words in
    let listed : map words (filter test (classes_in (xs ++ ys)))
    ≡ map words (filter test (classes_in xs)) ++ map words (filter test (classes_in ys)) =
    ap (λ (l : List ClassRow). map words (filter test l)) (classes_in-append xs ys)
    ∙ ap (map words) (filter-append test (classes_in xs) (classes_in ys))
    ∙ map-append words (filter test (classes_in xs)) (filter test (classes_in ys)) in
    ap sum listed ∙ sum_by-append (λ (n : ℕ). n) (map words (filter test (classes_in xs)))
    (map words (filter test (classes_in ys)))

-- ---- the tests on chunks

-- a chunk that no row uses meets none of theirs
pub is_unused-apart : (c : Chunk) (classes : List ClassRow) (s : ClassRow)
    → not (list_any (meets c) (map (λ (r : ClassRow). r.place.chunk) classes)) ≡ true
    → Among s classes → ¬ Meets c s.place.chunk
is_unused-apart c [] s h none = absurd none
is_unused-apart c (r ∷ classes) s h m =
    by_first (λ later rest. is_unused-apart c classes s later rest) (meets c r.place.chunk) refl m h
  where
    by_first : (not (list_any (meets c) (map (λ (d : ClassRow). d.place.chunk) classes)) ≡ true
        → Among s classes → ¬ Meets c s.place.chunk)
        → (t : Bool) → meets c r.place.chunk ≡ t → Among s (r ∷ classes)
        → not (t || list_any (meets c) (map (λ (d : ClassRow). d.place.chunk) classes)) ≡ true
        → ¬ Meets c s.place.chunk
    by_first behind true e m h = absurd (cc)
    by_first behind false e (inl is) h = λ shared.
        let yes : meets c r.place.chunk ≡ true =
        subst (λ (d : ClassRow). meets c d.place.chunk ≡ true) is
        (meets-true c s.place.chunk shared) in
        absurd (cc)
    by_first behind false e (inr later) h = behind h later

-- a chunk that meets none of theirs passes the test
pub apart-unused : (c : Chunk) (classes : List ClassRow)
    → ((s : ClassRow) → Among s classes → ¬ Meets c s.place.chunk)
    → not (list_any (meets c) (map (λ (r : ClassRow). r.place.chunk) classes)) ≡ true
apart-unused c [] h = refl
apart-unused c (r ∷ classes) h =
    by_first (meets c r.place.chunk) refl (apart-unused c classes (λ s m. h s (inr m)))
  where
    by_first : (t : Bool) → meets c r.place.chunk ≡ t
        → not (list_any (meets c) (map (λ (d : ClassRow). d.place.chunk) classes)) ≡ true
        → not (t || list_any (meets c) (map (λ (d : ClassRow). d.place.chunk) classes)) ≡ true
    by_first true e rest = absurd (h r (inl refl) (meets-from c r.place.chunk e))
    by_first false e rest = rest

-- ---- a loader's last chunk

-- the last chunk is that of one of the loader's classes
pub last_chunk-among : (u : ℕ) (rows : List ClassRow) (c : Chunk) → last_chunk u rows ≡ Some c
    → (s : ClassRow) × Among s rows × (s.loader ≡ u) × (s.place.chunk ≡ c)
last_chunk-among u [] c h = absurd (cc)
last_chunk-among u (r ∷ rows) c h = by_rest (last_chunk u rows) (last_chunk-among u rows c) h
  where
    by_first : (t : Bool) → eqb r.loader u ≡ t → cond t (Some r.place.chunk) None ≡ Some c
        → (s : ClassRow) × Among s (r ∷ rows) × (s.loader ≡ u) × (s.place.chunk ≡ c)
    by_first true e is = (r, inl refl, eqb-true r.loader u e, cc)
    by_first false e is = absurd (cc)

    by_rest : (o : Option Chunk)
        → (o ≡ Some c → (s : ClassRow) × Among s rows × (s.loader ≡ u) × (s.place.chunk ≡ c))
        → elim o [ Some d ↦ Some d | None ↦ cond (eqb r.loader u) (Some r.place.chunk) None ]
        ≡ Some c
        → (s : ClassRow) × Among s (r ∷ rows) × (s.loader ≡ u) × (s.place.chunk ≡ c)
    by_rest (Some d) later is = let found = later is in (found.0, inr found.1, found.2, found.3)
    by_rest None later is = by_first (eqb r.loader u) refl is

pub is_last_chunk-among : {A : Type 0} (u : ℕ) (c : Chunk) (rows : List (Row A))
    → is_last_chunk u c rows ≡ true
    → (s : ClassRow) × Among s (classes_in rows) × (s.loader ≡ u) × (s.place.chunk ≡ c)
is_last_chunk-among u c rows h = by_last (last_chunk u (classes_in rows)) refl h
  where
    by_last : (o : Option Chunk) → last_chunk u (classes_in rows) ≡ o
        → option_map_or (λ last. same_chunk last c) o false ≡ true
        → (s : ClassRow) × Among s (classes_in rows) × (s.loader ≡ u) × (s.place.chunk ≡ c)
    by_last (Some last) e is =
        let found = last_chunk-among u (classes_in rows) last e in
        (found.0, found.1, found.2, found.3 ∙ same_chunk-true last c is)
    by_last None e is = absurd (cc)

-- where a class begins in its chunk: after as many words as those before it use, or at 0
pub begins_behind : {A : Type 0} (pre : List (Row A)) (r : ClassRow) → has_place pre r ≡ true
    → r.place.offset ≤ used_words r.place.chunk pre
begins_behind pre r h =
    let on_last = is_last_chunk r.loader r.place.chunk pre in
    let behind = eqb r.place.offset (used_words r.place.chunk pre) in
    let front = eqb r.place.offset 0 in
    let unused = is_unused r.place.chunk pre in
    elim (or_cases (on_last && behind) (front && unused) h) [
      | inl last ↦
          let e = eqb-true r.place.offset (used_words r.place.chunk pre)
          (and_parts on_last behind last).1 in
          omega (arith, e)
      | inr new ↦
          let e = eqb-true r.place.offset 0 (and_parts front unused new).0 in omega (arith, e)
    ]
