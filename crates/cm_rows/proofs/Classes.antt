-- Rows of classes: what joining, leaving out and moving does to a loader's last chunk and to used
-- words.
-- For `LiveRows+unit::copy_from`, `LiveRows::add_loader`, `LiveRows::clear` and others.
use Rattle.std.proofs.Common.{◌≡◌, ◌≢◌, ℕ, ◌+◌, ◌≤◌, Bool, true, false, cond, eqb, List, [], ◌∷◌}
use Rattle.std.proofs.Common.{◌++◌, map, Option, Some, None, inl, inr, refl, sym, ◌∙◌, ap, arith}
use Rattle.std.specs.Prelude.{filter, sum}
use Rattle.std.specs.Option.{option_map}
use Rattle.std.proofs.lemmas.Bool.{eqb-true, eq-eqb}
use Rattle.std.proofs.lemmas.List.Sums.{sum-map, sum_by-cons}
use Rattle.cm_pool.specs.declared.chunk.Chunk.{Chunk}
use Rattle.cm_pool.specs.Chunks.{same_chunk}
use Rattle.cm_pool.specs.Lists.{Among}
use Rattle.cm_pool.proofs.{same_chunk-itself, same_chunk-is, same_chunk-cases, same_chunk-false}
use Rattle.cm_pool.proofs.{among-map, among-map_from, among-filter, among-filter_from}
use Rattle.cm_layout.specs.declared.class_row.ClassRow.{ClassRow}
use Rattle.cm_layout.specs.Rows.{classes_in, used_words, last_chunk}
use Rattle.cm_rows.specs.Held.{first_chunks}
use Rattle.cm_layout.specs.declared.row.Row.{Row}
use Rattle.cm_layout.proofs.{last_chunk-among}

-- ---- the used words of a chunk, by recursion

abbrev pub used : Chunk → List ClassRow → ℕ
used c [] = 0
used c (r ∷ rs) = cond (same_chunk r.place.chunk c) (r.place.words + used c rs) (used c rs)

abbrev words_on : Chunk → List ClassRow → List ℕ
words_on c rs = map (λ (r : ClassRow). r.place.words) (filter
    (λ (r : ClassRow). same_chunk r.place.chunk c) rs)

used-sum : (c : Chunk) (rs : List ClassRow) → sum (words_on c rs) ≡ used c rs
used-sum c [] = refl
used-sum c (r ∷ rs) = by_test (used-sum c rs) (same_chunk r.place.chunk c)
  where
    by_test : sum (words_on c rs) ≡ used c rs → (t : Bool)
        → sum (map (λ (r : ClassRow). r.place.words) (cond t (r ∷ filter
        (λ (r : ClassRow). same_chunk r.place.chunk c) rs) (filter
        (λ (r : ClassRow). same_chunk r.place.chunk c) rs)))
        ≡ cond t (r.place.words + used c rs) (used c rs)
    by_test behind true =
        let rest = filter (λ (s : ClassRow). same_chunk s.place.chunk c) rs in
        sum-map (λ (s : ClassRow). s.place.words) (r ∷ rest) ∙ sum_by-cons
        (λ (s : ClassRow). s.place.words) r rest
        ∙ ap (λ n. r.place.words + n) (sym (sum-map
        (λ (s : ClassRow). s.place.words) rest) ∙ behind)
    by_test behind false = behind

pub used-is : {P : Type 0} (c : Chunk) (rows : List (Row P))
    → used_words c rows ≡ used c (classes_in rows)
used-is c rows = used-sum c (classes_in rows)

pub used-append : (c : Chunk) (rs ss : List ClassRow) → used c (rs ++ ss) ≡ used c rs + used c ss
used-append c [] ss = omega arith
used-append c (r ∷ rs) ss = by_test (used-append c rs ss) (same_chunk r.place.chunk c)
  where
    by_test : used c (rs ++ ss) ≡ used c rs + used c ss → (t : Bool)
        → cond t (r.place.words + used c (rs ++ ss)) (used c (rs ++ ss))
        ≡ cond t (r.place.words + used c rs) (used c rs) + used c ss
    by_test behind true = omega (arith, behind)
    by_test behind false = behind

-- no record is on the chunk
pub used-none : (c : Chunk) (rs : List ClassRow) → ((r : ClassRow) → Among r rs
    → r.place.chunk ≢ c) → used c rs ≡ 0
used-none c [] h = refl
used-none c (r ∷ rs) h =
    elim (same_chunk-cases r.place.chunk c) [
      | inl (t, e) ↦ absurd (h r (inl refl) e)
      | inr (f, d) ↦ rw f (used-none c rs (λ s m. h s (inr m)))
    ]

pub used-some : (c : Chunk) (rs : List ClassRow) (r : ClassRow) → Among r rs → r.place.chunk ≡ c
    → 1 ≤ r.place.words → 1 ≤ used c rs
used-some c [] r none e some = absurd none
used-some c (s ∷ rs) r (inl is) e some =
    let on : s.place.chunk ≡ c = ap (λ (d : ClassRow). d.place.chunk) (sym is) ∙ e in
    let words : r.place.words ≡ s.place.words = ap (λ (d : ClassRow). d.place.words) is in
    rw (same_chunk-is s.place.chunk c on) (omega arith)
used-some c (s ∷ rs) r (inr m) e some =
    by_test (used-some c rs r m e some) (same_chunk s.place.chunk c)
  where
    by_test : 1 ≤ used c rs → (t : Bool) → 1 ≤ cond t (s.place.words + used c rs) (used c rs)
    by_test behind true = omega arith
    by_test behind false = behind

-- all records on the chunk stay
pub used-filter : (c : Chunk) (p : ClassRow → Bool) (rs : List ClassRow) → ((r : ClassRow)
    → Among r rs → r.place.chunk ≡ c → p r ≡ true) → used c (filter p rs) ≡ used c rs
used-filter c p [] h = refl
used-filter c p (r ∷ rs) h =
    elim (same_chunk-cases r.place.chunk c) [
      | inl (t, e) ↦ rw (h r (inl refl) e, t) (ap (λ n. r.place.words + n) (used-filter c p rs
          (λ s m. h s (inr m))))
      | inr (f, d) ↦ by_test f (used-filter c p rs (λ s m. h s (inr m))) (p r)
    ]
  where
    by_test : same_chunk r.place.chunk c ≡ false → used c (filter p rs) ≡ used c rs → (t : Bool)
        → used c (cond t (r ∷ filter p rs) (filter p rs))
        ≡ cond (same_chunk r.place.chunk c) (r.place.words + used c rs) (used c rs)
    by_test f behind true = rw (f) behind
    by_test f behind false = rw (f) behind

-- ---- a loader's last chunk

-- like the last case of the definition
or_own : ℕ → ClassRow → Option Chunk → Option Chunk
or_own u r o = elim o [ Some c ↦ Some c | None ↦ cond (eqb r.loader u) (Some r.place.chunk) None ]

pub last-push : (u : ℕ) (rs : List ClassRow) (r : ClassRow)
    → last_chunk u (rs ++ r ∷ []) ≡ cond (eqb r.loader u) (Some r.place.chunk) (last_chunk u rs)
unfolding or_own
last-push u [] r = refl
last-push u (s ∷ rs) r = ap (or_own u s) (last-push u rs r) ∙ by_test (eqb r.loader u)
  where
    by_test : (t : Bool)
        → or_own u s (cond t (Some r.place.chunk) (last_chunk u rs))
        ≡ cond t (Some r.place.chunk) (or_own u s (last_chunk u rs))
    by_test true = refl
    by_test false = refl

-- a loader with no class has no last chunk
pub last-none : (u : ℕ) (rs : List ClassRow) → ((r : ClassRow) → Among r rs → r.loader ≢ u)
    → last_chunk u rs ≡ None
last-none u rs h = by_last (last_chunk u rs) refl
  where
    by_last : (o : Option Chunk) → last_chunk u rs ≡ o → o ≡ None
    by_last None e = refl
    by_last (Some c) e = let s = last_chunk-among u rs c e in absurd (h s.0 s.1 s.2)

-- if all of a loader's classes stay, so does its last chunk
pub last-filter : (u : ℕ) (p : ClassRow → Bool) (rs : List ClassRow) → ((r : ClassRow)
    → Among r rs → r.loader ≡ u → p r ≡ true) → last_chunk u (filter p rs) ≡ last_chunk u rs
unfolding or_own
last-filter u p [] h = refl
last-filter u p (r ∷ rs) h = by_test (last-filter u p rs (λ s m. h s (inr m))) (p r) refl
  where
    own : (t : Bool) → eqb r.loader u ≡ t → p r ≡ false → cond t (Some r.place.chunk) None ≡ None
    own true e f = let yes = h r (inl refl) (eqb-true r.loader u e) in absurd (cc)
    own false e f = refl

    kept : (o : Option Chunk) → p r ≡ false → o ≡ or_own u r o
    kept (Some c) f = refl
    kept None f = sym (own (eqb r.loader u) refl f)

    by_test : last_chunk u (filter p rs) ≡ last_chunk u rs → (t : Bool) → p r ≡ t
        → last_chunk u (cond t (r ∷ filter p rs) (filter p rs)) ≡ or_own u r (last_chunk u rs)
    by_test behind true e = ap (or_own u r) behind
    by_test behind false e = behind ∙ kept (last_chunk u rs) e

-- ---- a move

-- where a chunk's records are after a move
abbrev pub goes : Chunk → Chunk → Chunk → Chunk
goes from to c = cond (same_chunk c from) to c

abbrev pub moved_class : Chunk → Chunk → ClassRow → ClassRow
moved_class from to r =
    cond (same_chunk r.place.chunk from) (record r { place = record r.place { chunk = to } }) r

-- what a moved class keeps, and where it is
pub record IsMoved (from to : Chunk) (r x : ClassRow) : Type 0 where
  pub loader : x.loader ≡ r.loader
  pub offset : x.place.offset ≡ r.place.offset
  pub words : x.place.words ≡ r.place.words
  pub chunk : x.place.chunk ≡ goes from to r.place.chunk

pub is_moved : (from to : Chunk) (r : ClassRow) → IsMoved from to r (moved_class from to r)
is_moved from to r = by_test (same_chunk r.place.chunk from) refl
  where
    by_test : (t : Bool) → same_chunk r.place.chunk from ≡ t
        → IsMoved from to r (cond t (record r { place = record r.place { chunk = to } }) r)
    by_test true e = record { loader = refl; offset = refl; words = refl; chunk = rw (e) refl }
    by_test false e = record { loader = refl; offset = refl; words = refl; chunk = rw (e) refl }

pub last-moved : (u : ℕ) (from to : Chunk) (rs : List ClassRow)
    → last_chunk u (map (moved_class from to) rs) ≡ option_map (goes from to) (last_chunk u rs)
unfolding or_own
last-moved u from to [] = refl
last-moved u from to (r ∷ rs) =
    let m = moved_class from to r in
    let is = is_moved from to r in
    ap (or_own u m) (last-moved u from to rs)
    ∙ by_last (last_chunk u rs) (moved_class from to r) is.loader is.chunk
  where
    own : (t : Bool) (c : Chunk) → c ≡ goes from to r.place.chunk
        → cond t (Some c) None ≡ option_map (goes from to) (cond t (Some r.place.chunk) None)
    own true c e = ap Some e
    own false c e = refl

    by_last : (o : Option Chunk) (m : ClassRow) → m.loader ≡ r.loader
        → m.place.chunk ≡ goes from to r.place.chunk
        → or_own u m (option_map (goes from to) o) ≡ option_map (goes from to) (or_own u r o)
    by_last (Some c) m l e = refl
    by_last None m l e = rw l (own (eqb r.loader u) m.place.chunk e)

-- the words on a chunk that isn't one of the two stay
pub used-elsewhere : (c from to : Chunk) (rs : List ClassRow) → c ≢ from → c ≢ to
    → used c (map (moved_class from to) rs) ≡ used c rs
used-elsewhere c from to [] nf nt = refl
used-elsewhere c from to (r ∷ rs) nf nt =
    let is = is_moved from to r in
    step (used-elsewhere c from to rs nf nt) (moved_class from to r) is.words is.chunk
  where
    same_test : same_chunk (goes from to r.place.chunk) c ≡ same_chunk r.place.chunk c
    same_test =
        elim (same_chunk-cases r.place.chunk from) [
          | inl (t, e) ↦ rw t (same_chunk-false to c
              (λ i. nt (sym i)) ∙ sym (same_chunk-false r.place.chunk c (λ i. nf (sym i ∙ e))))
          | inr (f, d) ↦ rw (f) refl
        ]

    step : used c (map (moved_class from to) rs) ≡ used c rs → (m : ClassRow)
        → m.place.words ≡ r.place.words → m.place.chunk ≡ goes from to r.place.chunk
        → cond (same_chunk m.place.chunk c) (m.place.words + used c (map (moved_class from to) rs))
        (used c (map (moved_class from to) rs))
        ≡ cond (same_chunk r.place.chunk c) (r.place.words + used c rs) (used c rs)
    step behind m w e = rw (w, e, same_test, behind) refl

-- all the words on the old chunk are on the new one, if that had no record
pub used-moved : (from to : Chunk) (rs : List ClassRow) → ((r : ClassRow) → Among r rs
    → r.place.chunk ≢ to) → used to (map (moved_class from to) rs) ≡ used from rs
used-moved from to [] h = refl
used-moved from to (r ∷ rs) h =
    let is = is_moved from to r in
    step (used-moved from to rs (λ s m. h s (inr m))) (moved_class from to r) is.words is.chunk
  where
    same_test : same_chunk (goes from to r.place.chunk) to ≡ same_chunk r.place.chunk from
    same_test =
        elim (same_chunk-cases r.place.chunk from) [
          | inl (t, e) ↦ rw t (same_chunk-itself to)
          | inr (f, d) ↦ rw (f) (same_chunk-false r.place.chunk to (h r (inl refl)))
        ]

    step : used to (map (moved_class from to) rs) ≡ used from rs → (m : ClassRow)
        → m.place.words ≡ r.place.words → m.place.chunk ≡ goes from to r.place.chunk
        → cond (same_chunk m.place.chunk to)
        (m.place.words + used to (map (moved_class from to) rs))
        (used to (map (moved_class from to) rs))
        ≡ cond (same_chunk r.place.chunk from) (r.place.words + used from rs) (used from rs)
    step behind m w e = rw (w, e, same_test, behind) refl

-- ---- first chunks

pub first-push : (rs : List ClassRow) (r : ClassRow)
    → first_chunks (rs ++ r ∷ []) ≡ first_chunks rs
    ++ cond (eqb r.place.offset 0) (r.place.chunk ∷ []) []
first-push [] r = by_test (eqb r.place.offset 0)
  where
    by_test : (t : Bool) → map
        (λ (s : ClassRow). s.place.chunk) (cond t (r ∷ []) []) ≡ cond t (r.place.chunk ∷ []) []
    by_test true = refl
    by_test false = refl
first-push (s ∷ rs) r = by_test (first-push rs r) (eqb s.place.offset 0)
  where
    more : List Chunk
    more = cond (eqb r.place.offset 0) (r.place.chunk ∷ []) []

    by_test : first_chunks (rs ++ r ∷ []) ≡ first_chunks rs
        ++ cond (eqb r.place.offset 0) (r.place.chunk ∷ []) [] → (t : Bool)
        → map (λ (d : ClassRow). d.place.chunk) (cond t (s ∷ filter
        (λ (d : ClassRow). eqb d.place.offset 0) (rs ++ r ∷ [])) (filter
        (λ (d : ClassRow). eqb d.place.offset 0) (rs ++ r ∷ [])))
        ≡ map (λ (d : ClassRow). d.place.chunk) (cond t (s ∷ filter
        (λ (d : ClassRow). eqb d.place.offset 0) rs) (filter
        (λ (d : ClassRow). eqb d.place.offset 0) rs))
        ++ cond (eqb r.place.offset 0) (r.place.chunk ∷ []) []
    by_test behind true = ap (λ l. s.place.chunk ∷ l) behind
    by_test behind false = behind

pub first-moved : (from to : Chunk) (rs : List ClassRow)
    → first_chunks (map (moved_class from to) rs) ≡ map (goes from to) (first_chunks rs)
first-moved from to [] = refl
first-moved from to (r ∷ rs) =
    let is = is_moved from to r in
    step (first-moved from to rs) (moved_class from to r) is.offset is.chunk
  where
    by_test : first_chunks (map (moved_class from to) rs) ≡ map (goes from to) (first_chunks rs)
        → (m : ClassRow) → m.place.chunk ≡ goes from to r.place.chunk → (b t : Bool) → b ≡ t
        → map (λ (d : ClassRow). d.place.chunk) (cond b (m ∷ filter
        (λ (d : ClassRow). eqb d.place.offset 0) (map (moved_class from to) rs)) (filter
        (λ (d : ClassRow). eqb d.place.offset 0) (map (moved_class from to) rs)))
        ≡ map (goes from to) (map (λ (d : ClassRow). d.place.chunk) (cond t (r ∷ filter
        (λ (d : ClassRow). eqb d.place.offset 0) rs) (filter
        (λ (d : ClassRow). eqb d.place.offset 0) rs)))
    by_test behind m e true true same = rw (e) (ap (λ l. goes from to r.place.chunk ∷ l) behind)
    by_test behind m e true false same = absurd (cc)
    by_test behind m e false true same = absurd (cc)
    by_test behind m e false false same = behind

    step : first_chunks (map (moved_class from to) rs) ≡ map (goes from to) (first_chunks rs)
        → (m : ClassRow) → m.place.offset ≡ r.place.offset
        → m.place.chunk ≡ goes from to r.place.chunk
        → map (λ (d : ClassRow). d.place.chunk) (cond (eqb m.place.offset 0) (m ∷ filter
        (λ (d : ClassRow). eqb d.place.offset 0) (map (moved_class from to) rs)) (filter
        (λ (d : ClassRow). eqb d.place.offset 0) (map (moved_class from to) rs)))
        ≡ map (goes from to) (map
        (λ (d : ClassRow). d.place.chunk) (cond (eqb r.place.offset 0) (r ∷ filter
        (λ (d : ClassRow). eqb d.place.offset 0) rs) (filter
        (λ (d : ClassRow). eqb d.place.offset 0) rs)))
    step behind m o e = by_test behind m e (eqb m.place.offset 0) (eqb r.place.offset 0) (ap
        (λ (n : ℕ). eqb n 0) o)

-- a chunk with a first record is that of a class
pub first-among : (c : Chunk) (rs : List ClassRow) → Among c (first_chunks rs) → (r : ClassRow)
    × Among r rs × (r.place.chunk ≡ c) × (r.place.offset ≡ 0)
first-among c rs m =
    let found = among-map_from (λ (r : ClassRow). r.place.chunk) c (filter
    (λ (r : ClassRow). eqb r.place.offset 0) rs) m in
    let kept = among-filter_from (λ (r : ClassRow). eqb r.place.offset 0) found.0 rs found.1 in
    (found.0, kept.0, sym found.2, eqb-true found.0.place.offset 0 kept.1)

pub among-first : (r : ClassRow) (rs : List ClassRow) → Among r rs → r.place.offset ≡ 0
    → Among r.place.chunk (first_chunks rs)
among-first r rs m e =
    among-map (λ (s : ClassRow). s.place.chunk) r (filter
    (λ (s : ClassRow). eqb s.place.offset 0) rs)
    (among-filter (λ (s : ClassRow). eqb s.place.offset 0) r rs m (eq-eqb r.place.offset 0 e))
