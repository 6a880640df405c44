-- What is kept of the classes on one chunk: after each change of the rows, and where it is once it
-- is moved.
-- For `moves_stand`, and on `kept_on` for crates above.
use Rattle.std.proofs.Common.{◌≡◌, ℕ, ◌+◌, Bool, true, false, cond, List, [], ◌∷◌, ◌++◌}
use Rattle.std.proofs.Common.{map, length, refl, sym, ap, subst, ◌∙◌, arith, eqb, inl, inr}
use Rattle.std.specs.Prelude.{not, ◌&&◌}
use Rattle.std.specs.List.{AllByRecursion}
use Rattle.std.proofs.lemmas.Bool.{eqb-true, and_parts, or_cases}
use Rattle.cm_pool.specs.declared.chunk.Chunk.{Chunk}
use Rattle.cm_pool.specs.declared.place.Place.{Place}
use Rattle.cm_pool.specs.Geometry.{Sizes}
use Rattle.cm_pool.specs.Chunks.{same_chunk, Meets}
use Rattle.cm_pool.specs.Lists.{Among}
use Rattle.cm_pool.proofs.{same_chunk-true, same_chunk-itself, meets-itself}
use Rattle.cm_layout.specs.declared.class_row.ClassRow.{ClassRow}
use Rattle.cm_layout.specs.declared.row.Row.{Row}
use Rattle.cm_layout.specs.declared.row.Row.TheVariants.{Loader, Class}
use Rattle.cm_layout.specs.Rows.{classes_in, used_words, kept_on, without_loader, moved, rows_with}
use Rattle.cm_layout.specs.Rows.{bare, move_writes}
use Rattle.cm_layout.specs.Rules.{is_unused, is_last_chunk, has_place}
use Rattle.cm_layout.specs.Frames.{BareRow, LiveRowsKeep, HoldsRecord, HoldsRow}
use Rattle.cm_layout.specs.Laws.{StandsAt, MovesStand}
use Rattle.cm_layout.proofs.ClassPlaces.{is_unused-apart, used-append}
use Rattle.cm_layout.proofs.StayLive.{class_keeps}

-- ---- rows that are joined, and rows with something else kept

pub kept-append : {P : Type 0} (c : Chunk) (xs ys : List (Row P))
    → kept_on c (xs ++ ys) ≡ kept_on c xs ++ kept_on c ys
kept-append c [] ys = refl
kept-append c (Loader r ∷ xs) ys = kept-append c xs ys
kept-append {P} c (Class r p ∷ xs) ys =
    by_test (same_chunk r.place.chunk c) (kept-append c xs ys)
  where
    by_test : (t : Bool) → kept_on c (xs ++ ys) ≡ kept_on c xs ++ kept_on c ys
        → cond t (p ∷ kept_on c (xs ++ ys)) (kept_on c (xs ++ ys))
        ≡ cond t (p ∷ kept_on c xs) (kept_on c xs) ++ kept_on c ys
    by_test true rest = ap (λ (l : List P). p ∷ l) rest
    by_test false rest = rest

pub kept-with : {P Q : Type 0} (f : P → Q) (c : Chunk) (rows : List (Row P))
    → kept_on c (rows_with f rows) ≡ map f (kept_on c rows)
kept-with f c [] = refl
kept-with f c (Loader r ∷ rows) = kept-with f c rows
kept-with {P} {Q} f c (Class r p ∷ rows) =
    by_test (same_chunk r.place.chunk c) (kept-with f c rows)
  where
    by_test : (t : Bool) → kept_on c (rows_with f rows) ≡ map f (kept_on c rows)
        → cond t (f p ∷ kept_on c (rows_with f rows)) (kept_on c (rows_with f rows))
        ≡ map f (cond t (p ∷ kept_on c rows) (kept_on c rows))
    by_test true rest = ap (λ (l : List Q). f p ∷ l) rest
    by_test false rest = rest

-- ---- a chunk that no row uses

-- no class is on the chunk
abbrev pub NoneOn : Chunk → List ClassRow → Type 0
NoneOn c classes = (s : ClassRow) → Among s classes → same_chunk s.place.chunk c ≡ false

pub unused-none : {P : Type 0} (c : Chunk) (rows : List (Row P)) → is_unused c rows ≡ true
    → NoneOn c (classes_in rows)
unused-none c rows h s m = by_test (same_chunk s.place.chunk c) refl
  where
    by_test : (t : Bool) → same_chunk s.place.chunk c ≡ t → t ≡ false
    by_test true e =
        let same : c ≡ s.place.chunk = sym (same_chunk-true s.place.chunk c e) in
        absurd (is_unused-apart c (classes_in rows) s h m
        (subst (λ (d : Chunk). Meets c d) same (meets-itself c)))
    by_test false e = refl

pub none-kept : {P : Type 0} (c : Chunk) (rows : List (Row P)) → NoneOn c (classes_in rows)
    → kept_on c rows ≡ []
none-kept c [] none = refl
none-kept c (Loader r ∷ rows) none = none-kept c rows none
none-kept c (Class r p ∷ rows) none =
    rw (none r (inl refl)) (none-kept c rows (λ s m. none s (inr m)))

pub none-used : {P : Type 0} (c : Chunk) (rows : List (Row P)) → NoneOn c (classes_in rows)
    → used_words c rows ≡ 0
none-used c [] none = refl
none-used c (Loader r ∷ rows) none = none-used c rows none
none-used c (Class r p ∷ rows) none =
    rw (none r (inl refl)) (none-used c rows (λ s m. none s (inr m)))

-- a class begins where those before it on its chunk end
pub begins-at : {P : Type 0} (pre : List (Row P)) (r : ClassRow) → has_place pre r ≡ true
    → r.place.offset ≡ used_words r.place.chunk pre
begins-at pre r h =
    let c = r.place.chunk in
    let on_last = is_last_chunk r.loader c pre in
    let behind = eqb r.place.offset (used_words c pre) in
    let front = eqb r.place.offset 0 in
    let unused = is_unused c pre in
    elim (or_cases (on_last && behind) (front && unused) h) [
      | inl last ↦ eqb-true r.place.offset (used_words c pre) (and_parts on_last behind last).1
      | inr new ↦
          let parts = and_parts front unused new in
          eqb-true r.place.offset 0 parts.0
          ∙ sym (none-used c pre (unused-none c pre parts.1))
    ]

-- ---- after an Unload and after a Move

pub kept-without : {P : Type 0} (c : Chunk) (u : ℕ) (rows : List (Row P))
    → ((s : ClassRow) → Among s (classes_in rows) → s.loader ≡ u
    → same_chunk s.place.chunk c ≡ false)
    → kept_on c (without_loader u rows) ≡ kept_on c rows
kept-without c u [] none = refl
kept-without c u (Loader r ∷ rows) none = by_test (eqb r.number u) (kept-without c u rows none)
  where
    by_test : (t : Bool) → kept_on c (without_loader u rows) ≡ kept_on c rows
        → kept_on c (cond (not t) (Loader r ∷ without_loader u rows) (without_loader u rows))
        ≡ kept_on c rows
    by_test true rest = rest
    by_test false rest = rest
kept-without {P} c u (Class r p ∷ rows) none =
    by_test (eqb r.loader u) refl (kept-without c u rows (λ s m. none s (inr m)))
  where
    by_test : (t : Bool) → eqb r.loader u ≡ t
        → kept_on c (without_loader u rows) ≡ kept_on c rows
        → kept_on c (cond (not t) (Class r p ∷ without_loader u rows) (without_loader u rows))
        ≡ cond (same_chunk r.place.chunk c) (p ∷ kept_on c rows) (kept_on c rows)
    by_test true is rest = rw (none r (inl refl) (eqb-true r.loader u is)) rest
    by_test false is rest =
        ap (λ (l : List P). cond (same_chunk r.place.chunk c) (p ∷ l) l) rest

-- what is kept on a chunk that isn't one of the move's
pub kept-elsewhere : {P : Type 0} (c from to : Chunk) (rows : List (Row P))
    → same_chunk from c ≡ false → same_chunk to c ≡ false
    → kept_on c (moved from to rows) ≡ kept_on c rows
kept-elsewhere c from to [] f t = refl
kept-elsewhere c from to (Loader r ∷ rows) f t = kept-elsewhere c from to rows f t
kept-elsewhere {P} c from to (Class r p ∷ rows) f t =
    by_test (same_chunk r.place.chunk from) refl (kept-elsewhere c from to rows f t)
  where
    by_test : (s : Bool) → same_chunk r.place.chunk from ≡ s
        → kept_on c (moved from to rows) ≡ kept_on c rows
        → kept_on c (cond s (Class (record r { place = record r.place { chunk = to } }) p)
        (Class r p) ∷ moved from to rows)
        ≡ cond (same_chunk r.place.chunk c) (p ∷ kept_on c rows) (kept_on c rows)
    by_test true is rest =
        let here : same_chunk r.place.chunk c ≡ false =
        subst (λ (d : Chunk). same_chunk d c ≡ false)
        (sym (same_chunk-true r.place.chunk from is)) f in
        rw t (rw here rest)
    by_test false is rest =
        ap (λ (l : List P). cond (same_chunk r.place.chunk c) (p ∷ l) l) rest

-- what is kept on the new chunk, which had none
pub kept-onto : {P : Type 0} (from to : Chunk) (rows : List (Row P)) → NoneOn to (classes_in rows)
    → kept_on to (moved from to rows) ≡ kept_on from rows
kept-onto from to [] none = refl
kept-onto from to (Loader r ∷ rows) none = kept-onto from to rows none
kept-onto {P} from to (Class r p ∷ rows) none =
    by_test (same_chunk r.place.chunk from) (kept-onto from to rows (λ s m. none s (inr m)))
  where
    by_test : (s : Bool) → kept_on to (moved from to rows) ≡ kept_on from rows
        → kept_on to (cond s (Class (record r { place = record r.place { chunk = to } }) p)
        (Class r p) ∷ moved from to rows)
        ≡ cond s (p ∷ kept_on from rows) (kept_on from rows)
    by_test true rest = rw (same_chunk-itself to) (ap (λ (l : List P). p ∷ l) rest)
    by_test false rest = rw (none r (inl refl)) rest

-- ---- where the records are

used-more : (c : Chunk) (pre : List BareRow) (row : BareRow) (n : ℕ) → used_words c (row ∷ []) ≡ n
    → used_words c (pre ++ row ∷ []) ≡ used_words c pre + n
used-more c pre row n is = used-append c pre (row ∷ []) ∙ ap (λ (k : ℕ). used_words c pre + k) is

module _ (sizes : Sizes) (n : ℕ) (from to : Chunk) (roots : List ℕ) where
  abbrev Laid : List (Place × List ℕ) → Type 0
  Laid writes = AllByRecursion (λ w. StandsAt sizes roots w.0 w.1) writes

  -- the record of a row is on the new chunk
  on-new : (r : ClassRow) (words : List ℕ) (offset : ℕ) → HoldsRecord sizes roots r words
      → r.place.offset ≡ offset
      → StandsAt sizes roots (record { chunk = to; offset = offset; words = length words }) words
      → HoldsRecord sizes roots (record r { place = record r.place { chunk = to } }) words
  on-new r words offset old is new =
      subst (λ (k : ℕ). HoldsRecord sizes roots
      (record {
        loader = r.loader;
        place = record { chunk = to; offset = k; words = r.place.words };
      })
      words) (sym is)
      (subst (λ (k : ℕ). HoldsRecord sizes roots
      (record { loader = r.loader; place = record { chunk = to; offset = offset; words = k } })
      words) old.count
      (record { count = new.count; whole = new.whole; held = new.held }))

  stand-behind : (pre : List BareRow) (rows : List (Row (List ℕ)))
      → LiveRowsKeep sizes n pre (bare rows) → AllByRecursion (HoldsRow sizes roots) rows
      → Laid (move_writes to (used_words from pre) (kept_on from rows))
      → AllByRecursion (HoldsRow sizes roots) (moved from to rows)
  stand-behind pre [] keep held laid = tt
  stand-behind pre (Loader r ∷ rows) keep held laid =
      let same : used_words from pre ≡ used_words from (pre ++ Loader r ∷ []) =
      omega (arith, used-more from pre (Loader r) 0 refl) in (
        tt,
        stand-behind (pre ++ Loader r ∷ []) rows keep.2 held.1
            (subst (λ (k : ℕ). Laid (move_writes to k (kept_on from rows))) same laid),
      )
  stand-behind pre (Class r words ∷ rows) keep held laid =
      by_test (stand-behind (pre ++ Class r (tt {0}) ∷ []) rows keep.2 held.1)
      (same_chunk r.place.chunk from) refl laid
    where
      by_test : (Laid (move_writes to (used_words from (pre ++ Class r (tt {0}) ∷ []))
          (kept_on from rows)) → AllByRecursion (HoldsRow sizes roots) (moved from to rows))
          → (t : Bool) → same_chunk r.place.chunk from ≡ t
          → Laid (move_writes to (used_words from pre)
          (cond t (words ∷ kept_on from rows) (kept_on from rows)))
          → AllByRecursion (HoldsRow sizes roots)
          (cond t (Class (record r { place = record r.place { chunk = to } }) words)
          (Class r words) ∷ moved from to rows)
      by_test rest true e laid =
          let on : r.place.chunk ≡ from = same_chunk-true r.place.chunk from e in
          let place = class_keeps sizes pre r keep.1 in
          let is : r.place.offset ≡ used_words from pre =
          begins-at pre r place.place ∙ ap (λ (c : Chunk). used_words c pre) on in
          let one : used_words from (Class r (tt {0}) ∷ []) ≡ r.place.words =
          rw e (omega arith) in
          let same : used_words from pre + length words
          ≡ used_words from (pre ++ Class r (tt {0}) ∷ []) =
          omega (arith, used-more from pre (Class r (tt {0})) r.place.words one, held.0.count) in (
            on-new r words (used_words from pre) held.0 is laid.0,
            rest (subst (λ (k : ℕ). Laid (move_writes to k (kept_on from rows))) same laid.1),
          )
      by_test rest false e laid =
          let one : used_words from (Class r (tt {0}) ∷ []) ≡ 0 = rw e refl in
          let same : used_words from pre ≡ used_words from (pre ++ Class r (tt {0}) ∷ []) =
          omega (arith, used-more from pre (Class r (tt {0})) 0 one) in (
            held.0,
            rest (subst (λ (k : ℕ). Laid (move_writes to k (kept_on from rows))) same laid),
          )

pub moves-stand : MovesStand
moves-stand sizes n rows from to roots keep held laid =
    stand-behind sizes n from to roots [] rows keep held laid
