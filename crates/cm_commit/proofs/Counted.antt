-- Rows whose records have as many words as they say, after each entry, and how many words records
-- on
-- one chunk have.
-- For `Committer::advance`, `Committer::images`, `Committer::offer` and others.
use Rattle.std.proofs.Common.{◌≡◌, ℕ, ◌+◌, ◌≤◌, Bool, true, false, cond, List, [], ◌∷◌, ◌++◌}
use Rattle.std.proofs.Common.{length, refl, arith, eqb}
use Rattle.std.specs.Prelude.{not}
use Rattle.cm_pool.specs.declared.chunk.Chunk.{Chunk}
use Rattle.cm_pool.specs.Chunks.{same_chunk}
use Rattle.cm_pool.specs.Geometry.{Sizes}
use Rattle.cm_layout.specs.declared.row.Row.{Row}
use Rattle.cm_layout.specs.declared.row.Row.TheVariants.{Loader, Class}
use Rattle.cm_layout.specs.declared.entry.Entry.{Entry}
use Rattle.cm_layout.specs.declared.entry.Entry.TheVariants as entry
use Rattle.cm_layout.specs.Rows.{used_words, kept_on, rows_after, without_loader}
use Rattle.cm_layout.specs.Rows.{without_loaders, moved}
use Rattle.cm_layout.proofs.{used-append}
use Rattle.cm_commit.specs.Keeps.{AreCounted}
use Rattle.cm_commit.specs.Offers.{HasOwn}
use Rattle.cm_commit.proofs.Held.{HoldRows}

-- records that are in their places have as many words
pub counted-held : (sizes : Sizes) (contents : List ℕ) (rows : List (Row (List ℕ)))
    → HoldRows sizes contents rows → AreCounted rows
counted-held sizes contents [] held = tt
counted-held sizes contents (Loader r ∷ rows) held =
    (tt, counted-held sizes contents rows held.1)
counted-held sizes contents (Class r words ∷ rows) held =
    (held.0.count, counted-held sizes contents rows held.1)

counted-append : (rows more : List (Row (List ℕ))) → AreCounted rows → AreCounted more
    → AreCounted (rows ++ more)
counted-append [] more old new = new
counted-append (row ∷ rows) more old new = (old.0, counted-append rows more old.1 new)

counted-without : (u : ℕ) (rows : List (Row (List ℕ))) → AreCounted rows
    → AreCounted (without_loader u rows)
counted-without u [] counted = tt
counted-without u (Loader r ∷ rows) counted =
    by_test (eqb r.number u) (counted-without u rows counted.1)
  where
    by_test : (t : Bool) → AreCounted (without_loader u rows)
        → AreCounted (cond (not t) (Loader r ∷ without_loader u rows) (without_loader u rows))
    by_test true rest = rest
    by_test false rest = (tt, rest)
counted-without u (Class r words ∷ rows) counted =
    by_test (eqb r.loader u) (counted-without u rows counted.1)
  where
    by_test : (t : Bool) → AreCounted (without_loader u rows)
        → AreCounted (cond (not t) (Class r words ∷ without_loader u rows) (without_loader u rows))
    by_test true rest = rest
    by_test false rest = (counted.0, rest)

counted-without-all : (us : List ℕ) (rows : List (Row (List ℕ))) → AreCounted rows
    → AreCounted (without_loaders us rows)
counted-without-all [] rows counted = counted
counted-without-all (u ∷ us) rows counted =
    counted-without-all us (without_loader u rows) (counted-without u rows counted)

counted-moved : (from to : Chunk) (rows : List (Row (List ℕ))) → AreCounted rows
    → AreCounted (moved from to rows)
counted-moved from to [] counted = tt
counted-moved from to (Loader r ∷ rows) counted = (tt, counted-moved from to rows counted.1)
counted-moved from to (Class r words ∷ rows) counted =
    by_test (same_chunk r.place.chunk from) (counted-moved from to rows counted.1)
  where
    by_test : (t : Bool) → AreCounted (moved from to rows)
        → AreCounted (cond t (Class (record r { place = record r.place { chunk = to } }) words)
        (Class r words) ∷ moved from to rows)
    by_test true rest = (counted.0, rest)
    by_test false rest = (counted.0, rest)

pub counted-after : (rows : List (Row (List ℕ))) (e : Entry (List ℕ)) → AreCounted rows → HasOwn e
    → AreCounted (rows_after rows e)
counted-after rows (entry.Live (Loader r)) counted has =
    counted-append rows (Loader r ∷ []) counted (tt, tt)
counted-after rows (entry.Live (Class r words)) counted has =
    counted-append rows (Class r words ∷ []) counted (has, tt)
counted-after rows (entry.Unload e) counted has = counted-without e.loader rows counted
counted-after rows (entry.UnloadAll e) counted has = counted-without-all e.loaders rows counted
counted-after rows (entry.Move e) counted has = counted-moved e.from e.to rows counted

-- ---- records on one chunk

-- how many words records have
abbrev pub words_in : List (List ℕ) → ℕ
words_in [] = 0
words_in (words ∷ records) = length words + words_in records

pub kept-words : (c : Chunk) (rows : List (Row (List ℕ))) → AreCounted rows
    → words_in (kept_on c rows) ≡ used_words c rows
kept-words c [] counted = refl
kept-words c (Loader r ∷ rows) counted = kept-words c rows counted.1
kept-words c (Class r words ∷ rows) counted =
    by_test (same_chunk r.place.chunk c) refl (kept-words c rows counted.1)
  where
    by_test : (t : Bool) → same_chunk r.place.chunk c ≡ t
        → words_in (kept_on c rows) ≡ used_words c rows
        → words_in (cond t (words ∷ kept_on c rows) (kept_on c rows))
        ≡ used_words c (Class r words ∷ rows)
    by_test true e rest =
        let one : used_words c (Class r words ∷ []) ≡ r.place.words = rw e (omega arith) in
        omega (arith, used-append c (Class r words ∷ []) rows, one, rest, counted.0)
    by_test false e rest =
        let one : used_words c (Class r words ∷ []) ≡ 0 = rw e refl in
        omega (arith, used-append c (Class r words ∷ []) rows, one, rest)

-- a chunk has no more records than there are rows
pub kept-few : {P : Type 0} (c : Chunk) (rows : List (Row P)) → length (kept_on c rows) ≤ length
    rows
kept-few c [] = omega arith
kept-few c (Loader r ∷ rows) = omega (arith, kept-few c rows)
kept-few {P} c (Class r p ∷ rows) = by_test (same_chunk r.place.chunk c) (kept-few c rows)
  where
    by_test : (t : Bool) → length (kept_on c rows) ≤ length rows
        → length (cond t (p ∷ kept_on c rows) (kept_on c rows)) ≤ length (Class r p ∷ rows)
    by_test true rest = omega (arith, rest)
    by_test false rest = omega (arith, rest)
